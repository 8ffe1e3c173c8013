use Rattle.std.proofs.Common.{◌≡◌}
use Rattle.hidreport.proofs.parser.around.Around.new.Given as goal

-- they stay the same
abbrev pub invariant-loop-collection : goal.invariant-loop-collection
invariant-loop-collection l = l.open ≡ l.initial.open
