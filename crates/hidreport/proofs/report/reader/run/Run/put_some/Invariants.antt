use Rattle.std.proofs.Common.{◌≡◌}
use Rattle.hidreport.specs.Runs.{numbers_from, set_from}
use Rattle.hidreport.proofs.report.reader.run.Run.put_some.Given as goal

-- the numbers before this one are in place
abbrev pub invariant-loop-index : goal.invariant-loop-index
invariant-loop-index l =
    l.values ≡ set_from l.place (numbers_from l.self l.bytes 0 l.index) l.initial.values
