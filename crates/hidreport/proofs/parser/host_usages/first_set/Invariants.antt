use Rattle.std.proofs.Common.{◌≡◌, ◌++◌, drop, false, take}
use Rattle.hidreport.specs.HostUsages.{first_set}
use Rattle.hidreport.proofs.parser.host_usages.first_set.Given as goal

-- those so far stand before the second set
abbrev pub invariant-loop-index : goal.invariant-loop-index
invariant-loop-index l =
    first_set false l.locals ≡ take l.index l.locals ++ first_set l.is_open (drop l.index l.locals)
