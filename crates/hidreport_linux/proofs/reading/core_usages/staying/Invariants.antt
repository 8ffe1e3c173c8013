use Rattle.std.proofs.Common.{◌≡◌, drop}
use Rattle.hidreport_linux.specs.CoreUsages.{staying}
use Rattle.hidreport_linux.proofs.reading.core_usages.staying.Given as goal

-- those behind the ones so far make it what all make it
abbrev pub invariant-loop-index : goal.invariant-loop-index
invariant-loop-index l =
    staying l.page 0 0 l.named ≡ staying l.page l.index l.count (drop l.index l.named)
