use Rattle.std.proofs.Common.{◌≡◌, drop}
use Rattle.hidreport_linux.specs.CoreUsages.{names_one}
use Rattle.hidreport_linux.proofs.reading.core_usages.names_one.Given as goal

-- none so far names it
abbrev pub invariant-loop-index : goal.invariant-loop-index
invariant-loop-index l = names_one l.page l.usage l.staying 0 l.named
    ≡ names_one l.page l.usage l.staying l.index (drop l.index l.named)
