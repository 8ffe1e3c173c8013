use Rattle.std.proofs.Common.{◌≡◌, ◌++◌, drop}
use Rattle.hidreport_linux.specs.CoreUsages.{moved_from}
use Rattle.hidreport_linux.proofs.reading.core_usages.add_moved.Given as goal

-- those so far, and those behind them, are all
abbrev pub invariant-loop-index : goal.invariant-loop-index
invariant-loop-index l =
    l.fn.all.items ++ moved_from l.page l.staying 0 l.named
    ≡ l.all.items ++ moved_from l.page l.staying l.index (drop l.index l.named)
