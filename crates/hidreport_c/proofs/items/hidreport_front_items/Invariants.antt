use Rattle.std.proofs.Common.{◌≡◌, ◌≤◌, ◌+◌, ◌++◌, List, length}
use Rattle.hidreport_c.specs.Answer.{array_after}
use Rattle.hidreport_c.specs.Items.{front_items}
use Rattle.hidreport_c.specs.declared.structs.HidreportItem.{HidreportItem}
use Rattle.hidreport_c.proofs.items.hidreport_front_items.Given as goal

-- the items so far are written and counted, and those of the rest stand behind them
abbrev pub invariant-loop-rest : goal.invariant-loop-rest
invariant-loop-rest l =
    (before : List HidreportItem) × (length before ≡ l.count)
    × (front_items 0 0 l.descriptor ≡ before ++ front_items l.offset 0 l.rest)
    × (l.items ≡ array_after before l.initial.items)
    × (l.offset + length l.rest ≡ length l.descriptor) × (l.count ≤ l.offset)

-- each item takes some of the rest
abbrev pub decreases-loop-rest : goal.decreases-loop-rest
decreases-loop-rest l = length l.rest
