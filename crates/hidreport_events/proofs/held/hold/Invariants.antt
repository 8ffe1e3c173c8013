use Rattle.std.proofs.Common.{◌≡◌, drop}
use Rattle.hidreport_events.specs.Readers.{held_from}
use Rattle.hidreport_events.proofs.held.hold.Given as goal

-- those so far are in their places
abbrev pub invariant-loop-value : goal.invariant-loop-value
invariant-loop-value l =
    held_from l.first l.kept l.fn.values.items
    ≡ held_from l.index (drop l.value-index l.kept) l.values.items
