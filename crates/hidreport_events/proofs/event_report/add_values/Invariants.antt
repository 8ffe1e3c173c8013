use Rattle.std.proofs.Common.{◌≡◌, ◌++◌, ◌-◌}
use Rattle.hidreport_events.specs.Reports.{values_from}
use Rattle.hidreport_events.proofs.event_report.add_values.Given as goal

-- those so far, and those that are left, are all
abbrev pub invariant-loop-index : goal.invariant-loop-index
invariant-loop-index l =
    l.fn.values.items ++ values_from l.field l.bytes 0 l.field.count
    ≡ l.values.items ++ values_from l.field l.bytes l.index (l.field.count - l.index)
