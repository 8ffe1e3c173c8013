use Rattle.std.proofs.Common.{◌≡◌, ◌++◌, drop}
use Rattle.hidreport_events.specs.Reports.{values_in}
use Rattle.hidreport_events.proofs.event_report.values_in.Given as goal

-- those so far, and those of the fields behind them, are all
abbrev pub invariant-loop-field : goal.invariant-loop-field
invariant-loop-field l =
    values_in l.fields l.bytes ≡ l.values.items ++ values_in (drop l.field-index l.fields) l.bytes
