use Rattle.std.proofs.Common.{◌≡◌, ◌++◌, drop}
use Rattle.hidreport_events.specs.Reports.{values_behind}
use Rattle.hidreport_events.proofs.event_report.values_behind.Given as goal

-- those so far, and those of the fields behind them, are all
abbrev pub invariant-loop-field : goal.invariant-loop-field
invariant-loop-field l =
    values_behind l.fields l.sources l.before l.values
    ≡ l.kept.items ++ values_behind (drop l.field-index l.fields) l.sources l.before l.values
