use Rattle.std.proofs.Common.{◌≡◌, drop}
use Rattle.hidreport_events.specs.Reports.{behind_fields}
use Rattle.hidreport_events.proofs.sender.Sender.take_fields.Given as goal

-- the fields so far, and those behind them, are all
abbrev pub invariant-loop-field : goal.invariant-loop-field
invariant-loop-field l =
    behind_fields l.rank l.fields l.sources l.before l.values l.fn.self
    ≡ behind_fields l.rank (drop l.field-index l.fields) l.sources l.before l.values l.self
