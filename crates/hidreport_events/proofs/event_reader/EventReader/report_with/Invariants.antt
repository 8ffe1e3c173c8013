use Rattle.std.proofs.Common.{◌≡◌, drop}
use Rattle.hidreport_events.specs.Readers.{report_with}
use Rattle.hidreport_events.proofs.event_reader.EventReader.report_with.Given as goal

-- none so far has the id
abbrev pub invariant-loop-report : goal.invariant-loop-report
invariant-loop-report l =
    report_with l.id l.self.reports ≡ report_with l.id (drop l.report-index l.self.reports)
