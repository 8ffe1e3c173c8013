use Rattle.std.proofs.Common.{◌≡◌, None, take}
use Rattle.hidreport.specs.Records.{fields_in_all}
use Rattle.hidreport_c.specs.Numbered.{numbered}
use Rattle.hidreport_c.proofs.numbered.field_in_reports.Given as goal

-- none of those so far has it
abbrev pub invariant-loop-report : goal.invariant-loop-report
invariant-loop-report l =
    numbered l.number (fields_in_all (take l.report-index l.reports)) ≡ None
