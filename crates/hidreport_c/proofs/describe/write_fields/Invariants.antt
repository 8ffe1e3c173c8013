use Rattle.std.proofs.Common.{◌≡◌, length, take}
use Rattle.hidreport_c.specs.Answer.{array_after}
use Rattle.hidreport_c.specs.Describe.{fields_as_c}
use Rattle.hidreport_c.proofs.describe.write_fields.Given as goal

-- the fields of the reports so far are written, and their number
abbrev pub invariant-loop-report : goal.invariant-loop-report
invariant-loop-report l =
    (l.written ≡ length (fields_as_c (take l.report-index l.reports)))
    × (l.fields ≡ array_after (fields_as_c (take l.report-index l.reports)) l.initial.fields)
