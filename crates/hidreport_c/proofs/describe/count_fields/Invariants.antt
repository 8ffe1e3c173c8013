use Rattle.std.proofs.Common.{◌≡◌, ◌<◌, ◌^◌, length, take}
use Rattle.hidreport_c.specs.Describe.{fields_as_c}
use Rattle.hidreport_c.proofs.describe.count_fields.Given as goal

-- the number of fields of the reports so far
abbrev pub invariant-loop-report : goal.invariant-loop-report
invariant-loop-report l =
    (l.count ≡ length (fields_as_c (take l.report-index l.reports))) × (l.count < 2 ^ 64)
