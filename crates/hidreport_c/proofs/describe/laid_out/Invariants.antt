use Rattle.std.proofs.Common.{◌≡◌, ◌≤◌, length, map, take, vec_capacity, vec_len}
use Rattle.hidreport.specs.Groups.{listed_report}
use Rattle.hidreport_c.proofs.describe.laid_out.Given as goal

-- the first ones, and room for the others
abbrev pub invariant-loop-report : goal.invariant-loop-report
invariant-loop-report l =
    (l.list.items ≡ map listed_report (take l.report-index l.reports))
    × (vec_len l.list ≡ l.report-index) × (length l.reports ≤ vec_capacity l.list)
