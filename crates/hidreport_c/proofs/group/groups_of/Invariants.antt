use Rattle.std.proofs.Common.{◌≡◌, take}
use Rattle.hidreport_c.specs.Group.{groups_of, lent}
use Rattle.hidreport_c.proofs.group.groups_of.Given as goal

-- the groups so far are those of the reports so far
abbrev pub invariant-loop-report : goal.invariant-loop-report
invariant-loop-report l = lent l.groups.items ≡ groups_of (take l.report-index l.reports)
