use Rattle.std.proofs.Common.{◌≡◌, drop}
use Rattle.hidreport_usages.specs.UsageTypes.{held_by}
use Rattle.hidreport_usages.proofs.usage_type.held_by.Given as goal

-- no row so far has the number
abbrev pub invariant-loop-row : goal.invariant-loop-row
invariant-loop-row l = held_by l.rows l.number ≡ held_by (drop l.row-index l.rows) l.number
