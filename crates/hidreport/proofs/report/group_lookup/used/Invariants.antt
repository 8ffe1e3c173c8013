use Rattle.std.proofs.Common.{◌≡◌, None, take}
use Rattle.hidreport.specs.Groups.{group_fields}
use Rattle.hidreport_fields.specs.Lookup.{field_for}
use Rattle.hidreport.proofs.report.group_lookup.used.Given as goal

-- no field before this one has the usage
abbrev pub invariant-loop-index : goal.invariant-loop-index
invariant-loop-index l = field_for l.usage (take l.index (group_fields l.group)) ≡ None
