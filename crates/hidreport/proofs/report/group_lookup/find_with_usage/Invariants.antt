use Rattle.std.proofs.Common.{◌≡◌, None, take}
use Rattle.hidreport.specs.Groups.{fields_of_groups}
use Rattle.hidreport_fields.specs.Lookup.{field_for}
use Rattle.hidreport.proofs.report.group_lookup.find_with_usage.Given as goal

-- no field of the groups before this one has the usage
abbrev pub invariant-loop-group : goal.invariant-loop-group
invariant-loop-group l =
    field_for l.usage (fields_of_groups (take l.group-index l.groups)) ≡ None
