use Rattle.std.proofs.Common.{◌≡◌, map, take, true}
use Rattle.hidreport.specs.Groups.{fields_of_groups}
use Rattle.hidreport_fields.specs.Views.{field_record}
use Rattle.hidreport.proofs.report.outline_report.fields_of.Given as goal

abbrev pub invariant-loop-group : goal.invariant-loop-group
invariant-loop-group l = true ≡ true

-- the fields of the groups before this one
abbrev pub invariant-loop-group-2 : goal.invariant-loop-group-2
invariant-loop-group-2 l = map field_record l.fields.items
    ≡ fields_of_groups (take l.group-index l.groups)
