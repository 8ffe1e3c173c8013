use Rattle.std.proofs.Common.{◌≡◌, map, take}
use Rattle.hidreport_fields.specs.Views.{field_record}
use Rattle.hidreport_fields.proofs.field.are_alike.Given as goal

-- those so far are alike
abbrev pub invariant-loop-index : goal.invariant-loop-index
invariant-loop-index l =
    map field_record (take l.index l.left) ≡ map field_record (take l.index l.right)
