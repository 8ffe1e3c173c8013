use Rattle.std.proofs.Common.{◌≡◌, length, take}
use Rattle.std.specs.Prelude.{flat_map}
use Rattle.hidreport.specs.Views.{field_record}
use Rattle.hidreport_fields.specs.declared.field.Field.{Field}
use Rattle.hidreport_c.specs.Answer.{array_after}
use Rattle.hidreport_c.proofs.listing.put_fields.Given as goal

-- what is listed of the fields so far is in place, and counted
abbrev pub invariant-loop-field : goal.invariant-loop-field
invariant-loop-field g l =
    let own = λ (field : Field). g.L.Listing.listed (field_record field) in
    (l.count ≡ length (flat_map own (take l.field-index l.fields)))
    × (l.array ≡ array_after (flat_map own (take l.field-index l.fields)) l.initial.array)
