-- The parts of a collection as plain data.
use Rattle.std.specs.Arc.{arc_slice_items}
use Rattle.std.specs.Prelude.{[], ◌∷◌}
use Rattle.hidreport_fields.specs.Records.{CollectionRecord}
use Rattle.hidreport_fields.specs.declared.field.collection.CollectionParts.{CollectionParts}
use Rattle.hidreport_fields.specs.declared.field.collection.CollectionParts.TheVariants as parts

-- its usages are one by itself, or all of a list
abbrev pub parts_record : CollectionParts → CollectionRecord
parts_record (parts.One kind id usage) = record { id = id; kind = kind; usages = usage ∷ [] }
parts_record (parts.List kind id shared) = record {
  id = id;
  kind = kind;
  usages = arc_slice_items shared;
}
