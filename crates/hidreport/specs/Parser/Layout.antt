-- The fields of one item as the parser lays them out.
use Rattle.std.specs.Prelude.{◌≡◌, ℕ, ◌+◌, ◌*◌, ◌^◌, ◌<◌, ◌≤◌, false, [], List, length, Option}
use Rattle.std.specs.Prelude.{None, Some}
use Rattle.std.specs.Arc.{arc_slice_items}
use Rattle.hidreport.specs.Fields.{Beginning, beginning_at, make_place, make_fields}
use Rattle.hidreport_fields.specs.ItemParts.{field_count}
use Rattle.hidreport.specs.Fields.{usage_at}
use Rattle.hidreport_fields.specs.ItemParts.{attributes_with}
use Rattle.hidreport_fields.specs.Records.{Attributes, CollectionRecord, FieldPlace, FieldRecord}
use Rattle.hidreport_fields.specs.Records.{VariableRecord}
use Rattle.hidreport.specs.Usages.{UsageList}
use Rattle.hidreport_fields.specs.declared.field.usage.Usage.{Usage}
use Rattle.hidreport.specs.declared.parser.around.Around.{Around}
use Rattle.hidreport.specs.declared.parser.around.Around.TheVariants as around
use Rattle.hidreport.specs.declared.parser.layout.Layout.{Layout}
use Rattle.hidreport.specs.declared.parser.extent.Extent.{Extent}

-- the collections, listed or not
abbrev pub around_list : Around → List CollectionRecord
around_list (around.Listed list) = arc_slice_items list
around_list (around.Named list) = arc_slice_items list

-- the collections that the fields carry; padding has none
abbrev pub shared_list : Option Around → List CollectionRecord
shared_list None = []
shared_list (Some around) = around_list around

-- what the item's fields share
abbrev pub shared_of : Layout → Attributes
shared_of l = attributes_with l.item.direction l.item.flags l.measures
    (shared_list l.collections)

-- where they begin
abbrev pub beginning_of : Layout → Beginning
beginning_of l = record { report_id = l.report_id; number = l.first_id; first = l.first_bit }

-- how large they are
abbrev pub extent_of : Layout → Extent
extent_of l = record { size = l.size; count = l.count }

-- the fields, with these usages
abbrev pub laid_out : Layout → UsageList → List FieldRecord
laid_out l us = make_fields (beginning_of l) (extent_of l) l.item.flags us (shared_of l)

-- where field number c of a variable item lies
abbrev pub place_at : Layout → ℕ → FieldPlace
place_at l c = make_place (beginning_at (beginning_of l) (extent_of l) c) l.size

-- that field, with this usage
abbrev pub variable_with : Layout → Usage → ℕ → FieldRecord
variable_with l usage c = VariableRecord (place_at l c) usage (shared_of l)

-- the same with its usage of these
abbrev pub variable_of : Layout → UsageList → ℕ → FieldRecord
variable_of l us c = variable_with l (usage_at us.usages c) c

-- the fields have ids, their bits can be counted, and there are usages for them
pub record IsPossible (l : Layout) (us : UsageList) : Type 0 where
  pub ids : l.first_id + field_count l.item.flags l.count ≤ 2 ^ 32
  pub bits : l.first_bit + l.size * l.count < 2 ^ 64
  pub count : l.report_count ≡ Some l.count
  pub usages : l.item.flags.constant ≡ false → 0 < length us.usages
