-- Fields (Sections 6.2.2.4, 6.2.2.5 and 5.8): what a data item that makes fields adds to its
-- report.
use Rattle.std.specs.Prelude.{ℕ, ℤ, pos, ◌+◌, ◌*◌, zero, suc, false, if◌then◌else◌, List, []}
use Rattle.std.specs.Prelude.{◌∷◌, map, sum_by, unwrap_or, Option, None, Some, Result, Ok, Err}
use Rattle.hidreport_items.specs.Flags.{Flags}
use Rattle.hidreport_items.specs.declared.main_item.CollectionItem.TheVariants as kind
use Rattle.hidreport_items.specs.declared.item.ItemType.{ItemType}
use Rattle.hidreport.specs.ItemState.{ItemState}
use Rattle.hidreport.specs.Kinds.{Indexed, Direction, Input, Output, Feature, data_of}
use Rattle.hidreport.specs.Kinds.{collection_kind_of}
use Rattle.hidreport.specs.Making.{extent, makers}
use Rattle.hidreport.specs.MeaningFault.{MeaningFault}
use Rattle.hidreport.specs.OpenCollections.{open_at, collections_before}
use Rattle.hidreport.specs.Places.{start}
use Rattle.hidreport_fields.specs.Records.{CollectionRecord, FieldPlace, Attributes, FieldRecord}
use Rattle.hidreport_fields.specs.Records.{VariableRecord, ArrayRecord, ConstantRecord}
use Rattle.hidreport.specs.Usages.{UsageList, usages_of}
use Rattle.hidreport_fields.specs.UsageRange.{make_usage}
use Rattle.hidreport_fields.specs.declared.field.usage.Usage.{Usage}
use Rattle.hidreport.specs.declared.parser.extent.Extent.{Extent}
use Rattle.hidreport_fields.specs.declared.field.measures.Measures.{Measures}
-- what fields alone speak of
pub use Rattle.hidreport_fields.specs.ItemParts.{field_count, volatile_in, attributes_with}

-- how many fields an item with these flags, size and count makes
abbrev pub fields_made : Option (Direction × Flags) → Option Extent → ℕ
fields_made (Some x) (Some e) = field_count x.1 e.count
fields_made (Some x) None = 0
fields_made None e = 0

-- how many fields the items before k made in a direction
abbrev pub fields_in : (ℕ → ItemState) → Direction → List ItemType → ℕ → ℕ
fields_in state_at d items k =
    sum_by (λ p. fields_made (data_of p.1) (extent (state_at p.0))) (makers state_at d items k)

-- how many fields the items before k made, in all directions
abbrev pub fields_before : (ℕ → ItemState) → List ItemType → ℕ → ℕ
fields_before state_at items k =
    fields_in state_at Input items k +
    (fields_in state_at Output items k + fields_in state_at Feature items k)

-- the usages, none for a fault
abbrev pub list_or_none : Result UsageList MeaningFault → UsageList
list_or_none (Ok us) = us
list_or_none (Err fault) = record { usages = []; is_range = false }

-- a Collection as the fields inside it carry it
abbrev pub collection_record : (ℕ → ItemState) → List ItemType → Indexed → CollectionRecord
collection_record state_at items p = record {
  id = collections_before items p.0;
  kind = unwrap_or (collection_kind_of p.1) kind.Physical;
  usages = (list_or_none (usages_of (state_at p.0))).usages;
}

-- the collections that a field made at k lies in, outermost first
abbrev pub collections_at : (ℕ → ItemState) → List ItemType → ℕ → List CollectionRecord
collections_at state_at items k = map (collection_record state_at items) (open_at items k)

-- where just one physical bound is set the other is 0
abbrev pub physical_bound : Option ℤ → Option ℤ → Option ℤ
physical_bound (Some own) other = Some own
physical_bound None (Some other) = Some (pos 0)
physical_bound None None = None

-- the numbers that a field with data has from global items; logical bounds that aren't set are 0
abbrev pub measures : ItemState → Measures
measures state = record {
  logical_minimum = unwrap_or state.logical_minimum (pos 0);
  logical_maximum = unwrap_or state.logical_maximum (pos 0);
  physical_minimum = physical_bound state.physical_minimum state.physical_maximum;
  physical_maximum = physical_bound state.physical_maximum state.physical_minimum;
  unit = state.unit;
  unit_exponent = state.unit_exponent;
}

-- what the fields of one item share
abbrev pub attributes : ItemState → List CollectionRecord → Direction → Flags → Attributes
attributes state collections d flags = attributes_with d flags (measures state) collections

-- usage c of a list, or the last one where there are fewer
abbrev pub usage_at : List Usage → ℕ → Usage
usage_at [] c = make_usage 0 0
usage_at (u ∷ []) c = u
usage_at (u ∷ v ∷ us) zero = u
usage_at (u ∷ v ∷ us) (suc c) = usage_at (v ∷ us) c

-- the values of f at c, c + 1 and so on, so many
abbrev pub each_from : {A : Type 0} → (ℕ → A) → ℕ → ℕ → List A
each_from f c zero = []
each_from f c (suc more) = f c ∷ each_from f (c + 1) more

-- where the fields of an item begin: in the report of this id, if any, with this number over the
-- descriptor, and at this bit
pub record Beginning : Type 0 where
  pub report_id : Option ℕ
  pub number : ℕ
  pub first : ℕ

-- where so many elements further begin
abbrev pub beginning_at : Beginning → Extent → ℕ → Beginning
beginning_at b e c = record b { number = b.number + c; first = b.first + c * e.size }

-- a field of so many bits that begins there
abbrev pub make_place : Beginning → ℕ → FieldPlace
make_place b size = record {
  id = b.number;
  report_id = b.report_id;
  first = b.first;
  end = b.first + size;
}

-- the fields of a variable item: one for each element
abbrev pub variable_fields : Beginning → Extent → UsageList → Attributes → List FieldRecord
variable_fields b e us shared =
    each_from (λ c. VariableRecord (make_place (beginning_at b e c) e.size) (usage_at us.usages c)
    shared) 0 e.count

-- the fields of an item with these usages
abbrev pub make_fields : Beginning → Extent → Flags → UsageList → Attributes → List FieldRecord
make_fields b e flags us shared =
    if flags.constant then ConstantRecord (make_place b (e.size * e.count)) ∷ []
    else (if flags.variable then variable_fields b e us shared
    else ArrayRecord (make_place b (e.size * e.count)) us.usages us.is_range e.count shared ∷ [])

-- the same where the item makes fields, the first with number `number` and from bit `first` on
abbrev pub fields_of : ItemState → List CollectionRecord → ℕ → ℕ
    → Option (Direction × Flags) → Option Extent → List FieldRecord
fields_of state collections number first (Some x) (Some e) =
    make_fields (record { report_id = state.report_id; number = number; first = first }) e x.1
    (list_or_none (usages_of state)) (attributes state collections x.0 x.1)
fields_of state collections number first (Some x) None = []
fields_of state collections number first None e = []

-- the fields that an item of direction d makes
abbrev pub fields_at : (ℕ → ItemState) → Direction → List ItemType → Indexed → List FieldRecord
fields_at state_at d items p = fields_of (state_at p.0) (collections_at state_at items p.0)
    (fields_before state_at items p.0) (start state_at d items p.0) (data_of p.1)
    (extent (state_at p.0))
