-- Reports, fields and collections as plain data (Sections 5.6, 6.2.2.4 to 6.2.2.8).
use Rattle.std.specs.Prelude.{ℕ, ℤ, Bool, false, List, [], ◌∷◌, ◌++◌, flat_map, Option, None}
use Rattle.hidreport_items.specs.Flags.{Flags}
use Rattle.hidreport_items.specs.declared.main_item.CollectionItem.{CollectionItem}
use Rattle.hidreport_fields.specs.declared.field.usage.Usage.{Usage}

-- a collection that a field lies in: its number over the descriptor, its kind and its usages
pub record CollectionRecord : Type 0 where
  pub id : ℕ
  pub kind : CollectionItem
  pub usages : List Usage

-- what a field of any kind has: its number over the descriptor, the id of its report, and its bits,
-- from `first` up to `end`, which is no longer part of it
pub record FieldPlace : Type 0 where
  pub id : ℕ
  pub report_id : Option ℕ
  pub first : ℕ
  pub end : ℕ

-- what a field with data also has: `flags` are its item's, and `volatile` is none in an input report
pub record Attributes : Type 0 where
  pub logical_minimum : ℤ
  pub logical_maximum : ℤ
  pub physical_minimum : Option ℤ
  pub physical_maximum : Option ℤ
  pub unit : Option ℕ
  pub unit_exponent : Option ℤ
  pub collections : List CollectionRecord
  pub flags : Flags
  pub volatile : Option Bool

-- the six flags of its item that a field with data shows, apart from `volatile`
abbrev pub field_flags : Flags → Flags
field_flags flags = record flags { constant = false; variable = false; volatile = false }

-- a field: one value with a usage, several values that choose among usages (whether those are a
-- range, and how many values), or padding
pub data FieldRecord : Type 0 where
  VariableRecord : FieldPlace → Usage → Attributes → FieldRecord
  ArrayRecord : FieldPlace → List Usage → Bool → ℕ → Attributes → FieldRecord
  ConstantRecord : FieldPlace → FieldRecord

-- the usages of a field: one of a variable field, all that an array chooses among, none of padding
abbrev pub usages_in : FieldRecord → List Usage
usages_in (VariableRecord place usage shared) = usage ∷ []
usages_in (ArrayRecord place usages is_range count shared) = usages
usages_in (ConstantRecord place) = []

-- they are those of a minimum and a maximum
abbrev pub is_of_range : FieldRecord → Bool
is_of_range (VariableRecord place usage shared) = false
is_of_range (ArrayRecord place usages is_range count shared) = is_range
is_of_range (ConstantRecord place) = false

-- its place
abbrev pub place_of : FieldRecord → FieldPlace
place_of (VariableRecord place usage shared) = place
place_of (ArrayRecord place usages is_range count shared) = place
place_of (ConstantRecord place) = place

-- the collections that a field lies in; padding carries none
abbrev pub collections_of : FieldRecord → List CollectionRecord
collections_of (VariableRecord place usage shared) = shared.collections
collections_of (ArrayRecord place usages is_range count shared) = shared.collections
collections_of (ConstantRecord place) = []

-- the report id that a field is read by; padding has no value to read
abbrev pub own_id : FieldRecord → Option ℕ
own_id (VariableRecord place usage shared) = place.report_id
own_id (ArrayRecord place usages is_range count shared) = place.report_id
own_id (ConstantRecord place) = None

-- how many elements a field has; only an array has some
abbrev pub element_count : FieldRecord → ℕ
element_count (VariableRecord place usage shared) = 0
element_count (ArrayRecord place usages is_range count shared) = count
element_count (ConstantRecord place) = 0

-- a report: its id, where it has one, its size in bits and its fields in order, each said as an A
-- says it
pub record ReportOf (A : Type 0) : Type 0 where
  pub id : Option ℕ
  pub size : ℕ
  pub fields : List A

-- a descriptor: the reports of each direction
pub record DescriptorOf (A : Type 0) : Type 0 where
  pub input : List (ReportOf A)
  pub output : List (ReportOf A)
  pub feature : List (ReportOf A)

-- the same with each field said by itself
abbrev pub ReportRecord : Type 0
ReportRecord = ReportOf FieldRecord

abbrev pub DescriptorRecord : Type 0
DescriptorRecord = DescriptorOf FieldRecord

-- all fields of these reports
abbrev pub fields_in_all : List ReportRecord → List FieldRecord
fields_in_all reports = flat_map (λ r. r.fields) reports

-- the reports of all directions
abbrev pub reports_in_all : DescriptorRecord → List ReportRecord
reports_in_all d = d.input ++ (d.output ++ d.feature)
