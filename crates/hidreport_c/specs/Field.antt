-- A field as C has it: all its parts as numbers, 0 or off for what isn't there.
use Rattle.std.specs.Prelude.{◌≡◌, ℕ, pos, ◌-◌, Bool, false, List, [], ◌∷◌, length, slice_get, is_some}
use Rattle.std.specs.Prelude.{unwrap_or, Option, None, option_map}
use Rattle.hidreport.specs.Flags.{Flags, flags_of}
use Rattle.hidreport.specs.Records.{CollectionRecord, FieldPlace, Attributes, FieldRecord}
use Rattle.hidreport.specs.Records.{VariableRecord, ArrayRecord, ConstantRecord}
use Rattle.hidreport.specs.UsageNumber.{usage_number}
use Rattle.hidreport_fields.specs.declared.field.usage.Usage.{Usage}
use Rattle.hidreport_c.specs.declared.structs.HidreportCollections.{HidreportCollections}
use Rattle.hidreport_c.specs.declared.structs.HidreportField.{HidreportField}
use Rattle.hidreport_c.specs.declared.structs.HidreportFlags.{HidreportFlags}
use Rattle.hidreport_c.specs.declared.structs.HidreportMeasures.{HidreportMeasures}
use Rattle.hidreport_c.specs.declared.structs.HidreportUsages.{HidreportUsages}

-- the number of a usage in a list
abbrev pub usage_number_at : List Usage → ℕ → ℕ
usage_number_at usages index = unwrap_or (option_map usage_number (slice_get usages index)) 0

-- how many usages there are, the first and the last of them, and whether a minimum and a maximum
-- gave them
abbrev pub usages_as_c : List Usage → Bool → HidreportUsages
usages_as_c usages is_range = record {
  count = length usages;
  first = usage_number_at usages 0;
  last = usage_number_at usages (length usages - 1);
  is_range = is_range;
}

-- bounds and unit
abbrev pub measures_as_c : Attributes → HidreportMeasures
measures_as_c shared = record {
  logical_minimum = shared.logical_minimum;
  logical_maximum = shared.logical_maximum;
  physical_minimum = unwrap_or shared.physical_minimum (pos 0);
  physical_maximum = unwrap_or shared.physical_maximum (pos 0);
  unit = unwrap_or shared.unit 0;
  unit_exponent = unwrap_or shared.unit_exponent (pos 0);
  has_physical_minimum = is_some shared.physical_minimum;
  has_physical_maximum = is_some shared.physical_maximum;
  has_unit = is_some shared.unit;
  has_unit_exponent = is_some shared.unit_exponent;
}

-- the flags of an item that C has, and whether the value may change by itself, if that is said
abbrev pub flags_with : Flags → Option Bool → HidreportFlags
flags_with flags volatile = record {
  is_relative = flags.relative;
  wraps = flags.wrap;
  is_nonlinear = flags.nonlinear;
  has_no_preferred_state = flags.no_preferred_state;
  has_null_state = flags.null_state;
  is_buffered_bytes = flags.buffered_bytes;
  is_volatile = unwrap_or volatile false;
}

-- the flags of a field with data
abbrev pub flags_as_c : Attributes → HidreportFlags
flags_as_c shared = flags_with shared.flags shared.volatile

-- the number of a collection in a list
abbrev pub collection_at : List CollectionRecord → ℕ → ℕ
collection_at collections index = unwrap_or (option_map (λ c. c.id) (slice_get collections index)) 0

-- how many collections the field lies in, and the innermost of them
abbrev pub collections_as_c : List CollectionRecord → HidreportCollections
collections_as_c collections = record {
  count = length collections;
  innermost = collection_at collections (length collections - 1);
}

-- padding has no data
abbrev pub nothing_measured : HidreportMeasures
nothing_measured = record {
  logical_minimum = pos 0;
  logical_maximum = pos 0;
  physical_minimum = pos 0;
  physical_maximum = pos 0;
  unit = 0;
  unit_exponent = pos 0;
  has_physical_minimum = false;
  has_physical_maximum = false;
  has_unit = false;
  has_unit_exponent = false;
}

-- no flag, as padding has
abbrev pub nothing_set : HidreportFlags
nothing_set = flags_with (flags_of 0) None

-- a field at this place and with this id of its own, of this kind and with so many values
abbrev pub field_at : FieldPlace → Option ℕ → ℕ → ℕ → HidreportUsages → HidreportMeasures
    → HidreportFlags → HidreportCollections → HidreportField
field_at place id kind values usages measures flags collections = record {
  number = place.id;
  kind = kind;
  first_bit = place.first;
  end_bit = place.end;
  value_count = values;
  usages = usages;
  measures = measures;
  collections = collections;
  flags = flags;
  has_report_id = is_some id;
  report_id = unwrap_or id 0;
}

-- a field with data as C has it
abbrev pub data_field : FieldPlace → ℕ → ℕ → List Usage → Bool → Attributes → HidreportField
data_field place kind values usages is_range shared =
    field_at place place.report_id kind values (usages_as_c usages is_range)
    (measures_as_c shared) (flags_as_c shared) (collections_as_c shared.collections)

-- a field of any kind: 0 is variable, 1 an array, 2 padding, which has no value to read
abbrev pub as_c : FieldRecord → HidreportField
as_c (VariableRecord place usage shared) = data_field place 0 1 (usage ∷ []) false shared
as_c (ArrayRecord place usages is_range count shared) =
    data_field place 1 count usages is_range shared
as_c (ConstantRecord place) =
    field_at place None 2 0 (usages_as_c [] false) nothing_measured nothing_set
    (collections_as_c [])

-- what holds of the bounds and the unit of a variable field, if this is such a field as C has it
abbrev pub OfVariable : HidreportField → (Attributes → Type 0) → Type 0
OfVariable f holds = (place : FieldPlace) (usage : Usage) (shared : Attributes)
    → f ≡ as_c (VariableRecord place usage shared) → holds shared
