-- A field of the library as plain data.
use Rattle.std.specs.Prelude.{ℕ, ℤ, Option, List, []}
use Rattle.std.specs.Arc.{arc_slice_items}
use Rattle.std.specs.declared.ops.Range.{Range}
use Rattle.hidreport_fields.specs.ItemParts.{attributes_with}
use Rattle.hidreport_fields.specs.declared.field.measures.Measures.{Measures}
use Rattle.hidreport_fields.specs.Records.{CollectionRecord, FieldPlace, Attributes, FieldRecord}
use Rattle.hidreport_fields.specs.Records.{VariableRecord, ArrayRecord, ConstantRecord}
use Rattle.hidreport_fields.specs.declared.field.array_field.ArrayField.{ArrayField}
use Rattle.hidreport_fields.specs.declared.field.constant_field.ConstantField.{ConstantField}
use Rattle.hidreport_fields.specs.declared.field.Field.{Field}
use Rattle.hidreport_fields.specs.declared.field.Field.TheVariants as fields
use Rattle.hidreport_fields.specs.declared.field.variable_field.VariableField.{VariableField}

-- a place in a report
abbrev pub placed_at : ℕ → Option ℕ → Range ℕ → FieldPlace
placed_at id report_id bits = record {
  id = id;
  report_id = report_id;
  first = bits.start;
  end = bits.end;
}

-- bounds, a unit and its exponent
abbrev pub measured : ℤ × ℤ → Option ℤ × Option ℤ → Option ℕ × Option ℤ → Measures
measured logical physical unit = record {
  logical_minimum = logical.0;
  logical_maximum = logical.1;
  physical_minimum = physical.0;
  physical_maximum = physical.1;
  unit = unit.0;
  unit_exponent = unit.1;
}

-- where a variable field lies
abbrev pub variable_place : VariableField → FieldPlace
variable_place f = placed_at f.id f.report_id f.bits

-- the numbers that it has from global items
abbrev pub variable_measures : VariableField → Measures
variable_measures f = measured (f.logical_minimum, f.logical_maximum)
    (f.physical_minimum, f.physical_maximum) (f.unit, f.unit_exponent)

-- its bounds, unit, flags and collections
abbrev pub variable_attributes : VariableField → Attributes
variable_attributes f = attributes_with f.item.direction f.item.flags
    (variable_measures f) (arc_slice_items f.collections)

-- all parts of a variable field
abbrev pub variable_record : VariableField → FieldRecord
variable_record f = VariableRecord (variable_place f) f.usage (variable_attributes f)

-- where an array lies
abbrev pub array_place : ArrayField → FieldPlace
array_place f = placed_at f.id f.report_id f.bits

-- the numbers that it has from global items
abbrev pub array_measures : ArrayField → Measures
array_measures f = measured (f.logical_minimum, f.logical_maximum)
    (f.physical_minimum, f.physical_maximum) (f.unit, f.unit_exponent)

-- its bounds, unit, flags and collections
abbrev pub array_attributes : ArrayField → Attributes
array_attributes f = attributes_with f.item.direction f.item.flags
    (array_measures f) (arc_slice_items f.collections)

-- all parts of an array field
abbrev pub array_record : ArrayField → FieldRecord
array_record f = ArrayRecord (array_place f) f.usages.items f.is_usage_range f.report_count
    (array_attributes f)

-- where padding lies
abbrev pub constant_place : ConstantField → FieldPlace
constant_place f = placed_at f.id f.report_id f.bits

-- all parts of a constant field
abbrev pub constant_record : ConstantField → FieldRecord
constant_record f = ConstantRecord (constant_place f)

-- all parts of a field
abbrev pub field_record : Field → FieldRecord
field_record (fields.Variable f) = variable_record f
field_record (fields.Array f) = array_record f
field_record (fields.Constant f) = constant_record f

-- a field's number over the descriptor
abbrev pub field_id : Field → ℕ
field_id (fields.Variable f) = f.id
field_id (fields.Array f) = f.id
field_id (fields.Constant f) = f.id

-- its bits
abbrev pub field_bits : Field → Range ℕ
field_bits (fields.Variable f) = f.bits
field_bits (fields.Array f) = f.bits
field_bits (fields.Constant f) = f.bits

-- padding lies in no collection
abbrev pub field_collections : Field → List CollectionRecord
field_collections (fields.Variable f) = arc_slice_items f.collections
field_collections (fields.Array f) = arc_slice_items f.collections
field_collections (fields.Constant f) = []
