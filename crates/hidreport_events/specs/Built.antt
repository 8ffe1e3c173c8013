-- The fields that a reader has of a device: those of its input reports that hid-core keeps.
use Rattle.std.specs.Prelude.{ℕ, ℤ, Bool, true, false, ◌&&◌, not, if◌then◌else◌, List, [], ◌∷◌}
use Rattle.hidreport_events.specs.declared.event_field.EventField.{EventField}
use Rattle.hidreport_fields.specs.declared.field.data_item.Direction.{Direction}
use Rattle.hidreport_fields.specs.declared.field.data_item.Direction.TheVariants.{Input}
use Rattle.hidreport_linux.specs.declared.linux_field.LinuxField.{LinuxField}

-- where the elements of a field lie, what they are, and between which bounds their values are
pub record FieldNumbers : Type 0 where
  pub first_bit : ℕ
  pub size : ℕ
  pub count : ℕ
  pub is_variable : Bool
  pub has_null_state : Bool
  pub is_buffered : Bool
  pub minimum : ℤ
  pub maximum : ℤ

-- those of a field of hid-core
abbrev pub numbers_of : LinuxField → FieldNumbers
numbers_of f = record {
  first_bit = f.first_bit;
  size = f.size;
  count = f.count;
  is_variable = f.is_variable;
  has_null_state = f.has_null_state;
  is_buffered = f.is_buffered;
  minimum = f.measures.minimum;
  maximum = f.measures.maximum;
}

-- those of a field of a reader
abbrev pub numbers_in : EventField → FieldNumbers
numbers_in f = record {
  first_bit = f.first_bit;
  size = f.size;
  count = f.count;
  is_variable = f.is_variable;
  has_null_state = f.has_null_state;
  is_buffered = f.is_buffered;
  minimum = f.minimum;
  maximum = f.maximum;
}

abbrev pub is_input : Direction → Bool
is_input Input = true
is_input _ = false

-- hid-core reads a field of a report that comes in
abbrev pub is_read : LinuxField → Bool
is_read f = is_input f.report.direction && not f.is_past

-- those of the fields that are read, in order
abbrev pub read_numbers : List LinuxField → List FieldNumbers
read_numbers [] = []
read_numbers (f ∷ fs) =
    if is_read f then numbers_of f ∷ read_numbers fs else read_numbers fs
