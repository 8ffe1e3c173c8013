-- A value of a field, read by the field as C has it (Sections 5.6 and 5.8).
use Rattle.std.specs.Prelude.{◌≡◌, ℕ, pos, int_lt, nat_lt, zero, suc, if◌then◌else◌, List, [], ◌∷◌, map}
use Rattle.std.specs.Prelude.{ℤ, Option, None, Some, Result, Ok, Err}
use Rattle.hidreport.specs.Answer.{Refusal, OutOfBounds}
use Rattle.hidreport.specs.Choosing.{value_number}
use Rattle.hidreport.specs.Reading.{ValueRecord, element, each_value, reads, reads_element}
use Rattle.hidreport.specs.Reading.{with_id}
use Rattle.hidreport.specs.Records.{FieldRecord, VariableRecord, ArrayRecord, ConstantRecord}
use Rattle.hidreport_c.specs.Status.{status_of}
use Rattle.hidreport_c.specs.declared.structs.HidreportField.{HidreportField}
use Rattle.hidreport_c.specs.declared.structs.HidreportValue.{HidreportValue}

-- the id that a report's first byte has to be
abbrev pub id_of : HidreportField → Option ℕ
id_of f = if f.has_report_id then Some f.report_id else None

-- one of the field's values, whatever the report's id
abbrev pub element_at : HidreportField → List ℕ → ℕ → Result ValueRecord Refusal
element_at f bytes index =
    element f.first_bit f.end_bit f.value_count (int_lt f.measures.logical_minimum (pos 0)) bytes
    index

-- one of the field's values in a report that has these bytes
abbrev pub value_at : HidreportField → List ℕ → ℕ → Result ValueRecord Refusal
value_at f bytes index =
    if nat_lt index f.value_count then with_id (id_of f) bytes (element_at f bytes index)
    else Err OutOfBounds

-- its number, or the number of the refusal
abbrev pub as_value : Result ValueRecord Refusal → HidreportValue
as_value (Ok v) = record { number = value_number v; status = 0 }
as_value (Err refusal) = record { number = pos 0; status = status_of refusal }

-- a value is read, and this is its number
abbrev pub IsNumberOf : Result ValueRecord Refusal → ℤ → Type 0
IsNumberOf (Ok v) number = number ≡ value_number v
IsNumberOf (Err refusal) number = ⊥

-- the value of a list that has one
abbrev pub only : Result (List ValueRecord) Refusal → Result ValueRecord Refusal
only (Ok []) = Err OutOfBounds
only (Ok (v ∷ vs)) = Ok v
only (Err refusal) = Err refusal

-- what `extract` reads of a variable field, and `extract_one` of an array; padding has no value
abbrev pub extracted_value : FieldRecord → List ℕ → ℕ → Result ValueRecord Refusal
extracted_value (VariableRecord place usage shared) bytes zero =
    only (reads (VariableRecord place usage shared) bytes)
extracted_value (VariableRecord place usage shared) bytes (suc n) = Err OutOfBounds
extracted_value (ArrayRecord place usages is_range count shared) bytes index =
    reads_element (ArrayRecord place usages is_range count shared) bytes index
extracted_value (ConstantRecord place) bytes index = Err OutOfBounds

-- the numbers of values
abbrev pub value_numbers : Result (List ValueRecord) Refusal → Result (List ℤ) Refusal
value_numbers (Ok values) = Ok (map value_number values)
value_numbers (Err refusal) = Err refusal

-- all values of the field, whatever the report's id
abbrev pub elements_at : HidreportField → List ℕ → Result (List ValueRecord) Refusal
elements_at f bytes = each_value (element f.first_bit f.end_bit f.value_count
    (int_lt f.measures.logical_minimum (pos 0)) bytes) 0 f.value_count

-- all values of the field in a report that has these bytes
abbrev pub values_at : HidreportField → List ℕ → Result (List ValueRecord) Refusal
values_at f bytes = with_id (id_of f) bytes (elements_at f bytes)

-- that there are some
abbrev pub acceptance : {A : Type 0} → Result A Refusal → Result (Unit {0}) Refusal
acceptance (Ok x) = Ok tt
acceptance (Err refusal) = Err refusal
