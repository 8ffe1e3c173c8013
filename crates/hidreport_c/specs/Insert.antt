-- Values of a field written into a report's bytes, by the field as C has it (Sections 5.6 and 5.8).
use Rattle.std.specs.Prelude.{◌≡◌, ℕ, ◌+◌, ◌*◌, ◌==◌, pos, int_lt, zero, suc, if◌then◌else◌, Bool}
use Rattle.std.specs.Prelude.{ℤ, List, [], ◌∷◌, length, Result, Ok, Err}
use Rattle.hidreport.specs.Reading.{element_width}
use Rattle.hidreport.specs.Records.{FieldRecord, VariableRecord, ArrayRecord, ConstantRecord}
use Rattle.hidreport.specs.WritingLaws.{IsElementWritten, IsWritten}
use Rattle.hidreport.specs.WritingValues.{placed_by, where_read, written}
use Rattle.hidreport.specs.WritingValues.{written_element}
use Rattle.hidreport_fields.specs.declared.field.insert_error.InsertError.{InsertError}
use Rattle.hidreport_fields.specs.declared.field.insert_error.InsertError.TheVariants as refused
use Rattle.hidreport_c.specs.Value.{id_of, value_at, values_at}
use Rattle.hidreport_c.specs.declared.structs.HidreportField.{HidreportField}

-- how many bits a value of the field has, and whether it is signed
abbrev pub width_of : HidreportField → ℕ
width_of f = element_width f.first_bit f.end_bit f.value_count

-- its values can be below 0: the logical minimum is
abbrev pub is_signed_in : HidreportField → Bool
is_signed_in f = int_lt f.measures.logical_minimum (pos 0)

-- numbers from a bit on, where they don't lie in the id and each fits
abbrev pub placed_at : HidreportField → ℕ → List ℤ → List ℕ → Result (List ℕ) InsertError
placed_at f = placed_by (id_of f) (width_of f) (is_signed_in f)

-- the bytes with all values of the field, or the first refusal
abbrev pub written_at : HidreportField → List ℤ → List ℕ → Result (List ℕ) InsertError
written_at f numbers bytes =
    if length numbers == f.value_count
    then where_read (values_at f bytes) (placed_at f f.first_bit numbers bytes)
    else Err refused.WrongCount

-- the same of one of its values
abbrev pub inserted_at : HidreportField → ℕ → ℤ → List ℕ → Result (List ℕ) InsertError
inserted_at f index number bytes = where_read (value_at f bytes index)
    (placed_at f (f.first_bit + width_of f * index) (number ∷ []) bytes)

-- what `insert` writes of a variable field, and `insert_one` of an array; padding has no value
abbrev pub inserted_value : FieldRecord → ℕ → ℤ → List ℕ → Result (List ℕ) InsertError
inserted_value (VariableRecord place usage shared) zero number bytes =
    written (VariableRecord place usage shared) (number ∷ []) bytes
inserted_value (VariableRecord place usage shared) (suc n) number bytes = Err refused.OutOfBounds
inserted_value (ArrayRecord place usages is_range count shared) index number bytes =
    written_element (ArrayRecord place usages is_range count shared) index number bytes
inserted_value (ConstantRecord place) index number bytes = Err refused.OutOfBounds

-- a number for each refusal
abbrev pub insert_status : InsertError → ℕ
insert_status refused.OutOfBounds = 2
insert_status refused.MismatchingReportId = 3
insert_status refused.DoesNotFit = 7
insert_status refused.WrongCount = 8

-- that of the refusal, 0 without one
abbrev pub status_after : Result (List ℕ) InsertError → ℕ
status_after (Ok new) = 0
status_after (Err e) = insert_status e

-- the bytes then: a refusal leaves them as they were
abbrev pub bytes_after : Result (List ℕ) InsertError → List ℕ → List ℕ
bytes_after (Ok new) old = new
bytes_after (Err e) old = old

-- they are written, or the number of the refusal is told
abbrev pub Places : Result (Unit {0}) ℕ → List ℕ → List ℕ → Result (List ℕ) InsertError → Type 0
Places (Ok done) old new answer = answer ≡ Ok new
Places (Err status) old new answer = (status ≡ status_after answer) × (new ≡ bytes_after answer old)

-- What was written is read again, all other bits stay, and of two writes the second counts. Nothing
-- is ever written to padding, which has no value.
abbrev pub IsInserted : FieldRecord → ℕ → ℤ → List ℕ → List ℕ → Type 0
IsInserted (VariableRecord place usage shared) index number old new =
    IsWritten (VariableRecord place usage shared) (number ∷ []) old new
IsInserted (ArrayRecord place usages is_range count shared) index number old new =
    IsElementWritten (ArrayRecord place usages is_range count shared) index number old new
IsInserted (ConstantRecord place) index number old new = ⊥
