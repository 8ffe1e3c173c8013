-- What holds of bytes that values were written into (Sections 5.6 and 5.8).
use Rattle.std.specs.Prelude.{◌≡◌, ◌≢◌, ◌⊎◌, ℕ, ◌+◌, ◌*◌, ◌<◌, ◌≤◌, ℤ, List, [], ◌∷◌, length, map, All}
use Rattle.std.specs.Prelude.{slice_get, Some, Result, Ok, Err}
use Rattle.hidreport_items.specs.Spelling.{AreBytes}
use Rattle.hidreport_lists.specs.Answer.{Refusal}
use Rattle.hidreport_fields.specs.BitValue.{bit}
use Rattle.hidreport_fields.specs.Bits.{covered_bits}
use Rattle.hidreport_fields.specs.Choosing.{value_number}
use Rattle.hidreport_fields.specs.Reading.{ValueRecord, reads, reads_element}
use Rattle.hidreport_fields.specs.Records.{FieldRecord, ReportRecord, place_of}
use Rattle.hidreport_fields.specs.Tiling.{IsFilled}
use Rattle.hidreport_fields.specs.WritingValues.{value_width, written, written_element}
use Rattle.hidreport_fields.specs.declared.field.insert_error.InsertError.{InsertError}
use Rattle.hidreport_fields.specs.declared.field.insert_error.InsertError.TheVariants as refused

-- the numbers of values that were read
abbrev pub numbers_of : Result (List ValueRecord) Refusal → Result (List ℤ) Refusal
numbers_of (Ok values) = Ok (map value_number values)
numbers_of (Err refusal) = Err refusal

-- the numbers that a report's bytes give a field, or the first refusal
abbrev pub reads_numbers : FieldRecord → List ℕ → Result (List ℤ) Refusal
reads_numbers field bytes = numbers_of (reads field bytes)

-- the number of a value that was read
abbrev pub number_in : Result ValueRecord Refusal → Result ℤ Refusal
number_in (Ok value) = Ok (value_number value)
number_in (Err refusal) = Err refusal

-- there are as many bytes, and each bit but so many from `first` on is as it was
pub record Keeps (first count : ℕ) (old new : List ℕ) : Type 0 where
  pub size : length new ≡ length old
  pub bits : (n : ℕ) → (n < first) ⊎ (first + count ≤ n) → bit new n ≡ bit old n

-- each other field of a report that has this one reads what it read
abbrev pub LeavesOthers : FieldRecord → List ℕ → List ℕ → Type 0
LeavesOthers field old new = (report : ReportRecord) (i j : ℕ) (other : FieldRecord)
    → IsFilled report → slice_get report.fields i ≡ Some field
    → slice_get report.fields j ≡ Some other → i ≢ j → reads other new ≡ reads other old

-- the field reads the numbers that were written; each bit outside its elements is as before; the
-- report's other fields read what they read before; of two writes the second counts
pub record IsWritten (field : FieldRecord) (numbers : List ℤ) (old new : List ℕ) : Type 0 where
  pub read : reads_numbers field new ≡ Ok numbers
  pub kept : Keeps (place_of field).first (covered_bits field) old new
  pub apart : LeavesOthers field old new
  pub last : (others : List ℤ) → written field others new ≡ written field others old

-- the same of one element; the array's other elements read what they read before, too
pub record IsElementWritten (field : FieldRecord) (index : ℕ) (number : ℤ) (old new : List ℕ)
    : Type 0 where
  pub read : number_in (reads_element field new index) ≡ Ok number
  pub kept : Keeps ((place_of field).first + value_width field * index) (value_width field) old new
  pub elements : (j : ℕ) → j ≢ index → reads_element field new j ≡ reads_element field old j
  pub apart : LeavesOthers field old new
  pub last : (other : ℤ) → written_element field index other new
      ≡ written_element field index other old

-- the next is written where this one is
abbrev pub then_written : Result (List ℕ) InsertError → (List ℕ → Result (List ℕ) InsertError)
    → Result (List ℕ) InsertError
then_written (Ok bytes) next = next bytes
then_written (Err refusal) next = Err refusal

-- the fields of a report written in order, each with its values; padding has none
abbrev pub written_all : List FieldRecord → List (List ℤ) → List ℕ → Result (List ℕ) InsertError
written_all [] [] bytes = Ok bytes
written_all [] (numbers ∷ more) bytes = Err refused.WrongCount
written_all (field ∷ fields) [] bytes = Err refused.WrongCount
written_all (field ∷ fields) (numbers ∷ more) bytes =
    then_written (written field numbers bytes) (written_all fields more)

-- each field reads its numbers
abbrev pub AllRead : List FieldRecord → List (List ℤ) → List ℕ → Type 0
AllRead [] [] bytes = Unit {0}
AllRead [] (numbers ∷ more) bytes = ⊥
AllRead (field ∷ fields) [] bytes = ⊥
AllRead (field ∷ fields) (numbers ∷ more) bytes =
    (reads_numbers field bytes ≡ Ok numbers) × AllRead fields more bytes

-- each bit that is in no element of these fields is the same in both
abbrev pub SamePadding : List FieldRecord → List ℕ → List ℕ → Type 0
SamePadding fields bytes other = (n : ℕ)
    → All (λ f. (n < (place_of f).first) ⊎ ((place_of f).first + covered_bits f ≤ n)) fields
    → bit bytes n ≡ bit other n

-- a report whose fields have all been written has just these values; written over bytes with the
-- same padding, the new bytes are the same
pub record IsWhole (report : ReportRecord) (bytes : List ℕ) : Type 0 where
  pub values : (numbers : List (List ℤ)) (new : List ℕ) → IsFilled report
      → written_all report.fields numbers bytes ≡ Ok new → AllRead report.fields numbers new
  pub same : (other : List ℕ) (numbers : List (List ℤ)) (new newer : List ℕ) → AreBytes other
      → length other ≡ length bytes → SamePadding report.fields bytes other
      → written_all report.fields numbers bytes ≡ Ok new
      → written_all report.fields numbers other ≡ Ok newer → new ≡ newer
