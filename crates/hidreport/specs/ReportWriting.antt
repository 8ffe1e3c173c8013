-- Writing a whole report (Sections 5.6 and 5.8), the inverse of reading it: the bytes that have the
-- values of all its fields, or why they are refused.
use Rattle.std.specs.Prelude.{◌≡◌, ℕ, ℤ, ◌==◌, ◌&&◌, Bool, true, if◌then◌else◌, List, [], ◌∷◌}
use Rattle.std.specs.Prelude.{length, take, drop, sum_by, Result, Ok, Err}
use Rattle.std.specs.List.{list_all, list_any}
use Rattle.hidreport.specs.Reader.{report_numbers}
use Rattle.hidreport_fields.specs.Records.{FieldRecord, ReportRecord, own_id, place_of}
use Rattle.hidreport_fields.specs.Tiling.{IsFilled}
use Rattle.hidreport_fields.specs.WritingLaws.{SamePadding, written_all}
use Rattle.hidreport_fields.specs.WritingValues.{begins_in_id, fits, has_sign, put, value_count, value_width}
use Rattle.hidreport_fields.specs.WritingValues.{where_read}
use Rattle.hidreport_fields.specs.declared.field.insert_error.InsertError.{InsertError}
use Rattle.hidreport_fields.specs.declared.field.insert_error.InsertError.TheVariants as refused

-- the numbers of one field, of those of a field and all behind it; and those behind
abbrev pub own_numbers : FieldRecord → List ℤ → List ℤ
own_numbers field numbers = take (value_count field) numbers

-- the numbers behind those of this field
abbrev pub later_numbers : FieldRecord → List ℤ → List ℤ
later_numbers field numbers = drop (value_count field) numbers

-- a field begins in the byte of its report's id
abbrev pub begins_in_own_id : FieldRecord → Bool
begins_in_own_id field = begins_in_id (own_id field) (place_of field).first

-- each field's bits hold its numbers
abbrev pub all_fit : List FieldRecord → List ℤ → Bool
all_fit [] numbers = true
all_fit (field ∷ fields) numbers =
    list_all (fits (value_width field) (has_sign field)) (own_numbers field numbers)
    && all_fit fields (later_numbers field numbers)

-- the bytes with the numbers of each field in place of its bits
abbrev pub put_all : List FieldRecord → List ℤ → List ℕ → List ℕ
put_all [] numbers bytes = bytes
put_all (field ∷ fields) numbers bytes = put_all fields (later_numbers field numbers)
    (put (place_of field).first (value_width field) (own_numbers field numbers) bytes)

-- the same, where no field lies in the id and each number fits
abbrev pub all_placed : List FieldRecord → List ℤ → List ℕ → Result (List ℕ) InsertError
all_placed fields numbers bytes =
    if list_any begins_in_own_id fields then Err refused.OutOfBounds
    else (if all_fit fields numbers then Ok (put_all fields numbers bytes)
    else Err refused.DoesNotFit)

-- the bytes with these values of all fields, in order, or the first refusal: bytes that can't be
-- read as they are can't be written either
abbrev pub report_written : List FieldRecord → List ℤ → List ℕ → Result (List ℕ) InsertError
report_written fields numbers bytes =
    if length numbers == sum_by value_count fields
    then where_read (report_numbers fields bytes) (all_placed fields numbers bytes)
    else Err refused.WrongCount

-- the numbers of each field by themselves
abbrev pub parted : List FieldRecord → List ℤ → List (List ℤ)
parted [] numbers = []
parted (field ∷ fields) numbers = own_numbers field numbers ∷ parted fields (later_numbers field numbers)

-- where the fields fill a report, the new bytes are those that writing one field after the other
-- gives, and the numbers are read again; each bit that is in no value is as it was
pub record IsReportWritten (fields : List FieldRecord) (numbers : List ℤ) (old new : List ℕ)
    : Type 0 where
  pub each : (report : ReportRecord) → IsFilled report → report.fields ≡ fields
      → written_all fields (parted fields numbers) old ≡ Ok new
  pub read : (report : ReportRecord) → IsFilled report → report.fields ≡ fields
      → report_numbers fields new ≡ Ok numbers
  pub size : length new ≡ length old
  pub kept : SamePadding fields old new
