-- All values of a report written at once, by fields as C has them (Sections 5.6 and 5.8).
use Rattle.std.specs.Prelude.{◌≢◌, ◌<◌, ◌≤◌, ℕ, ℤ, ◌+◌, ◌*◌, ◌==◌, ◌&&◌, Bool, true, if◌then◌else◌}
use Rattle.std.specs.Prelude.{List, [], ◌∷◌, length, take, drop, sum_by, Result, Ok, Err}
use Rattle.std.specs.List.{list_all, list_any}
use Rattle.hidreport.specs.WritingValues.{begins_in_id, fits, put, where_read}
use Rattle.hidreport_fields.specs.declared.field.insert_error.InsertError.{InsertError}
use Rattle.hidreport_fields.specs.declared.field.insert_error.InsertError.TheVariants as refused
use Rattle.hidreport_c.specs.Insert.{is_signed_in, width_of}
use Rattle.hidreport_c.specs.Reading.{numbers_in}
use Rattle.hidreport_c.specs.Value.{id_of}
use Rattle.hidreport_c.specs.declared.structs.HidreportField.{HidreportField}

-- how many values fields have
abbrev pub count_at : List HidreportField → ℕ
count_at fields = sum_by (λ (f : HidreportField). f.value_count) fields

-- a field begins in the byte of its report's id
abbrev pub begins_in_own_id_at : HidreportField → Bool
begins_in_own_id_at f = begins_in_id (id_of f) f.first_bit

-- each field's bits hold its numbers
abbrev pub all_fit_at : List HidreportField → List ℤ → Bool
all_fit_at [] numbers = true
all_fit_at (f ∷ fields) numbers =
    list_all (fits (width_of f) (is_signed_in f)) (take f.value_count numbers)
    && all_fit_at fields (drop f.value_count numbers)

-- the bytes with the numbers of each field in place of its bits
abbrev pub put_all_at : List HidreportField → List ℤ → List ℕ → List ℕ
put_all_at [] numbers bytes = bytes
put_all_at (f ∷ fields) numbers bytes = put_all_at fields (drop f.value_count numbers)
    (put f.first_bit (width_of f) (take f.value_count numbers) bytes)

-- the same, where no field lies in the id and each number fits
abbrev pub all_placed_at : List HidreportField → List ℤ → List ℕ → Result (List ℕ) InsertError
all_placed_at fields numbers bytes =
    if list_any begins_in_own_id_at fields then Err refused.OutOfBounds
    else (if all_fit_at fields numbers then Ok (put_all_at fields numbers bytes)
    else Err refused.DoesNotFit)

-- the bytes with these values of all fields, in order, or the first refusal
abbrev pub report_written_at : List HidreportField → List ℤ → List ℕ
    → Result (List ℕ) InsertError
report_written_at fields numbers bytes =
    if length numbers == count_at fields
    then where_read (numbers_in fields bytes) (all_placed_at fields numbers bytes)
    else Err refused.WrongCount

-- values that there are have some bits, at most 32
abbrev pub IsNarrowAt : HidreportField → Type 0
IsNarrowAt f = f.value_count ≢ 0 → (0 < width_of f) × (width_of f ≤ 32)

-- and they end in so many bytes
abbrev pub HasRoomAt : ℕ → HidreportField → Type 0
HasRoomAt bytes f = IsNarrowAt f
    × (f.value_count ≢ 0 → f.first_bit + width_of f * f.value_count ≤ 8 * bytes)
