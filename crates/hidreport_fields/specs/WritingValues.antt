-- Writing a field (Sections 5.6 and 5.8), the inverse of reading: the bytes that have its values, or
-- why they are refused.
use Rattle.std.specs.Prelude.{ℕ, ◌+◌, ◌-◌, ◌*◌, ◌/◌, ◌%◌, ◌^◌, ◌==◌, nat_lt, nat_le, ◌&&◌, ◌||◌, not, zero, suc}
use Rattle.std.specs.Prelude.{Bool, true, false, if◌then◌else◌, ℤ, pos, negsuc, List, [], ◌∷◌}
use Rattle.std.specs.Prelude.{length, get_or, Option, None, Some, Result, Ok, Err, ◌≡◌}
use Rattle.std.specs.List.{list_all}
use Rattle.std.specs.Int.{bit_at}
use Rattle.hidreport_lists.specs.Answer.{Refusal, InvalidData, OutOfBounds, MismatchingReportId, BudgetExceeded}
use Rattle.hidreport_fields.specs.BitValue.{bit}
use Rattle.hidreport_fields.specs.Reading.{element_width, is_signed, reads, reads_element, with_id}
use Rattle.hidreport_fields.specs.Records.{FieldRecord, VariableRecord, ArrayRecord, ConstantRecord}
use Rattle.hidreport_fields.specs.Records.{own_id, place_of}
use Rattle.hidreport_fields.specs.declared.field.insert_error.InsertError.{InsertError}
use Rattle.hidreport_fields.specs.declared.field.insert_error.InsertError.TheVariants as refused

-- bit i of a number in two's complement
abbrev pub number_bit : ℤ → ℕ → ℕ
number_bit (pos n) i = bit_at n i
number_bit (negsuc n) i = 1 - bit_at n i

-- so many bits hold the number, signed or not; negsuc n is -(n + 1)
abbrev pub fits : ℕ → Bool → ℤ → Bool
fits width false (pos n) = nat_lt n (2 ^ width)
fits width false (negsuc n) = false
fits width true (pos n) = nat_lt n (2 ^ (width - 1))
fits width true (negsuc n) = nat_lt n (2 ^ (width - 1))

-- bit n of bytes, behind numbers that were put there from bit `first` on, each in so many bits
abbrev pub bit_after : ℕ → ℕ → List ℤ → List ℕ → ℕ → ℕ
bit_after first width numbers bytes n =
    if nat_le first n && nat_lt n (first + width * length numbers)
    then number_bit (get_or numbers ((n - first) / width) (pos 0)) ((n - first) % width)
    else bit bytes n

-- so many bits from bit s on as a number, the first as the lowest
abbrev pub number_of : (ℕ → ℕ) → ℕ → ℕ → ℕ
number_of bits s zero = 0
number_of bits s (suc width) = number_of bits s width + bits (s + width) * 2 ^ width

-- so many bytes with the bits from bit s on
abbrev pub bytes_of : (ℕ → ℕ) → ℕ → ℕ → List ℕ
bytes_of bits s zero = []
bytes_of bits s (suc more) = number_of bits s 8 ∷ bytes_of bits (s + 8) more

-- the bytes with these numbers from bit `first` on, each in so many bits, and all others as before
abbrev pub put : ℕ → ℕ → List ℤ → List ℕ → List ℕ
put first width numbers bytes = bytes_of (bit_after first width numbers bytes) 0 (length bytes)

-- how many values a field has, and how many bits each
abbrev pub value_count : FieldRecord → ℕ
value_count (VariableRecord place usage shared) = 1
value_count (ArrayRecord place usages is_range count shared) = count
value_count (ConstantRecord place) = 0

-- how many bits each of its values has
abbrev pub value_width : FieldRecord → ℕ
value_width (VariableRecord place usage shared) = place.end - place.first
value_width (ArrayRecord place usages is_range count shared) =
    element_width place.first place.end count
value_width (ConstantRecord place) = 0

-- its values can be below 0
abbrev pub has_sign : FieldRecord → Bool
has_sign (VariableRecord place usage shared) = is_signed shared
has_sign (ArrayRecord place usages is_range count shared) = is_signed shared
has_sign (ConstantRecord place) = false

-- bits from this one on are among those of the report's id, which a field doesn't write
abbrev pub begins_in_id : Option ℕ → ℕ → Bool
begins_in_id None first = false
begins_in_id (Some id) first = nat_lt first 8

-- why a field that is not read is not written either
abbrev pub insert_refusal : Refusal → InsertError
insert_refusal (InvalidData offset message) = refused.OutOfBounds
insert_refusal OutOfBounds = refused.OutOfBounds
insert_refusal MismatchingReportId = refused.MismatchingReportId
insert_refusal (BudgetExceeded offset) = refused.OutOfBounds

-- the bits from `first` up to `end` can be read: at least one, at most 32, and all in the bytes
abbrev pub are_readable : ℕ → ℕ → List ℕ → Bool
are_readable first end bytes = not (nat_le end first
    || (nat_lt 32 (end - first) || nat_lt (8 * length bytes) end))

-- what can't be read can't be written either
abbrev pub where_read : {A B : Type 0} → Result A Refusal → Result B InsertError
    → Result B InsertError
where_read (Ok values) answer = answer
where_read (Err refusal) answer = Err (insert_refusal refusal)

-- numbers of a width and a sign from a bit on, where they don't lie in the id and each fits
abbrev pub placed_by : Option ℕ → ℕ → Bool → ℕ → List ℤ → List ℕ → Result (List ℕ) InsertError
placed_by id width sign first numbers bytes =
    if begins_in_id id first then Err refused.OutOfBounds
    else (if list_all (fits width sign) numbers then Ok (put first width numbers bytes)
    else Err refused.DoesNotFit)

-- those of a field's values
abbrev pub placed : FieldRecord → ℕ → List ℤ → List ℕ → Result (List ℕ) InsertError
placed field = placed_by (own_id field) (value_width field) (has_sign field)

-- the bytes with these values of a field, or the first refusal
abbrev pub written : FieldRecord → List ℤ → List ℕ → Result (List ℕ) InsertError
written field numbers bytes =
    if length numbers == value_count field
    then where_read (reads field bytes) (placed field (place_of field).first numbers bytes)
    else Err refused.WrongCount

-- the same of one element of an array
abbrev pub written_element : FieldRecord → ℕ → ℤ → List ℕ → Result (List ℕ) InsertError
written_element field index number bytes = where_read (reads_element field bytes index)
    (placed field ((place_of field).first + value_width field * index) (number ∷ []) bytes)

-- the answer and the new bytes are what the definition gives; a refusal leaves the bytes as they
-- were
abbrev pub Inserts : Result (Unit {0}) InsertError → List ℕ → List ℕ
    → Result (List ℕ) InsertError → Type 0
Inserts (Ok done) old new answer = answer ≡ Ok new
Inserts (Err e) old new answer = (answer ≡ Err e) × (new ≡ old)

-- the bits from `first` up to `end` can be written by a field with this id, whatever the value
abbrev pub place_check : Option ℕ → ℕ → ℕ → List ℕ → Result (Unit {0}) InsertError
place_check id first end bytes = where_read
    (with_id id bytes (if are_readable first end bytes then Ok (tt {0}) else Err OutOfBounds))
    (if begins_in_id id first then Err refused.OutOfBounds else Ok (tt {0}))
