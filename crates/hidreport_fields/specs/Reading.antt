-- Reading a field (Sections 5.6 and 5.8): the value that a report's bytes give it, or why they give
-- none.
use Rattle.std.specs.Prelude.{ℕ, ◌+◌, ◌-◌, ◌*◌, ◌/◌, ◌==◌, nat_lt, nat_le, ◌||◌, zero, suc}
use Rattle.std.specs.Prelude.{Bool, if◌then◌else◌, List, [], ◌∷◌, length, Option, None, Some}
use Rattle.std.specs.Prelude.{Result, Ok, Err, int_lt, pos}
use Rattle.hidreport_lists.specs.Answer.{Refusal, OutOfBounds, MismatchingReportId}
use Rattle.hidreport_fields.specs.BitValue.{value, as_word}
use Rattle.hidreport_fields.specs.Records.{Attributes, FieldRecord, VariableRecord, ArrayRecord}
use Rattle.hidreport_fields.specs.Records.{ConstantRecord, element_count, own_id}

-- a value as 32 bits, and whether it is signed
pub record ValueRecord : Type 0 where
  pub word : ℕ
  pub is_signed : Bool

-- a field with an id is read only from bytes that begin with it
abbrev pub with_id : {A : Type 0} → Option ℕ → List ℕ → Result A Refusal → Result A Refusal
with_id None bytes answer = answer
with_id (Some id) [] answer = Err OutOfBounds
with_id (Some id) (b ∷ bytes) answer = if b == id then answer else Err MismatchingReportId

-- the bits from `first` up to `end`: at least one, at most 32, and all in the bytes
abbrev pub read_bits : ℕ → ℕ → Bool → List ℕ → Result ValueRecord Refusal
read_bits first end is_signed bytes =
    if nat_le end first
    || (nat_lt 32 (end - first) || nat_lt (8 * length bytes) end) then Err OutOfBounds
    else Ok (record {
      word = as_word (value bytes first (end - first) is_signed);
      is_signed = is_signed;
    })

-- how wide one of so many elements of a range is, in bits
abbrev pub element_width : ℕ → ℕ → ℕ → ℕ
element_width first end count = (end - first) / count

-- element `index` of an array
abbrev pub element : ℕ → ℕ → ℕ → Bool → List ℕ → ℕ → Result ValueRecord Refusal
element first end count is_signed bytes index =
    let width = element_width first end count in
    read_bits (first + width * index) (first + width * index + width) is_signed bytes

-- a value before others; the first refusal refuses all
abbrev pub before_values : Result ValueRecord Refusal → Result (List ValueRecord) Refusal
    → Result (List ValueRecord) Refusal
before_values (Err e) rest = Err e
before_values (Ok x) (Err e) = Err e
before_values (Ok x) (Ok xs) = Ok (x ∷ xs)

-- the values at `index` and behind it, so many, or the first refusal
abbrev pub each_value : (ℕ → Result ValueRecord Refusal) → ℕ → ℕ → Result (List ValueRecord) Refusal
each_value read index zero = Ok []
each_value read index (suc more) = before_values (read index) (each_value read (index + 1) more)

-- the values are signed where the least of them is below 0
abbrev pub is_signed : Attributes → Bool
is_signed shared = int_lt shared.logical_minimum (pos 0)

-- a value as a list of one
abbrev pub one_value : Result ValueRecord Refusal → Result (List ValueRecord) Refusal
one_value (Ok x) = Ok (x ∷ [])
one_value (Err refusal) = Err refusal

-- a field's values in order, whatever the report's id: one, those of all elements, or none of
-- padding
abbrev pub values_of : FieldRecord → List ℕ → Result (List ValueRecord) Refusal
values_of (VariableRecord place usage shared) bytes =
    one_value (read_bits place.first place.end (is_signed shared) bytes)
values_of (ArrayRecord place usages is_range count shared) bytes =
    each_value (element place.first place.end count (is_signed shared) bytes) 0 count
values_of (ConstantRecord place) bytes = Ok []

-- the values that a report's bytes give a field, or the first refusal
abbrev pub reads : FieldRecord → List ℕ → Result (List ValueRecord) Refusal
reads field bytes = with_id (own_id field) bytes (values_of field bytes)

-- an element of an array, whatever the report's id
abbrev pub element_of : FieldRecord → List ℕ → ℕ → Result ValueRecord Refusal
element_of (VariableRecord place usage shared) bytes index = Err OutOfBounds
element_of (ArrayRecord place usages is_range count shared) bytes index =
    element place.first place.end count (is_signed shared) bytes index
element_of (ConstantRecord place) bytes index = Err OutOfBounds

-- the value that a report's bytes give one element, or the first refusal
abbrev pub reads_element : FieldRecord → List ℕ → ℕ → Result ValueRecord Refusal
reads_element field bytes index =
    if nat_lt index (element_count field) then with_id (own_id field) bytes
    (element_of field bytes index)
    else Err OutOfBounds
