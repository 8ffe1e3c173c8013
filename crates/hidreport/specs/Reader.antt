-- Reading a whole report (Sections 5.6 and 5.8): the numbers of all its fields, in order.
use Rattle.std.specs.Prelude.{◌≡◌, ◌+◌, ◌==◌, ℕ, zero, suc, ℤ, Bool, false, not, if◌then◌else◌, List}
use Rattle.std.specs.Prelude.{[], ◌∷◌, ◌++◌, length, flat_map, Option, None, Some, Result, Ok, Err}
use Rattle.std.specs.List.{list_any}
use Rattle.hidreport_lists.specs.Answer.{Refusal, OutOfBounds, MismatchingReportId, Refuses}
use Rattle.hidreport_lists.specs.declared.error.ParserError.{ParserError}
use Rattle.hidreport_fields.specs.Choosing.{value_number}
use Rattle.hidreport_fields.specs.Reading.{ValueRecord, element, is_signed, read_bits}
use Rattle.hidreport_fields.specs.Records.{FieldRecord, VariableRecord, ArrayRecord, ConstantRecord}
use Rattle.hidreport_fields.specs.Records.{own_id}
use Rattle.hidreport_fields.specs.WritingLaws.{reads_numbers}
use Rattle.hidreport_fields.specs.WritingValues.{value_count}

-- some numbers, and those behind them; the first refusal counts
abbrev pub before_numbers : Result (List ℤ) Refusal → Result (List ℤ) Refusal
    → Result (List ℤ) Refusal
before_numbers (Err refusal) rest = Err refusal
before_numbers (Ok numbers) (Err refusal) = Err refusal
before_numbers (Ok numbers) (Ok more) = Ok (numbers ++ more)

-- the numbers that a report's bytes give its fields, in order, or the first refusal
abbrev pub report_numbers : List FieldRecord → List ℕ → Result (List ℤ) Refusal
report_numbers [] bytes = Ok []
report_numbers (field ∷ fields) bytes =
    before_numbers (reads_numbers field bytes) (report_numbers fields bytes)

-- numbers in place of the first values, as far as there is room
abbrev pub filled : List ℤ → List ℤ → List ℤ
filled [] values = values
filled (number ∷ numbers) [] = []
filled (number ∷ numbers) (value ∷ values) = number ∷ filled numbers values

-- the answer counts the numbers, which stand in place of the first values; a refusal leaves all
abbrev pub ReadsInto : Result ℕ ParserError → List ℤ → List ℤ → Result (List ℤ) Refusal → Type 0
ReadsInto (Ok count) old new (Ok numbers) = (count ≡ length numbers) × (new ≡ filled numbers old)
ReadsInto (Ok count) old new (Err refusal) = ⊥
ReadsInto (Err e) old new answer = Refuses e answer × (new ≡ old)

-- bytes begin with another id than this
abbrev pub begins_otherwise : List ℕ → Option ℕ → Bool
begins_otherwise bytes None = false
begins_otherwise [] (Some id) = false
begins_otherwise (b ∷ bytes) (Some id) = not (b == id)

-- value `index` of a field by itself, whatever the report's id
abbrev pub value_alone : FieldRecord → List ℕ → ℕ → Result ValueRecord Refusal
value_alone (VariableRecord place usage shared) bytes index =
    read_bits place.first place.end (is_signed shared) bytes
value_alone (ArrayRecord place usages is_range count shared) bytes index =
    element place.first place.end count (is_signed shared) bytes index
value_alone (ConstantRecord place) bytes index = Err OutOfBounds

-- what is read at `index` and behind it, so many, each by itself
abbrev pub each_alone : (ℕ → Result ValueRecord Refusal) → ℕ → ℕ → List (Result ValueRecord Refusal)
each_alone read index zero = []
each_alone read index (suc more) = read index ∷ each_alone read (index + 1) more

-- the values of all fields, each by itself
abbrev pub values_alone : List FieldRecord → List ℕ → List (Result ValueRecord Refusal)
values_alone fields bytes =
    flat_map (λ field. each_alone (value_alone field bytes) 0 (value_count field)) fields

-- the numbers before the first value that isn't there
abbrev pub numbers_before : List (Result ValueRecord Refusal) → List ℤ
numbers_before [] = []
numbers_before (Ok value ∷ values) = value_number value ∷ numbers_before values
numbers_before (Err refusal ∷ values) = []

-- the numbers that bytes have of a report's fields, in order, up to the first that they don't have;
-- bytes of another report are refused
abbrev pub available_numbers : List FieldRecord → List ℕ → Result (List ℤ) Refusal
available_numbers fields bytes =
    if list_any (λ field. begins_otherwise bytes (own_id field)) fields then Err MismatchingReportId
    else Ok (numbers_before (values_alone fields bytes))
