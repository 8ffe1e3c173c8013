-- All values of a report, by fields as C has them (Sections 5.6 and 5.8).
use Rattle.std.specs.Prelude.{ℕ, ℤ, ◌^◌, nat_lt, if◌then◌else◌, List, [], ◌∷◌, length, flat_map}
use Rattle.std.specs.Prelude.{Result, Ok, Err}
use Rattle.std.specs.List.{list_any}
use Rattle.hidreport.specs.Answer.{Refusal, OutOfBounds, MismatchingReportId}
use Rattle.hidreport.specs.Reader.{before_numbers, begins_otherwise, each_alone, numbers_before}
use Rattle.hidreport.specs.Reading.{ValueRecord}
use Rattle.hidreport_c.specs.Value.{element_at, id_of, value_numbers, values_at}
use Rattle.hidreport_c.specs.declared.structs.HidreportField.{HidreportField}

-- the numbers that bytes give these fields, in order, or the first refusal
abbrev pub numbers_in : List HidreportField → List ℕ → Result (List ℤ) Refusal
numbers_in [] bytes = Ok []
numbers_in (f ∷ fields) bytes =
    before_numbers (value_numbers (values_at f bytes)) (numbers_in fields bytes)

-- the values of a field, each by itself, whatever the report's id
abbrev pub alone_at : HidreportField → List ℕ → List (Result ValueRecord Refusal)
alone_at f bytes = each_alone (element_at f bytes) 0 f.value_count

-- its numbers up to the first that isn't there
abbrev pub there_at : HidreportField → List ℕ → List ℤ
there_at f bytes = numbers_before (alone_at f bytes)

-- what each value of these fields reads by itself
abbrev pub alone_in : List HidreportField → List ℕ → List (Result ValueRecord Refusal)
alone_in fields bytes = flat_map (λ f. alone_at f bytes) fields

-- those of all fields, in order
abbrev pub there_in : List HidreportField → List ℕ → List ℤ
there_in fields bytes = numbers_before (alone_in fields bytes)

-- bytes of another report are refused
abbrev pub available_in : List HidreportField → List ℕ → Result (List ℤ) Refusal
available_in fields bytes =
    if list_any (λ (f : HidreportField). begins_otherwise bytes (id_of f)) fields then Err MismatchingReportId
    else Ok (there_in fields bytes)

-- so are more numbers than 64 bits count
abbrev pub if_countable : Result (List ℤ) Refusal → Result (List ℤ) Refusal
if_countable (Ok numbers) = if nat_lt (length numbers) (2 ^ 64) then Ok numbers else Err OutOfBounds
if_countable (Err refusal) = Err refusal
