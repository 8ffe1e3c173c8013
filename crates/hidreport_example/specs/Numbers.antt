-- The values in a report, as the library's example gives them.
use Rattle.std.specs.Prelude.{ℕ, ℤ, List, [], ◌∷◌, map, Option, None, Some, Result, Ok, Err}
use Rattle.std.specs.Int.{w32, cast_signed}
use Rattle.hidreport.specs.Answer.{Refusal}
use Rattle.hidreport.specs.Lookup.{find_report}
use Rattle.hidreport.specs.Meaning.{parse}
use Rattle.hidreport.specs.Reading.{ValueRecord, reads}
use Rattle.hidreport.specs.Reader.{before_numbers}
use Rattle.hidreport.specs.Records.{FieldRecord, ReportRecord, DescriptorRecord}

-- the number of a value
abbrev pub number : ValueRecord → ℤ
number v = cast_signed w32 v.word

abbrev pub each_number : Result (List ValueRecord) Refusal → Result (List ℤ) Refusal
each_number (Ok vs) = Ok (map number vs)
each_number (Err refusal) = Err refusal

-- the values that a report's bytes give a field; padding has none
abbrev pub numbers_at : List ℕ → FieldRecord → Result (List ℤ) Refusal
numbers_at bytes field = each_number (reads field bytes)

-- those of all fields, in order; the first refusal is the whole's
abbrev pub numbers_of : List ℕ → List FieldRecord → Result (List ℤ) Refusal
numbers_of bytes [] = Ok []
numbers_of bytes (f ∷ fields) = before_numbers (numbers_at bytes f) (numbers_of bytes fields)

-- none where no input report fits
abbrev pub found_numbers : List ℕ → Option ReportRecord → Result (List ℤ) Refusal
found_numbers bytes None = Ok []
found_numbers bytes (Some report) = numbers_of bytes report.fields

abbrev pub parsed_numbers : List ℕ → Result DescriptorRecord Refusal → Result (List ℤ) Refusal
parsed_numbers bytes (Err refusal) = Err refusal
parsed_numbers bytes (Ok descriptor) = found_numbers bytes (find_report descriptor.input bytes)

-- the values in a report, by the descriptor of its device, or why there are none
abbrev pub numbers_in : List ℕ → List ℕ → Result (List ℤ) Refusal
numbers_in descriptor bytes = parsed_numbers bytes (parse descriptor)
