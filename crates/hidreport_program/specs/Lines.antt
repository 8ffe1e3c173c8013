-- The lines that the program writes. Each ends with a newline, which is the byte 10.
use Rattle.std.specs.Prelude.{ℕ, ◌-◌, List, [], ◌∷◌, ◌++◌, flat_map, Option}
use Rattle.std.specs.Prelude.{Some, None, Result, Ok, Err, length, replicate, codes, decimal, false}
use Rattle.std.specs.Fmt.{radix_digits, signed_decimal}
use Rattle.hidreport_lists.specs.Answer.{Refusal, InvalidData, OutOfBounds, MismatchingReportId, BudgetExceeded}
use Rattle.hidreport.specs.Choosing.{value_number}
use Rattle.hidreport.specs.Reading.{ValueRecord, reads}
use Rattle.hidreport.specs.Records.{FieldPlace, FieldRecord, VariableRecord, ArrayRecord}
use Rattle.hidreport.specs.Records.{ConstantRecord}
use Rattle.hidreport.specs.UsageNumber.{usage_number}

abbrev pub newline : List ℕ
newline = 10 ∷ []

-- a number in lower-case hexadecimal, with zeros before it up to so many digits
abbrev pub hex_digits : ℕ → ℕ → List ℕ
hex_digits count n = replicate (count - length (radix_digits 16 false n)) 48 ++ radix_digits 16
    false n

-- bytes in two digits each, a space between
abbrev pub bytes_text : List ℕ → List ℕ
bytes_text [] = []
bytes_text (b ∷ bs) = hex_digits 2 b ++ flat_map (λ c. 32 ∷ hex_digits 2 c) bs

-- values, each after a space
abbrev pub values_text : List ValueRecord → List ℕ
values_text vs = flat_map (λ v. 32 ∷ signed_decimal (value_number v)) vs

-- what was read, or that its bits lie outside the report
abbrev pub reading_text : Result (List ValueRecord) Refusal → List ℕ
reading_text (Ok vs) = values_text vs
reading_text (Err refusal) = codes " out of bounds"

-- a field's bits in its report: the first, and the one behind the last
abbrev pub bits_text : FieldPlace → List ℕ → List ℕ
bits_text place rest = decimal place.first ++ (codes ".." ++ (decimal place.end ++ rest))

-- a field's place, its kind and usage, and what the report's bytes give it
abbrev pub line_of_field : List ℕ → FieldRecord → List ℕ
line_of_field bytes (VariableRecord place usage shared) =
    bits_text place (codes " variable " ++ (hex_digits 8 (usage_number usage)
    ++ (reading_text (reads (VariableRecord place usage shared) bytes) ++ newline)))
line_of_field bytes (ArrayRecord place usages is_range count shared) =
    bits_text place (codes " array"
    ++ (reading_text (reads (ArrayRecord place usages is_range count shared) bytes) ++ newline))
line_of_field bytes (ConstantRecord place) = bits_text place (codes " constant" ++ newline)

-- a report's id, or two dashes
abbrev pub id_text : Option ℕ → List ℕ
id_text (Some id) = hex_digits 2 id
id_text None = codes "--"

-- a report's id and its size in bits
abbrev pub report_line : Option ℕ → ℕ → List ℕ
report_line id size = codes "report " ++ (id_text id ++ (codes " " ++ (decimal size ++ newline)))

-- why the descriptor is refused; parsing never refuses bytes as another report's
abbrev pub refusal_line : Refusal → List ℕ
refusal_line (InvalidData offset message) =
    codes "refused: invalid data at offset "
    ++ (decimal offset ++ (codes ": " ++ (message ++ newline)))
refusal_line OutOfBounds = codes "refused: out of bounds" ++ newline
refusal_line MismatchingReportId = codes "refused: out of bounds" ++ newline
refusal_line (BudgetExceeded offset) =
    codes "refused: budget exceeded at offset " ++ (decimal offset ++ newline)

-- no report has bytes like these
abbrev pub no_report_line : List ℕ
no_report_line = codes "refused: no report" ++ newline

-- what rebuilding writes
abbrev pub rebuilt_line : List ℕ → List ℕ
rebuilt_line bytes = bytes_text bytes ++ newline
