-- What is wrong with a descriptor, as text.
use Rattle.std.specs.Prelude.{◌≡◌, ℕ, List, [], codes, length, string_bytes, Result, Ok, Err}
use Rattle.std.specs.Prelude.{Option, None, Some}
use Rattle.hidreport.specs.Answer.{Refusal, InvalidData, OutOfBounds, MismatchingReportId, BudgetExceeded}
use Rattle.hidreport.specs.Itemising.{as_refusal, itemise}
use Rattle.hidreport.specs.Repair.{repaired}
use Rattle.hidreport.specs.Spelling.{item_of}
use Rattle.hidreport.specs.ParserError.{ParserError}
use Rattle.hidreport.specs.ParserError.TheVariants as errors
use Rattle.hidreport.specs.declared.repairing.repair_options.RepairOptions.{RepairOptions}
use Rattle.hidreport_c.specs.Answer.{array_after, counted, no_memory}
use Rattle.hidreport_c.specs.Options.{read_by}
use Rattle.hidreport_c.specs.declared.options.Reading.{Reading}
use Rattle.hidreport_c.specs.declared.structs.HidreportAnswer.{HidreportAnswer}

-- the words of a refusal, without where it stands
abbrev pub message_of : Refusal → List ℕ
message_of (InvalidData offset message) = message
message_of OutOfBounds = codes "out of bounds"
message_of MismatchingReportId = codes "the bytes are of another report"
message_of (BudgetExceeded offset) = codes "budget exceeded"

-- what is refused is refused with its words; nothing is said of what isn't
abbrev pub message_in : {A : Type 0} → Result A Refusal → Result (List ℕ) Refusal
message_in (Ok x) = Ok []
message_in (Err refusal) = Ok (message_of refusal)

-- those of a descriptor that is read by these options, of one that is repaired by them, and of bytes
-- as items
abbrev pub parse_message : List ℕ → Reading → Result (List ℕ) Refusal
parse_message bytes options = message_in (read_by options bytes)

abbrev pub repair_message : List ℕ → RepairOptions → Result (List ℕ) Refusal
repair_message bytes options = message_in (repaired options bytes)

abbrev pub items_message : List ℕ → Result (List ℕ) Refusal
items_message bytes = message_in (as_refusal (itemise item_of bytes))

-- the words of an error; none where memory was refused
abbrev pub words_of : ParserError → Option (List ℕ)
words_of (errors.InvalidData offset message) = Some (string_bytes message)
words_of errors.OutOfBounds = Some (message_of OutOfBounds)
words_of errors.MismatchingReportId = Some (message_of MismatchingReportId)
words_of errors.OutOfMemory = None
words_of (errors.BudgetExceeded offset) = Some (message_of (BudgetExceeded offset))

-- these words are written, or it is told that memory was refused
abbrev pub Says : Option (List ℕ) → List ℕ → List ℕ → HidreportAnswer → Type 0
Says None old new told = (told ≡ no_memory) × (new ≡ old)
Says (Some words) old new told = (told ≡ counted (length words)) × (new ≡ array_after words old)
