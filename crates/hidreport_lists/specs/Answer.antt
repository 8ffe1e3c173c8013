-- What a parser's answer says, want of memory apart.
use Rattle.std.specs.Prelude.{◌≡◌, ℕ, List, Result, Ok, Err, Option, Some, None, string_bytes}
use Rattle.hidreport_items.specs.Answer.{GrammarFault, Invalid, Insufficient}
use Rattle.hidreport_items.specs.declared.error.HidError.{HidError}
use Rattle.hidreport_items.specs.declared.error.HidError.TheVariants as faults
use Rattle.hidreport_lists.specs.declared.error.ParserError.{ParserError}
use Rattle.hidreport_lists.specs.declared.error.ParserError.TheVariants as errors

-- why a descriptor or a report is refused: data is wrong at an offset, for the reason that the
-- message gives; something passes what can be counted or lies outside the bytes; the bytes are of
-- another report; the item at an offset passes the limit of a budget
pub data Refusal : Type 0 where
  InvalidData : ℕ → List ℕ → Refusal
  OutOfBounds : Refusal
  MismatchingReportId : Refusal
  BudgetExceeded : ℕ → Refusal

-- the error is this refusal; want of memory says nothing
abbrev pub Refuses : {A : Type 0} → ParserError → Result A Refusal → Type 0
Refuses (errors.InvalidData offset message) answer =
    answer ≡ Err (InvalidData offset (string_bytes message))
Refuses errors.OutOfBounds answer = answer ≡ Err OutOfBounds
Refuses errors.MismatchingReportId answer = answer ≡ Err MismatchingReportId
Refuses errors.OutOfMemory answer = Unit {0}
Refuses (errors.BudgetExceeded offset) answer = answer ≡ Err (BudgetExceeded offset)

-- the answer is what the definition gives
abbrev pub Answers : {A : Type 0} → Result A ParserError → Result A Refusal → Type 0
Answers (Ok x) answer = answer ≡ Ok x
Answers (Err e) answer = Refuses e answer

-- the answer, seen by `view`, is what the definition gives
abbrev pub AnswersBy : {A B : Type 0} → (A → B) → Result A ParserError → Result B Refusal → Type 0
AnswersBy view (Ok x) answer = answer ≡ Ok (view x)
AnswersBy view (Err e) answer = Refuses e answer

-- the error is data refused at the offset with this message, or want of memory
abbrev pub IsInvalidAt : ParserError → ℕ → List ℕ → Type 0
IsInvalidAt (errors.InvalidData at text) offset message =
    (at ≡ offset) × (string_bytes text ≡ message)
IsInvalidAt errors.OutOfBounds offset message = ⊥
IsInvalidAt errors.MismatchingReportId offset message = ⊥
IsInvalidAt errors.OutOfMemory offset message = Unit {0}
IsInvalidAt (errors.BudgetExceeded at) offset message = ⊥

-- reading items: data is refused at an offset, or memory is
abbrev pub IsOfItems : ParserError → Type 0
IsOfItems (errors.InvalidData offset message) = Unit {0}
IsOfItems errors.OutOfBounds = ⊥
IsOfItems errors.MismatchingReportId = ⊥
IsOfItems errors.OutOfMemory = Unit {0}
IsOfItems (errors.BudgetExceeded offset) = ⊥

-- reading a field: the bytes are too few or another report's, or memory is refused
abbrev pub IsOfReading : ParserError → Type 0
IsOfReading (errors.InvalidData offset message) = ⊥
IsOfReading errors.OutOfBounds = Unit {0}
IsOfReading errors.MismatchingReportId = Unit {0}
IsOfReading errors.OutOfMemory = Unit {0}
IsOfReading (errors.BudgetExceeded offset) = ⊥

-- what a reader's error says of the bytes; want of memory says nothing
abbrev pub fault_of : HidError → Option GrammarFault
fault_of (faults.InvalidData message) = Some (Invalid (string_bytes message))
fault_of faults.InsufficientData = Some Insufficient
fault_of faults.OutOfMemory = None
