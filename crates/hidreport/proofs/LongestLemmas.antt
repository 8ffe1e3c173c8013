-- Bytes that aren't too many are read as the other options say.
use Rattle.std.proofs.Common.{◌≡◌, ◌≢◌, ℕ, List, length, Option, None, Some, Result, Ok, Err, ap}
use Rattle.std.proofs.Common.{sym, IfOk}
use Rattle.hidreport_lists.specs.Answer.{Answers, MismatchingReportId, BudgetExceeded, Refusal}
use Rattle.hidreport_lists.specs.declared.error.ParserError.{ParserError}
use Rattle.hidreport.specs.Meaning.{InForce}
use Rattle.hidreport.specs.Options.{parse_as, parse_limited, past_longest, reading_of, unless_too_long}
use Rattle.hidreport_fields.specs.Records.{DescriptorRecord}
use Rattle.hidreport.specs.declared.parse_options.ParseOptions.{ParseOptions}
use Rattle.hidreport.proofs.RefusalLemmas.{never-mismatch, never-over}

-- without what is past
pub as-limited : (options : ParseOptions) (bytes : List ℕ)
    → None ≡ past_longest options.longest (length bytes)
    → parse_as options bytes
    ≡ parse_limited (reading_of options) options.limit bytes
as-limited options bytes none = ap (λ o. unless_too_long o
    (parse_limited (reading_of options) options.limit bytes)) (sym none)

-- what is past is the refusal
pub as-past : (options : ParseOptions) (bytes : List ℕ) (offset : ℕ)
    → Some offset ≡ past_longest options.longest (length bytes)
    → parse_as options bytes ≡ Err (BudgetExceeded offset)
as-past options bytes offset past = ap (λ o. unless_too_long o
    (parse_limited (reading_of options) options.limit bytes)) (sym past)

past-mismatch : (past : Option ℕ) (answer : Result DescriptorRecord Refusal)
    → answer ≢ Err MismatchingReportId → unless_too_long past answer ≢ Err MismatchingReportId
past-mismatch None answer never is = never is
past-mismatch (Some offset) answer never is = cc

pub as-never-mismatch : (options : ParseOptions) (bytes : List ℕ)
    → parse_as options bytes ≢ Err MismatchingReportId
as-never-mismatch options bytes = past-mismatch (past_longest options.longest (length bytes))
    (parse_limited (reading_of options) options.limit bytes)
    (never-mismatch (reading_of options) options.limit bytes)

unlimited : (reading : InForce) (limit longest : Option ℕ) (bytes : List ℕ) (offset : ℕ)
    → limit ≡ None → longest ≡ None
    → unless_too_long (past_longest longest (length bytes)) (parse_limited reading limit bytes)
    ≢ Err (BudgetExceeded offset)
unlimited reading None None bytes offset none any is = never-over reading bytes offset is
unlimited reading (Some limit) longest bytes offset none any is = cc
unlimited reading None (Some longest) bytes offset none any is = cc

pub as-never-over : (options : ParseOptions) (bytes : List ℕ) (offset : ℕ)
    → options.limit ≡ None → options.longest ≡ None → parse_as options bytes ≢ Err (BudgetExceeded offset)
as-never-over options bytes offset none any =
    unlimited (reading_of options) options.limit options.longest bytes offset none any

-- what holds of each answer that is reports holds of these
pub found-ok : {A : Type 0} {P : A → Type 0} {answer : Result A Refusal}
    (result : Result A ParserError)
    → ((d : A) → answer ≡ Ok d → P d) → Answers result answer → IfOk result P
found-ok (Ok d) holds is = holds d is
found-ok (Err e) holds is = tt
