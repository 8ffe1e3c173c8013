-- Which refusals a repair never has: a report of another id, and without limits a budget.
use Rattle.std.proofs.Common.{◌≡◌, ◌≢◌, ℕ, List, [], ◌∷◌, length, Option, None, Some, Result, Ok, Err}
use Rattle.std.proofs.Common.{ap, refl, ◌∙◌}
use Rattle.hidreport_items.specs.Answer.{GrammarFault}
use Rattle.hidreport_items.specs.declared.item.ItemType.{ItemType}
use Rattle.hidreport_lists.specs.Answer.{AnswersBy, MismatchingReportId, BudgetExceeded, Refusal}
use Rattle.hidreport_lists.specs.Itemising.{as_refusal}
use Rattle.hidreport_lists.specs.Mending.{PieceRecord, pieces}
use Rattle.hidreport_lists.specs.declared.error.ParserError.{ParserError}
use Rattle.hidreport_lists.specs.declared.error.ParserError.TheVariants as errors
use Rattle.hidreport.specs.Meaning.{InForce, refusal_at}
use Rattle.hidreport.specs.MeaningFault.{MeaningFault, MissingUsageMaximum, MissingUsagePage}
use Rattle.hidreport.specs.MeaningFault.{MissingUsages, TooManyEnds}
use Rattle.hidreport.specs.MeaningFault as meaning_fault
use Rattle.hidreport.specs.MeaningFault.{TooManyPops}
use Rattle.hidreport.specs.Options.{meaning_as, meaning_limited, parse_as, past_longest}
use Rattle.hidreport.specs.Options.{reading_of, unless_too_long}
use Rattle.hidreport_fields.specs.Records.{DescriptorRecord}
use Rattle.hidreport.specs.Repair.{RepairedRecord, all_mended, behind, fault_at, if_read, joined}
use Rattle.hidreport.specs.Repair.{mended, named_fault, repaired, repaired_of, repaired_pieces, repaired_view}
use Rattle.hidreport.specs.Repair.{mending, then_joined, then_mended, then_read, if_faultless}
use Rattle.hidreport.specs.Repair.{with_mended}
use Rattle.hidreport.specs.declared.parse_options.ParseOptions.{ParseOptions}
use Rattle.hidreport.specs.declared.repairing.change.Repaired.{Repaired}
use Rattle.hidreport.specs.declared.repairing.repair_options.RepairOptions.{RepairOptions}
use Rattle.hidreport.proofs.LongestLemmas.{as-never-mismatch, as-never-over}
use Rattle.hidreport.proofs.RefusalLemmas.{meaning-plain}

no-mismatch-by : {A B : Type 0} (view : A → B) (r : Result A ParserError) (answer : Result B Refusal)
    → AnswersBy view r answer → answer ≢ Err MismatchingReportId → r ≢ Err errors.MismatchingReportId
no-mismatch-by view (Ok x) answer a never is = cc
no-mismatch-by view (Err (errors.InvalidData offset message)) answer a never is = cc
no-mismatch-by view (Err errors.OutOfBounds) answer a never is = cc
no-mismatch-by view (Err errors.MismatchingReportId) answer a never is = never a
no-mismatch-by view (Err errors.OutOfMemory) answer a never is = cc
no-mismatch-by view (Err (errors.BudgetExceeded offset)) answer a never is = cc

refusal-other : (offset : ℕ) (fault : MeaningFault) → refusal_at offset fault ≢ MismatchingReportId
refusal-other offset TooManyPops is = cc
refusal-other offset TooManyEnds is = cc
refusal-other offset MissingUsageMaximum is = cc
refusal-other offset MissingUsagePage is = cc
refusal-other offset MissingUsages is = cc
refusal-other offset meaning_fault.OutOfBounds is = cc
refusal-other offset meaning_fault.BudgetExceeded is = cc

unless-other : (fault : Option MeaningFault) (offset : ℕ)
    (answer : Result (List PieceRecord) Refusal) → answer ≢ Err MismatchingReportId
    → if_faultless fault offset answer ≢ Err MismatchingReportId
unless-other None offset answer never is = never is
unless-other (Some fault) offset answer never is =
    let same : refusal_at offset fault ≡ MismatchingReportId = cc in refusal-other offset fault same

with-other : (p : PieceRecord) (answer : Result (List PieceRecord) Refusal)
    → answer ≢ Err MismatchingReportId → with_mended p answer ≢ Err MismatchingReportId
with-other p (Ok ps) never is = cc
with-other p (Err refusal) never is =
    let same : refusal ≡ MismatchingReportId = cc in never (ap Err same)

mended-other : (options : RepairOptions) (before : List ItemType) (ps : List PieceRecord)
    → all_mended options before ps ≢ Err MismatchingReportId
mended-other options before [] is = cc
mended-other options before (p ∷ ps) is =
    let m = mended options before p in
    let rest = all_mended options (behind before m) ps in
    unless-other (fault_at options.parse before m) p.offset (with_mended m rest)
    (with-other m rest (mended-other options (behind before m) ps)) is

pieces-other : (options : RepairOptions) (r : Result (List PieceRecord) (ℕ × GrammarFault))
    → then_mended options (as_refusal r) ≢ Err MismatchingReportId
pieces-other options (Ok ps) is = mended-other options [] ps is
pieces-other options (Err fault) is = cc

read-other : (r : RepairedRecord) (answer : Result DescriptorRecord Refusal)
    → answer ≢ Err MismatchingReportId → if_read r answer ≢ Err MismatchingReportId
read-other r (Ok d) never is = cc
read-other r (Err refusal) never is =
    let same : refusal ≡ MismatchingReportId = cc in never (ap Err same)

then-other : (options : ParseOptions) (ps : Result (List PieceRecord) Refusal)
    → ps ≢ Err MismatchingReportId → then_read options ps ≢ Err MismatchingReportId
then-other options (Ok ps) never is = read-other (repaired_of ps) (parse_as options (joined ps))
    (as-never-mismatch options (joined ps)) is
then-other options (Err refusal) never is =
    let same : refusal ≡ MismatchingReportId = cc in never (ap Err same)

past-other : (past : Option ℕ) (answer : Result RepairedRecord Refusal) → answer ≢ Err MismatchingReportId
    → unless_too_long past answer ≢ Err MismatchingReportId
past-other None answer never is = never is
past-other (Some offset) answer never is = cc

pub repair-no-mismatch : (options : RepairOptions) (bytes : List ℕ)
    (answer : Result Repaired ParserError) → AnswersBy repaired_view answer (repaired options bytes)
    → answer ≢ Err errors.MismatchingReportId
repair-no-mismatch options bytes answer a =
    no-mismatch-by repaired_view answer (repaired options bytes) a
    (past-other (past_longest options.parse.longest (length bytes))
    (then_read options.parse (repaired_pieces options bytes))
    (then-other options.parse (repaired_pieces options bytes)
    (pieces-other options (pieces options.leave_out_cut_short bytes))))

-- nor is a budget that is exceeded, where there is none
no-budget-by : {A B : Type 0} (view : A → B) (r : Result A ParserError) (answer : Result B Refusal)
    (offset : ℕ) → AnswersBy view r answer → answer ≢ Err (BudgetExceeded offset)
    → r ≢ Err (errors.BudgetExceeded offset)
no-budget-by view (Ok x) answer offset a never is = cc
no-budget-by view (Err (errors.InvalidData at message)) answer offset a never is = cc
no-budget-by view (Err errors.OutOfBounds) answer offset a never is = cc
no-budget-by view (Err errors.MismatchingReportId) answer offset a never is = cc
no-budget-by view (Err errors.OutOfMemory) answer offset a never is = cc
no-budget-by view (Err (errors.BudgetExceeded at)) answer offset a never is =
    let same : at ≡ offset = cc in never (a ∙ ap (λ n. Err (BudgetExceeded n)) same)

named-plain : (r : Result DescriptorRecord (ℕ × MeaningFault))
    → ((k : ℕ) → r ≢ Err (k, meaning_fault.BudgetExceeded)) → named_fault r ≢ Some meaning_fault.BudgetExceeded
named-plain (Ok d) plain is = cc
named-plain (Err (k, fault)) plain is =
    let same : fault ≡ meaning_fault.BudgetExceeded = cc in plain k (ap (λ f. Err (k, f)) same)

meaning-unlimited : (reading : InForce) (limit : Option ℕ) (items : List ItemType)
    → limit ≡ None → (k : ℕ) → meaning_limited reading limit items ≢ Err (k, meaning_fault.BudgetExceeded)
meaning-unlimited reading None items none k is = meaning-plain reading items k is
meaning-unlimited reading (Some limit) items none k is = cc

fault-unlimited : (options : ParseOptions) (before : List ItemType) (p : PieceRecord)
    → options.limit ≡ None → fault_at options before p ≢ Some meaning_fault.BudgetExceeded
fault-unlimited options before p none = named-plain (meaning_as options (behind before p))
    (meaning-unlimited (reading_of options) options.limit (behind before p) none)

at-unlimited : (at offset : ℕ) (fault : MeaningFault) → fault ≢ meaning_fault.BudgetExceeded
    → refusal_at at fault ≢ BudgetExceeded offset
at-unlimited at offset TooManyPops plain is = cc
at-unlimited at offset TooManyEnds plain is = cc
at-unlimited at offset MissingUsageMaximum plain is = cc
at-unlimited at offset MissingUsagePage plain is = cc
at-unlimited at offset MissingUsages plain is = cc
at-unlimited at offset meaning_fault.OutOfBounds plain is = cc
at-unlimited at offset meaning_fault.BudgetExceeded plain is = plain refl

unless-unlimited : (fault : Option MeaningFault) (at offset : ℕ)
    (answer : Result (List PieceRecord) Refusal) → fault ≢ Some meaning_fault.BudgetExceeded
    → answer ≢ Err (BudgetExceeded offset) → if_faultless fault at answer ≢ Err (BudgetExceeded offset)
unless-unlimited None at offset answer plain never is = never is
unless-unlimited (Some fault) at offset answer plain never is =
    let same : refusal_at at fault ≡ BudgetExceeded offset = cc in
    at-unlimited at offset fault (λ e. plain (ap Some e)) same

with-unlimited : (p : PieceRecord) (offset : ℕ) (answer : Result (List PieceRecord) Refusal)
    → answer ≢ Err (BudgetExceeded offset) → with_mended p answer ≢ Err (BudgetExceeded offset)
with-unlimited p offset (Ok ps) never is = cc
with-unlimited p offset (Err refusal) never is =
    let same : refusal ≡ BudgetExceeded offset = cc in never (ap Err same)

mended-unlimited : (options : RepairOptions) (before : List ItemType) (ps : List PieceRecord)
    (offset : ℕ) → options.parse.limit ≡ None
    → all_mended options before ps ≢ Err (BudgetExceeded offset)
mended-unlimited options before [] offset none is = cc
mended-unlimited options before (p ∷ ps) offset none is =
    let m = mended options before p in
    let rest = all_mended options (behind before m) ps in
    unless-unlimited (fault_at options.parse before m) p.offset offset (with_mended m rest)
    (fault-unlimited options.parse before m none)
    (with-unlimited m offset rest (mended-unlimited options (behind before m) ps offset none)) is

pieces-unlimited : (options : RepairOptions) (r : Result (List PieceRecord) (ℕ × GrammarFault))
    (offset : ℕ) → options.parse.limit ≡ None
    → then_mended options (as_refusal r) ≢ Err (BudgetExceeded offset)
pieces-unlimited options (Ok ps) offset none is = mended-unlimited options [] ps offset none is
pieces-unlimited options (Err fault) offset none is = cc

read-unlimited : (r : RepairedRecord) (answer : Result DescriptorRecord Refusal) (offset : ℕ)
    → answer ≢ Err (BudgetExceeded offset) → if_read r answer ≢ Err (BudgetExceeded offset)
read-unlimited r (Ok d) offset never is = cc
read-unlimited r (Err refusal) offset never is =
    let same : refusal ≡ BudgetExceeded offset = cc in never (ap Err same)

then-unlimited : (options : ParseOptions) (ps : Result (List PieceRecord) Refusal) (offset : ℕ)
    → options.limit ≡ None → options.longest ≡ None → ps ≢ Err (BudgetExceeded offset)
    → then_read options ps ≢ Err (BudgetExceeded offset)
then-unlimited options (Ok ps) offset none any never is =
    read-unlimited (repaired_of ps) (parse_as options (joined ps)) offset
    (as-never-over options (joined ps) offset none any) is
then-unlimited options (Err refusal) offset none any never is =
    let same : refusal ≡ BudgetExceeded offset = cc in never (ap Err same)

past-unlimited : (longest : Option ℕ) (size : ℕ) (answer : Result RepairedRecord Refusal)
    (offset : ℕ) → longest ≡ None → answer ≢ Err (BudgetExceeded offset)
    → unless_too_long (past_longest longest size) answer ≢ Err (BudgetExceeded offset)
past-unlimited None size answer offset any never is = never is
past-unlimited (Some longest) size answer offset any never is = cc

pub repair-unlimited : (options : RepairOptions) (bytes : List ℕ)
    (answer : Result Repaired ParserError) → AnswersBy repaired_view answer (repaired options bytes)
    → options.parse.limit ≡ None → options.parse.longest ≡ None
    → (offset : ℕ) → answer ≢ Err (errors.BudgetExceeded offset)
repair-unlimited options bytes answer a none any offset =
    no-budget-by repaired_view answer (repaired options bytes) offset a
    (past-unlimited options.parse.longest (length bytes)
    (then_read options.parse (repaired_pieces options bytes)) offset any
    (then-unlimited options.parse (repaired_pieces options bytes) offset none any
    (pieces-unlimited options (pieces options.leave_out_cut_short bytes) offset none)))

-- nor has what is mended alone
joined-unlimited : (r : Result (List PieceRecord) Refusal) (offset : ℕ)
    → r ≢ Err (BudgetExceeded offset) → then_joined r ≢ Err (BudgetExceeded offset)
joined-unlimited (Ok ps) offset never is = cc
joined-unlimited (Err refusal) offset never is =
    let same : refusal ≡ BudgetExceeded offset = cc in never (ap Err same)

pub mend-unlimited : (options : RepairOptions) (bytes : List ℕ)
    (answer : Result Repaired ParserError) → AnswersBy repaired_view answer (mending options bytes)
    → options.parse.limit ≡ None → options.parse.longest ≡ None
    → (offset : ℕ) → answer ≢ Err (errors.BudgetExceeded offset)
mend-unlimited options bytes answer a none any offset =
    no-budget-by repaired_view answer (mending options bytes) offset a
    (past-unlimited options.parse.longest (length bytes)
    (then_joined (repaired_pieces options bytes)) offset any
    (joined-unlimited (repaired_pieces options bytes) offset
    (pieces-unlimited options (pieces options.leave_out_cut_short bytes) offset none)))
