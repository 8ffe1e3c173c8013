-- What is read of a repair: repaired again it stays, and written anew it is read alike.
use Rattle.std.proofs.Common.{◌≡◌, ℕ, ◌∙◌, List, [], length, Option, None, Some, Result, Ok, Err}
use Rattle.std.proofs.Common.{◌∷◌, ◌<◌, IfOk, false, arith, refl, subst, sym}
use Rattle.std.proofs.lemmas.List.Elements.{All-append}
use Rattle.hidreport_items.specs.Spelling.{AreBytes, item_of}
use Rattle.hidreport_items.specs.declared.item.ItemType.{ItemType}
use Rattle.hidreport_lists.specs.Answer.{AnswersBy}
use Rattle.hidreport_lists.specs.Entry.{Entry}
use Rattle.hidreport_lists.specs.Itemising.{AreRead, Reads, all_bytes}
use Rattle.hidreport_lists.specs.Rebuilt.{canonical_entries, items_of, kept_entries}
use Rattle.hidreport_lists.specs.declared.error.ParserError.{ParserError}
use Rattle.hidreport.specs.Meaning.{at_offset, meaning_by, parse_by}
use Rattle.hidreport.specs.MeaningFault.{MeaningFault}
use Rattle.hidreport.specs.Options.{parse_as, parse_limited, past_longest, reading_of, unless_too_long}
use Rattle.hidreport_fields.specs.Records.{DescriptorRecord}
use Rattle.hidreport.specs.Repair.{RepairedRecord, repaired, repaired_view}
use Rattle.hidreport.specs.RepairLaws.{KeepsBits, RebuildsAlike, StaysRepaired}
use Rattle.hidreport.specs.declared.parse_options.ParseOptions.{ParseOptions}
use Rattle.hidreport.specs.declared.repairing.change.Repaired.{Repaired}
use Rattle.hidreport.specs.declared.repairing.repair_options.RepairOptions.{RepairOptions}
use Rattle.hidreport.proofs.BudgetBoundLemmas.{limited-plain}
use Rattle.hidreport.proofs.KeptItemsLemmas.{parse-kept, parse-rebuilt}
use Rattle.hidreport.proofs.UntouchedLemmas.{accepts, untouched-ok}

-- bytes that are items are bytes
read-bytes : (bs : List ℕ) (x : ItemType) → Reads item_of bs x → AreBytes bs
read-bytes [] x reads = absurd reads
read-bytes (h ∷ bs) x reads = reads.0

all-bytes : (entries : List Entry) → AreRead item_of entries → AreBytes (all_bytes entries)
all-bytes [] reads = λ k d few. absurd (omega (arith, few))
all-bytes (e ∷ es) reads = All-append (λ b. b < 256) e.bytes (all_bytes es)
    (read-bytes e.bytes e.item reads.0) (all-bytes es reads.1)

-- a repair is read, so it stays as it is
pub stays-repaired : (options : RepairOptions) (bytes : List ℕ) (r : RepairedRecord)
    → AreBytes r.bytes → repaired options bytes ≡ Ok r → StaysRepaired options r
stays-repaired options bytes r are e =
    untouched-ok (record options { unsigned_maxima = false }) r.bytes
    (parse_as options.parse r.bytes) are refl refl (accepts options bytes r e)

-- what is read by options is read without limits
read-plain : (past limit : Option ℕ) (options : ParseOptions) (bytes : List ℕ)
    (d : DescriptorRecord)
    → unless_too_long past (parse_limited (reading_of options) limit bytes) ≡ Ok d
    → parse_by (reading_of options) bytes ≡ Ok d
read-plain None limit options bytes d e =
    limited-plain (reading_of options) limit bytes d e
read-plain (Some offset) limit options bytes d e = cc

at-read : (entries others : List Entry) (r : Result DescriptorRecord (ℕ × MeaningFault))
    (d : DescriptorRecord) → at_offset entries r ≡ Ok d → at_offset others r ≡ Ok d
at-read entries others (Ok x) d e = e
at-read entries others (Err f) d e = cc

-- and so are its items, written anew
pub rebuilds-alike : (options : RepairOptions) (r : RepairedRecord) → RebuildsAlike options r
rebuilds-alike options r entries d i some e =
    let plain : ParseOptions = record options.parse { limit = None } in
    let kept = items_of (kept_entries entries) in
    parse-rebuilt plain r.bytes entries i some
    ∙ at-read (kept_entries entries) (canonical_entries 0 kept)
    (meaning_by (reading_of options.parse) kept) d
    (sym (parse-kept plain r.bytes entries i)
    ∙ read-plain (past_longest options.parse.longest (length r.bytes)) options.parse.limit
    options.parse r.bytes d e)

pub answer-stays : (options : RepairOptions) (bytes : List ℕ) (answer : Result Repaired ParserError)
    → AnswersBy repaired_view answer (repaired options bytes)
    → IfOk answer (λ r. KeepsBits options bytes (repaired_view r))
    → IfOk answer (λ r. StaysRepaired options (repaired_view r))
answer-stays options bytes (Ok r) a keeps = stays-repaired options bytes (repaired_view r)
    (subst AreBytes keeps.written.whole (all-bytes keeps.entries keeps.written.each)) a
answer-stays options bytes (Err e) a keeps = tt

pub answer-rebuilds : (options : RepairOptions) (answer : Result Repaired ParserError)
    → IfOk answer (λ r. RebuildsAlike options (repaired_view r))
answer-rebuilds options (Ok r) = rebuilds-alike options (repaired_view r)
answer-rebuilds options (Err e) = tt
