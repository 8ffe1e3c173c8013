-- What the laws of parsing come to for a caller who reads two descriptors.
use Rattle.std.proofs.Common.{◌≡◌, ◌≢◌, ℕ, zero, suc, ◌+◌, ◌<◌, ◌≤◌, List, [], ◌∷◌, ◌++◌}
use Rattle.std.proofs.Common.{length, Option, None, Some, Result, Ok, Err, IfOk, sym, ap, ◌∙◌, subst, arith}
use Rattle.std.specs.Prelude.{slice_get}
use Rattle.hidreport.specs.Answer.{Refusal}
use Rattle.hidreport.specs.Budget.{parse_items_within}
use Rattle.hidreport.specs.Entry.{Entry}
use Rattle.hidreport.specs.ItemAnswer.{GrammarFault}
use Rattle.hidreport.specs.Itemising.{as_refusal, itemise}
use Rattle.hidreport.specs.Laws.{KeptItemsMean, RebuiltBytesMean, SegmentsAreIdle}
use Rattle.hidreport.specs.Laws.{parse_any}
use Rattle.hidreport.specs.Meaning.{InForce, at_offset, parse_items}
use Rattle.hidreport.specs.MeaningFault.{MeaningFault}
use Rattle.hidreport.specs.Options.{meaning_as, meaning_limited, parse_limited, reading_of, unless_too_long}
use Rattle.hidreport.specs.Rebuilt.{canonical_entries, items_of, kept_entries, rebuild_answer}
use Rattle.hidreport.specs.Rebuilt.{rebuilt_bytes}
use Rattle.hidreport.specs.Records.{DescriptorRecord, FieldRecord, place_of}
use Rattle.hidreport.specs.Segments.{moved_fault}
use Rattle.hidreport.specs.Spelling.{item_of}
use Rattle.hidreport.specs.ParserError.{ParserError}
use Rattle.hidreport.specs.declared.parse_options.ParseOptions.{ParseOptions}
use Rattle.hidreport.specs.Places.{id_bits}
use Rattle.hidreport.specs.Tiling.{Covers, Each, IsFilled, IsTiled}
use Rattle.hidreport_example.specs.Laws.{FieldsAreApart, IsRebuilt, LacksSegment}

-- the rebuilt bytes are those of the items
pub rebuilt-of : (r : Result (List Entry) (ℕ × GrammarFault)) (entries : List Entry)
    (bytes : List ℕ) → as_refusal r ≡ Ok entries → as_refusal (rebuild_answer r) ≡ Ok bytes
    → rebuilt_bytes entries ≡ bytes
rebuilt-of (Ok es) entries bytes p q =
    let same : es ≡ entries = cc in
    let written : rebuilt_bytes es ≡ bytes = cc in
    sym (ap rebuilt_bytes same) ∙ written
rebuilt-of (Err f) entries bytes p q = cc

-- items that mean a descriptor mean it wherever they stand
pub means : (m : Result DescriptorRecord (ℕ × MeaningFault)) (es fs : List Entry)
    (d : DescriptorRecord) → at_offset es m ≡ Ok d → at_offset fs m ≡ Ok d
means (Ok x) es fs d h = h
means (Err f) es fs d h = cc

pub means-moved : (m : Result DescriptorRecord (ℕ × MeaningFault)) (k n : ℕ) (es fs : List Entry)
    (d : DescriptorRecord) → at_offset es (moved_fault k n m) ≡ Ok d → at_offset fs m ≡ Ok d
means-moved (Ok x) k n es fs d h = h
means-moved (Err f) k n es fs d h = cc

-- one answer
pub one : (r : Result DescriptorRecord Refusal) (d e : DescriptorRecord) → r ≡ Ok d → r ≡ Ok e
    → d ≡ e
one r d e p q = let same : Ok d ≡ r = sym p in cc

-- what is announced is so of as many bytes as there are
pub of-any-length : (past : Option ℕ) (r : Result DescriptorRecord Refusal) (d : DescriptorRecord)
    → unless_too_long past r ≡ Ok d → r ≡ Ok d
of-any-length None r d h = h
of-any-length (Some longest) r d h = cc

-- bytes that are items mean what these do
parse-items : (reading : InForce) (limit : Option ℕ) (bytes : List ℕ) (entries : List Entry)
    (d : DescriptorRecord) → itemise item_of bytes ≡ Ok entries
    → parse_limited reading limit bytes ≡ Ok d
    → at_offset entries (meaning_limited reading limit (items_of entries)) ≡ Ok d
parse-items reading None [] entries d i p = cc
parse-items reading None (b ∷ bs) entries d i p = sym (ap (parse_items reading) i) ∙ p
parse-items reading (Some limit) [] entries d i p = cc
parse-items reading (Some limit) (b ∷ bs) entries d i p =
    sym (ap (parse_items_within reading limit) i) ∙ p

-- by any options, what is read of the rebuilt bytes is what was read of the bytes
pub read-again : (options : ParseOptions) (bytes written : List ℕ) (first again : DescriptorRecord)
    → KeptItemsMean options bytes → RebuiltBytesMean options bytes → IsRebuilt bytes written
    → length written ≢ 0 → parse_any options bytes ≡ Ok first
    → parse_any options written ≡ Ok again → first ≡ again
read-again options bytes written first again by_kept by_rebuilt rebuilt long p q =
    let entries = rebuilt.entries in
    let kept = kept_entries entries in
    let some : rebuilt_bytes entries ≢ [] = λ e. long (ap length (sym rebuilt.same ∙ e)) in
    let moved = means (meaning_as options (items_of kept)) kept
    (canonical_entries 0 (items_of kept)) first (sym (by_kept entries rebuilt.items) ∙ p) in
    one (parse_any options (rebuilt_bytes entries)) first again
    (by_rebuilt entries rebuilt.items some ∙ moved) (ap (parse_any options) rebuilt.same ∙ q)

-- by any options, what is read without a segment is what was read with it
pub without-segment : (options : ParseOptions) (bytes without : List ℕ)
    (first second : DescriptorRecord) → SegmentsAreIdle options bytes
    → LacksSegment options.push_keeps bytes without → parse_any options bytes ≡ Ok first
    → parse_any options without ≡ Ok second → first ≡ second
without-segment options bytes without first second idle lacks p q =
    let others = lacks.others in
    let meant = meaning_as options (lacks.front ++ lacks.rest) in
    let moved = means-moved meant (length lacks.front) (length lacks.inside + 2) lacks.entries others
    first (sym (idle lacks.entries lacks.front lacks.inside lacks.rest lacks.items lacks.matched
    lacks.spared lacks.whole) ∙ p) in
    let read = parse-items (reading_of options) options.limit without others second lacks.other_items
    q in
    one (at_offset others meant) first second moved
    (sym (ap (λ xs. at_offset others (meaning_as options xs)) lacks.lacking) ∙ read)

-- each of a list
pub each-at : {A : Type 0} (P : A → Type 0) (xs ys : List A) (n : ℕ) (x : A) → Each P (xs ++ ys)
    → slice_get xs n ≡ Some x → P x
each-at P [] ys n x each at = cc
each-at P (a ∷ xs) ys zero x each at = let same : a ≡ x = cc in subst P same each.0
each-at P (a ∷ xs) ys (suc n) x each at = each-at P xs ys n x each.1 at

-- fields that cover a report lie one behind the other
behind : (first : ℕ) (fields : List FieldRecord) (end j : ℕ) (g : FieldRecord)
    → Covers first fields end → slice_get fields j ≡ Some g → first ≤ (place_of g).first
behind first [] end j g covers at = cc
behind first (f ∷ fields) end zero g covers at =
    let same : f ≡ g = cc in
    let here : (place_of f).first ≡ (place_of g).first = ap (λ h. (place_of h).first) same in
    omega (arith, covers.0, here)
behind first (f ∷ fields) end (suc j) g covers at =
    let rest : (place_of f).end ≤ (place_of g).first = behind (place_of f).end fields end j g
    covers.2 at in
    omega (arith, covers.1, rest)

pub apart : (first : ℕ) (fields : List FieldRecord) (end i j : ℕ) (f g : FieldRecord)
    → Covers first fields end → slice_get fields i ≡ Some f → slice_get fields j ≡ Some g → i < j
    → (place_of f).end ≤ (place_of g).first
apart first [] end i j f g covers at other before = cc
apart first (h ∷ fields) end i zero f g covers at other before = absurd (omega (arith, before))
apart first (h ∷ fields) end zero (suc j) f g covers at other before =
    let same : h ≡ f = cc in
    subst (λ (k : FieldRecord). (place_of k).end ≤ (place_of g).first) same
    (behind (place_of h).end fields end j g covers.2 other)
apart first (h ∷ fields) end (suc i) (suc j) f g covers at other before =
    apart (place_of h).end fields end i j f g covers.2 at other (omega (arith, before))

pub all-apart : (r : Result DescriptorRecord ParserError) → IfOk r IsTiled → IfOk r FieldsAreApart
all-apart (Ok d) tiled = λ n i j report f g at one other before.
    let filled : IsFilled report = each-at IsFilled d.input (d.output ++ d.feature) n report
    tiled.filled at in
    apart (id_bits report.id) report.fields report.size i j f g filled.covers one other before
all-apart (Err e) tiled = tt
