-- The kept items in their canonical bytes: what they itemise to, and that no other list of kept
-- items has them.
use Rattle.std.proofs.Common.{◌≡◌, ◌≢◌, ◌↔◌, ℕ, ◌+◌, Bool, true, false, cond, List, [], ◌∷◌, ◌++◌}
use Rattle.std.proofs.Common.{length, flat_map, Result, Ok, Err, refl, sym, ap, ◌∙◌, subst}
use Rattle.hidreport_items.specs.Answer.{GrammarFault}
use Rattle.hidreport_items.specs.Canonical.{IsCanonical}
use Rattle.hidreport_items.specs.Kept.{is_kept}
use Rattle.hidreport_items.specs.Spelling.{item_of, Spells}
use Rattle.hidreport_items.specs.Writing.{item_bytes}
use Rattle.hidreport_items.specs.declared.item.ItemType.{ItemType}
use Rattle.hidreport_items.proofs.CanonicalLemmas.{canonical}
use Rattle.hidreport_lists.specs.Answer.{Refusal, Refuses}
use Rattle.hidreport_lists.specs.Entry.{Entry}
use Rattle.hidreport_lists.specs.Itemising.{Reads, all_bytes, AreAtOffsets, AreRead, Itemises}
use Rattle.hidreport_lists.specs.Itemising.{itemise}
use Rattle.hidreport_lists.specs.Itemising.{as_refusal}
use Rattle.hidreport_lists.specs.Rebuilt.{AreCanonical, items_of, kept_entries, rebuild_answer}
use Rattle.hidreport_lists.specs.Rebuilt.{rebuilt_bytes}
use Rattle.hidreport_lists.specs.Rebuilt.{canonical_entries}
use Rattle.hidreport_lists.specs.declared.error.ParserError.{ParserError}
use Rattle.hidreport_lists.specs.declared.error.ParserError.TheVariants as parser
use Rattle.hidreport_lists.proofs.CutLemmas.{itemise-items}

spells : (bytes : List ℕ) (x : ItemType) → Reads item_of bytes x → Spells bytes x
spells [] x r = r
spells (h ∷ bs) x r = r

reads : (bytes : List ℕ) (x : ItemType) → Spells bytes x → Reads item_of bytes x
reads [] x s = s
reads (h ∷ bs) x s = s

spelled-some : (bytes : List ℕ) (x : ItemType) (rest : List ℕ) → Spells bytes x → bytes ++ rest ≡ []
    → ⊥
spelled-some [] x rest s e = s
spelled-some (h ∷ bs) x rest s e = cc

-- items that are kept, and that some bytes spell
abbrev pub AreKept : List ItemType → Type 0
AreKept [] = Unit {0}
AreKept (x ∷ xs) = (is_kept x ≡ true) × IsCanonical (item_bytes x) x × AreKept xs

kept-by : (b : Bool) (e : Entry) (es : List Entry) → is_kept e.item ≡ b → Spells e.bytes e.item
    → AreKept (items_of (kept_entries es))
    → AreKept (items_of (cond b (e ∷ kept_entries es) (kept_entries es)))
kept-by true e es is s rest = (is, canonical e.item e.bytes s is, rest)
kept-by false e es is s rest = rest

pub are_kept : (entries : List Entry) → AreRead item_of entries
    → AreKept (items_of (kept_entries entries))
are_kept [] each = tt
are_kept (e ∷ es) each = kept-by (is_kept e.item) e es refl (spells e.bytes e.item each.0)
    (are_kept es each.1)

pub respelled-canonical : (xs : List ItemType) (offset : ℕ) → AreKept xs
    → AreCanonical (canonical_entries offset xs)
respelled-canonical [] offset k = tt
respelled-canonical (x ∷ xs) offset k =
    (k.1, respelled-canonical xs (offset + length (item_bytes x)) k.2)

respelled-read : (xs : List ItemType) (offset : ℕ) → AreKept xs
    → AreRead item_of (canonical_entries offset xs)
respelled-read [] offset k = tt
respelled-read (x ∷ xs) offset k =
    (reads (item_bytes x) x k.1.spells, respelled-read xs (offset + length (item_bytes x)) k.2)

respelled-placed : (xs : List ItemType) (offset : ℕ)
    → AreAtOffsets offset (canonical_entries offset xs)
respelled-placed [] offset = tt
respelled-placed (x ∷ xs) offset = (refl, respelled-placed xs (offset + length (item_bytes x)))

pub respelled-joined : (xs : List ItemType) (offset : ℕ)
    → all_bytes (canonical_entries offset xs) ≡ flat_map item_bytes xs
respelled-joined [] offset = refl
respelled-joined (x ∷ xs) offset =
    ap (λ l. item_bytes x ++ l) (respelled-joined xs (offset + length (item_bytes x)))

-- the items are those that were written
pub respelled-items : (xs : List ItemType) (offset : ℕ)
    → items_of (canonical_entries offset xs) ≡ xs
respelled-items [] offset = refl
respelled-items (x ∷ xs) offset =
    ap (λ l. x ∷ l) (respelled-items xs (offset + length (item_bytes x)))

respelled-kept : (xs : List ItemType) (offset : ℕ) → AreKept xs
    → kept_entries (canonical_entries offset xs) ≡ canonical_entries offset xs
respelled-kept [] offset k = refl
respelled-kept (x ∷ xs) offset k =
    let e : Entry = record { offset = offset; bytes = item_bytes x; item = x } in
    let rest = canonical_entries (offset + length (item_bytes x)) xs in
    ap (λ b. cond b (e ∷ kept_entries rest) (kept_entries rest)) k.0
    ∙ ap (λ l. e ∷ l) (respelled-kept xs (offset + length (item_bytes x)) k.2)

-- the written bytes itemise to just these items
pub itemises-again : (xs : List ItemType) → AreKept xs → flat_map item_bytes xs ≢ []
    → Itemises item_of (flat_map item_bytes xs) (canonical_entries 0 xs)
itemises-again xs k some = record {
  some = some;
  whole = respelled-joined xs 0;
  each = respelled-read xs 0 k;
  offsets = respelled-placed xs 0;
}

none-written : (xs : List ItemType) → AreKept xs → flat_map item_bytes xs ≡ [] → xs ≡ []
none-written [] k e = refl
none-written (x ∷ xs) k e = absurd
    (spelled-some (item_bytes x) x (flat_map item_bytes xs) k.1.spells e)

abbrev found : List Entry → Result (List Entry) (ℕ × GrammarFault)
found entries = Ok entries

ok-same : (x y : List Entry) → found x ≡ found y → x ≡ y
ok-same x y e = cc

-- items that are written alike are the same
same-items : (xs ys : List ItemType) → AreKept xs → AreKept ys
    → flat_map item_bytes xs ≡ flat_map item_bytes ys → xs ≡ ys
same-items [] ys k l e = sym (none-written ys l (sym e))
same-items (x ∷ xs) ys k l e =
    let some : flat_map item_bytes (x ∷ xs) ≢ [] =
    λ none. spelled-some (item_bytes x) x (flat_map item_bytes xs) k.1.spells none in
    let some_too : flat_map item_bytes ys ≢ [] = λ none. some (e ∙ none) in
    let a = itemise-items item_of (flat_map item_bytes (x ∷ xs)) (canonical_entries 0 (x ∷ xs))
    (itemises-again (x ∷ xs) k some) in
    let b = itemise-items item_of (flat_map item_bytes ys) (canonical_entries 0 ys)
    (itemises-again ys l some_too) in
    let both : canonical_entries 0 (x ∷ xs) ≡ canonical_entries 0 ys =
    ok-same (canonical_entries 0 (x ∷ xs)) (canonical_entries 0 ys)
    (sym a ∙ ap (itemise item_of) e ∙ b) in
    sym (respelled-items (x ∷ xs) 0) ∙ ap items_of both ∙ respelled-items ys 0

-- two descriptors are written alike where they keep the same items
pub rebuilt-alike : (bytes other : List ℕ) (entries others : List Entry)
    → Itemises item_of bytes entries → Itemises item_of other others
    → (rebuilt_bytes entries ≡ rebuilt_bytes others)
    ↔ (items_of (kept_entries entries) ≡ items_of (kept_entries others))
rebuilt-alike bytes other entries others i j = (
  same-items (items_of (kept_entries entries)) (items_of (kept_entries others))
      (are_kept entries i.each)
      (are_kept others j.each),
  ap (flat_map item_bytes),
)

-- what is rebuilt is rebuilt as itself
pub rebuilt-itself : (xs : List ItemType) → AreKept xs → flat_map item_bytes xs ≢ []
    → rebuild_answer (itemise item_of (flat_map item_bytes xs)) ≡ Ok (flat_map item_bytes xs)
rebuilt-itself xs k some =
    ap rebuild_answer (itemise-items item_of (flat_map item_bytes xs) (canonical_entries 0 xs)
    (itemises-again xs k some))
    ∙ ap (λ l. Ok (flat_map item_bytes (items_of l))) (respelled-kept xs 0 k)
    ∙ ap (λ l. Ok (flat_map item_bytes l)) (respelled-items xs 0)

-- bytes itemise in one way
one_way : (bytes : List ℕ) (entries others : List Entry) → Itemises item_of bytes entries
    → Itemises item_of bytes others → entries ≡ others
one_way bytes entries others i j =
    let e = sym (itemise-items item_of bytes entries i)
    ∙ itemise-items item_of bytes others j in ok-same entries others e

pub written-canonical : (bytes out : List ℕ) (all entries : List Entry) → Itemises item_of bytes all
    → out ≡ rebuilt_bytes all → Itemises item_of bytes entries
    → (all_bytes (canonical_entries 0 (items_of (kept_entries entries))) ≡ out) × AreCanonical
    (canonical_entries 0 (items_of (kept_entries entries)))
written-canonical bytes out all entries i e j =
    let xs = items_of (kept_entries entries) in (
      respelled-joined xs 0 ∙ ap rebuilt_bytes (one_way bytes entries all j i)
          ∙ sym e,
      respelled-canonical xs 0 (are_kept entries j.each),
    )

pub written-again : (bytes out : List ℕ) (all entries : List Entry) → Itemises item_of bytes all
    → out ≡ rebuilt_bytes all → Itemises item_of bytes entries
    → out ≢ [] → Itemises item_of out (canonical_entries 0 (items_of (kept_entries entries)))
written-again bytes out all entries i e j some =
    let xs = items_of (kept_entries entries) in
    let is : out ≡ flat_map item_bytes xs = e ∙ ap rebuilt_bytes (one_way bytes all entries i j) in
    subst (λ l. Itemises item_of l (canonical_entries 0 xs)) (sym is)
    (itemises-again xs (are_kept entries j.each) (λ none. some (is ∙ none)))

pub written-itself : (bytes out : List ℕ) (all : List Entry) → Itemises item_of bytes all
    → out ≡ rebuilt_bytes all → out ≢ [] → rebuild_answer (itemise item_of out) ≡ Ok out
written-itself bytes out all i e some =
    subst (λ l. rebuild_answer (itemise item_of l) ≡ Ok l) (sym e)
    (rebuilt-itself (items_of (kept_entries all)) (are_kept all i.each) (λ none. some (e ∙ none)))

abbrev refused : (A : Type 0) → Refusal → Result A Refusal
refused A r = Err r

err-same : (x y : Refusal) → refused (List Entry) x ≡ refused (List Entry) y
    → refused (List ℕ) x ≡ refused (List ℕ) y
err-same x y e = let s : x ≡ y = cc in ap Err s

-- a refusal of the items is one of rebuilding them
pub refuses-rebuilding : (e : ParserError) (r : Result (List Entry) (ℕ × GrammarFault))
    → Refuses e (as_refusal r) → Refuses e (as_refusal (rebuild_answer r))
refuses-rebuilding (parser.InvalidData offset message) (Ok entries) f = cc
refuses-rebuilding (parser.InvalidData offset message) (Err fault) f = err-same _ _ f
refuses-rebuilding parser.OutOfBounds (Ok entries) f = cc
refuses-rebuilding parser.OutOfBounds (Err fault) f = cc
refuses-rebuilding parser.MismatchingReportId (Ok entries) f = cc
refuses-rebuilding parser.MismatchingReportId (Err fault) f = cc
refuses-rebuilding parser.OutOfMemory r f = tt
refuses-rebuilding (parser.BudgetExceeded offset) (Ok entries) f = cc
refuses-rebuilding (parser.BudgetExceeded offset) (Err fault) f = cc
