-- Bytes as a list of items, whatever reads them: what is cut is an itemising, there is no other,
-- and else there is one fault.
use Rattle.std.proofs.Common.{◌≡◌, ◌≢◌, ℕ, zero, suc, ◌+◌, ◌<◌, ◌≤◌, ◌⊎◌, inl, inr, List, [], ◌∷◌}
use Rattle.std.proofs.Common.{◌++◌, length, get_or, take, drop, min, Result, Ok, Err, IfOk, IfErr}
use Rattle.std.proofs.Common.{string_bytes, refl, sym, ap, ◌∙◌, subst, arith, nat_lt, length-take}
use Rattle.std.proofs.Common.{length-drop, length-append, append_assoc, append-nil}
use Rattle.std.proofs.lemmas.List.{take-append-drop, take_min}
use Rattle.std.proofs.lemmas.Grind.{get_or_default_zero}
use Rattle.std.proofs.lemmas.List.Elements.{All-take, All-drop}
use Rattle.std.proofs.Math.Seq.{take-append_seam, drop-append_seam}
use Rattle.hidreport_items.specs.Answer.{GrammarFault, Insufficient}
use Rattle.hidreport_items.specs.Spelling.{following_length, AreBytes}
use Rattle.hidreport_items.proofs.FollowingLemmas.{following-cut, following-more, following-within}
use Rattle.hidreport_items.specs.declared.item.ItemType.{ItemType}
use Rattle.hidreport_lists.specs.Answer.{InvalidData, OutOfBounds, MismatchingReportId, BudgetExceeded, Answers}
use Rattle.hidreport_lists.specs.Entry.{Entry}
use Rattle.hidreport_lists.specs.Itemising.{Reader, Reads, all_bytes, AreAtOffsets, AreRead}
use Rattle.hidreport_lists.specs.Itemising.{Itemises}
use Rattle.hidreport_lists.specs.Itemising.{IsFaultAt, IsGrammarFault, item_at, with_entry}
use Rattle.hidreport_lists.specs.Itemising.{items_from, itemise, as_refusal}
use Rattle.hidreport_lists.specs.Messages.{grammar_message}
use Rattle.hidreport_lists.specs.declared.error.ParserError.{ParserError}
use Rattle.hidreport_lists.specs.declared.error.ParserError.TheVariants as parser
use Rattle.hidreport_lists.proofs.ItemLemmas.{items_from-inside, item_at-enough, chosen_ok, enough}
use Rattle.hidreport_lists.proofs.ItemLemmas.{with_front, itemise-some}

-- a header and its data, before other bytes, are the first item
step-header : (read : Reader) (offset h : ℕ) (bs : List ℕ) (x : ItemType) (rest : List ℕ)
    → length bs ≡ following_length h bs → read h bs ≡ Ok x
    → items_from read offset 0 (h ∷ (bs ++ rest)) ≡ with_entry offset (h ∷ bs) (Ok x)
    (items_from read (offset + length (h ∷ bs)) 0 rest)
step-header read offset h bs x rest size is =
    let whole = bs ++ rest in
    let n = following_length h whole in
    let sized : length bs ≡ n = size
    ∙ sym (following-more h bs rest
    (let le : following_length h bs ≤ length bs = omega (arith, size) in le)) in
    let same : take n whole ≡ bs =
    subst (λ k. take k whole ≡ bs) sized (take-append_seam bs rest) in
    let behind : drop n whole ≡ rest =
    subst (λ k. drop k whole ≡ rest) sized (drop-append_seam bs rest) in
    let room : n ≤ length whole = simp length-append (omega (arith, sized)) in
    let first : item_at read h whole ≡ Ok x = item_at-enough read h whole room ∙ ap (read h) same
    ∙ is in
    let later : items_from read (offset + 1) n whole ≡ items_from read (offset + length (h ∷ bs)) 0
    rest =
    items_from-inside read (offset + 1) n whole room
    ∙ ap (λ k. items_from read k 0 (drop n whole))
    (let e : offset + 1 + n ≡ offset + length (h ∷ bs) = omega (arith, sized) in e)
    ∙ ap (items_from read (offset + length (h ∷ bs)) 0) behind in
    ap (λ l. with_entry offset (h ∷ l) (item_at read h whole)
    (items_from read (offset + 1) n whole)) same
    ∙ ap (λ r. with_entry offset (h ∷ bs) r (items_from read (offset + 1) n whole)) first
    ∙ ap (with_entry offset (h ∷ bs) (Ok x)) later

-- bytes that are read as an item, before other bytes, are the first item
pub step : (read : Reader) (offset : ℕ) (bytes : List ℕ) (x : ItemType) (rest : List ℕ)
    → Reads read bytes x
    → items_from read offset 0 (bytes ++ rest) ≡ with_entry offset bytes (Ok x)
    (items_from read (offset + length bytes) 0 rest)
step read offset [] x rest r = absurd r
step read offset (h ∷ bs) x rest r = step-header read offset h bs x rest r.1 r.2

-- items in place are what is cut
cut-all : (read : Reader) (entries : List Entry) (offset : ℕ) → AreRead read entries
    → AreAtOffsets offset entries → items_from read offset 0 (all_bytes entries) ≡ Ok entries
cut-all read [] offset each offsets = refl
cut-all read (e ∷ es) offset each places =
    step read offset e.bytes e.item (all_bytes es) each.0
    ∙ ap (with_entry offset e.bytes (Ok e.item))
    (cut-all read es (offset + length e.bytes) each.1 places.1)
    ∙ ap (λ n. Ok (record { offset = n; bytes = e.bytes; item = e.item } ∷ es)) (sym places.0)

-- what stands behind items and can't be read is the fault
stop-all : (read : Reader) (entries : List Entry) (offset header : ℕ) (after : List ℕ)
    (fault : GrammarFault) → AreRead read entries → item_at read header after ≡ Err fault
    → items_from read offset 0 (all_bytes entries ++ header ∷ after) ≡ Err
    (offset + length (all_bytes entries), fault)
stop-all read [] offset header after fault each why =
    ap (λ (r : Result ItemType GrammarFault). with_entry offset
    (header ∷ take (following_length header after) after) r
    (items_from read (offset + 1) (following_length header after) after)) why
    ∙ ap (λ n. Err (n, fault)) (let e : offset ≡ offset + 0 = omega arith in e)
stop-all read (e ∷ es) offset header after fault each why =
    ap (items_from read offset 0) (append_assoc e.bytes (all_bytes es) (header ∷ after))
    ∙ step read offset e.bytes e.item (all_bytes es ++ header ∷ after) each.0
    ∙ ap (with_entry offset e.bytes (Ok e.item))
    (stop-all read es (offset + length e.bytes) header after fault each.1 why)
    ∙ ap (λ n. Err (n, fault))
    (let e2 : offset + length e.bytes + length (all_bytes es)
    ≡ offset + length (e.bytes ++ all_bytes es) = simp length-append (omega arith) in e2)

-- an itemising is the one that is computed
pub itemise-items : (read : Reader) (bytes : List ℕ) (entries : List Entry)
    → Itemises read bytes entries → itemise read bytes ≡ Ok entries
itemise-items read bytes entries i =
    itemise-some read bytes i.some ∙ ap (items_from read 0 0) (sym i.whole)
    ∙ cut-all read entries 0 i.each i.offsets

not_nil : (front : List ℕ) (h : ℕ) (after bytes : List ℕ) → front ++ h ∷ after ≡ bytes → bytes ≢ []
not_nil [] h after bytes e none = let bad : h ∷ after ≡ [] = e ∙ none in cc
not_nil (b ∷ front) h after bytes e none = let bad : b ∷ (front ++ h ∷ after) ≡ [] = e ∙ none in cc

-- a fault is the one that is computed
pub itemise-fault : (read : Reader) (bytes : List ℕ) (offset : ℕ) (fault : GrammarFault)
    → IsFaultAt read bytes offset fault → itemise read bytes ≡ Err (offset, fault)
itemise-fault read bytes offset fault f =
    itemise-some read bytes (not_nil (all_bytes f.entries) f.header f.after bytes f.whole)
    ∙ ap (items_from read 0 0) (sym f.whole)
    ∙ stop-all read f.entries 0 f.header f.after fault f.each f.why
    ∙ ap (λ n. Err (n, fault))
    (let e : 0 + length (all_bytes f.entries) ≡ offset = omega (arith, f.starts) in e)

-- the bytes are items, the first at an offset
record Cut (read : Reader) (offset : ℕ) (bytes : List ℕ) : Type 0 where
  entries : List Entry
  whole : all_bytes entries ≡ bytes
  each : AreRead read entries
  offsets : AreAtOffsets offset entries

-- items, and then bytes of which no beginning is one
record Stops (read : Reader) (bytes : List ℕ) : Type 0 where
  offset : ℕ
  fault : GrammarFault
  is : IsFaultAt read bytes offset fault

-- a beginning that is read as an item has all that follows its header
none-read : (read : Reader) (h : ℕ) (bs : List ℕ) (fault : GrammarFault)
    → item_at read h bs ≡ Err fault
    → (n : ℕ) (x : ItemType) → Reads read (take n (h ∷ bs)) x → ⊥
none-read read h bs fault why zero x r = r
none-read read h bs fault why (suc n) x r =
    let size : min n (length bs) ≡ following_length h bs = sym (length-take n bs) ∙ r.1
    ∙ following-within h n bs r.1 in
    let room : following_length h bs ≤ length bs = omega (arith, size) in
    let same : take (following_length h bs) bs ≡ take n bs = ap (λ k. take k bs) (sym size)
    ∙ take_min n bs in
    let is : item_at read h bs ≡ Ok x = item_at-enough read h bs room ∙ ap (read h) same ∙ r.2 in
    let bad : Err fault ≡ Ok x = sym why ∙ is in
    cc

-- what is read at a header is an item, before the rest
cut-first : (read : Reader) (h : ℕ) (bs : List ℕ) (x : ItemType) → AreBytes (h ∷ bs)
    → item_at read h bs ≡ Ok x → Reads read (h ∷ take (following_length h bs) bs) x
cut-first read h bs x bytes is =
    let n = following_length h bs in
    let got = chosen_ok (nat_lt (length bs) n) Insufficient (read h (take n bs)) x is in
    let room : n ≤ length bs = enough (length bs) n got.0 in
    let size : length (take n bs) ≡ n = simp length-take (omega (arith, room)) in
    let le : following_length h bs ≤ n = omega arith in
    (All-take (λ b. b < 256) (suc n) (h ∷ bs) bytes, size ∙ sym (following-cut h n bs le), got.1)

-- one more item in front
more-cut : (read : Reader) (offset : ℕ) (front : List ℕ) (x : ItemType) (rest : List ℕ)
    → Reads read front x → Cut read (offset + length front) rest → Cut read offset (front ++ rest)
more-cut read offset front x rest r c = record {
  entries = record { offset = offset; bytes = front; item = x } ∷ c.entries;
  whole = ap (λ l. front ++ l) c.whole;
  each = (r, c.each);
  offsets = (refl, c.offsets);
}

more-stops : (read : Reader) (offset : ℕ) (front : List ℕ) (x : ItemType) (rest : List ℕ)
    → Reads read front x → Stops read rest → Stops read (front ++ rest)
more-stops read offset front x rest r s = record {
  offset = length front + s.offset;
  fault = s.fault;
  is = record {
    entries = record { offset = offset; bytes = front; item = x } ∷ s.is.entries;
    header = s.is.header;
    after = s.is.after;
    whole = append_assoc front (all_bytes s.is.entries) (s.is.header ∷ s.is.after)
        ∙ ap (λ l. front ++ l) s.is.whole;
    each = (r, s.is.each);
    starts = length-append front (all_bytes s.is.entries) ∙ ap (λ n. length front + n) s.is.starts;
    none = s.is.none;
    why = s.is.why;
  };
}

Ends : Reader → ℕ → List ℕ → Type 0
Ends read offset bytes = Cut read offset bytes ⊎ Stops read bytes

-- by what the first item is
ends-item : (read : Reader) (offset h : ℕ) (bs : List ℕ) → AreBytes (h ∷ bs)
    → ((at : ℕ) → Cut read at (drop (following_length h bs) bs)
    ⊎ Stops read (drop (following_length h bs) bs))
    → (r : Result ItemType GrammarFault) → item_at read h bs ≡ r → Cut read offset (h ∷ bs)
    ⊎ Stops read (h ∷ bs)
ends-item read offset h bs bytes rest (Err fault) e = inr (record {
  offset = 0;
  fault = fault;
  is = record {
    entries = [];
    header = h;
    after = bs;
    whole = refl;
    each = tt;
    starts = refl;
    none = none-read read h bs fault e;
    why = e;
  };
})
ends-item read offset h bs bytes rest (Ok x) e =
    let front : List ℕ = h ∷ take (following_length h bs) bs in
    let whole : front ++ drop (following_length h bs) bs ≡ h ∷ bs =
    ap (λ l. h ∷ l) (take-append-drop (following_length h bs) bs) in
    let first : Reads read front x = cut-first read h bs x bytes e in
    elim (rest (offset + length front)) [
      | inl c ↦ inl (subst (Cut read offset) whole
          (more-cut read offset front x (drop (following_length h bs) bs) first c))
      | inr s ↦ inr (subst (Stops read) whole
          (more-stops read offset front x (drop (following_length h bs) bs) first s))
    ]

-- bytes are items to their end, or items up to a fault
ends : (read : Reader) (n offset : ℕ) (bytes : List ℕ) → length bytes ≤ n → AreBytes bytes
    → Cut read offset bytes ⊎ Stops read bytes
ends read n offset [] le bytes = inl
    (record { entries = []; whole = refl; each = tt; offsets = tt })
ends read zero offset (h ∷ bs) le bytes = absurd (omega arith)
ends read (suc n) offset (h ∷ bs) le bytes =
    let short : length (drop (following_length h bs) bs) ≤ n = simp length-drop (omega arith) in
    ends-item read offset h bs bytes
    (λ at. ends read n at (drop (following_length h bs) bs) short
    (All-drop (λ b. b < 256) (suc (following_length h bs)) (h ∷ bs) bytes)) (item_at read h bs) refl

-- bytes, of which there are some, are items or have a fault
pub items_or_fault : (read : Reader) (bytes : List ℕ) → AreBytes bytes → bytes ≢ []
    → ((entries : List Entry) × Itemises read bytes entries)
    ⊎ ((offset : ℕ) × (fault : GrammarFault) × IsFaultAt read bytes offset fault)
items_or_fault read bytes are some =
    elim (ends read (length bytes) 0 bytes (omega arith) are) [
      | inl c ↦ inl (
        c.entries,
        record
            { some = some; whole = c.whole; each = c.each; offsets = c.offsets },
      )
      | inr s ↦ inr (s.offset, s.fault, s.is)
    ]

ok_err : {A E : Type 0} (x : A) (e : E) → Ok x ≡ Err e → ⊥
ok_err x e h = cc

err_same : {A E : Type 0} (r : Result A E) (x y : E) → r ≡ Err x → r ≡ Err y → x ≡ y
err_same r x y e f = cc

-- the answer names one fault
one-fault : (read : Reader) (bytes : List ℕ) (a b : ℕ) (x y : GrammarFault)
    (r : Result (List Entry) (ℕ × GrammarFault)) → r ≡ Err (a, x) → r ≡ Err (b, y)
    → IsFaultAt read bytes a x → IsFaultAt read bytes b y
one-fault read bytes a b x y r e f at =
    subst (λ (p : ℕ × GrammarFault). IsFaultAt read bytes p.0 p.1) (err_same r (a, x) (b, y) e f) at

-- what is computed is an itemising
pub itemise-ok : (read : Reader) (bytes : List ℕ) (entries : List Entry) → AreBytes bytes
    → bytes ≢ [] → itemise read bytes ≡ Ok entries → Itemises read bytes entries
itemise-ok read bytes entries are some e =
    elim (items_or_fault read bytes are some) [
      | inl i ↦ let same : Ok i.0 ≡ Ok entries = sym (itemise-items read bytes i.0 i.1) ∙ e in subst
          (Itemises read bytes) (let s : i.0 ≡ entries = cc in s) i.1
      | inr f ↦ absurd (ok_err entries (f.0, f.1) (sym e ∙ itemise-fault read bytes f.0 f.1 f.2))
    ]

-- what is computed is a fault
pub itemise-err : (read : Reader) (bytes : List ℕ) (offset : ℕ) (fault : GrammarFault)
    → AreBytes bytes
    → bytes ≢ [] → itemise read bytes ≡ Err (offset, fault) → IsFaultAt read bytes offset fault
itemise-err read bytes offset fault are some e =
    elim (items_or_fault read bytes are some) [
      | inl i ↦ absurd (ok_err i.0 (offset, fault) (sym (itemise-items read bytes i.0 i.1) ∙ e))
      | inr f ↦ one-fault read bytes f.0 offset f.1 fault (itemise read bytes)
          (itemise-fault read bytes f.0 f.1 f.2) e f.2
    ]

-- bytes as a slice has them
pub are_bytes : (bytes : List ℕ) → ((i : ℕ) → get_or bytes i 0 < 256) → AreBytes bytes
are_bytes bytes each k d lt = rw (get_or_default_zero bytes k d lt) (each k)

-- what holds of an answer, beside that it is the one computed

refusal-ok : {A : Type 0} (r : Result A (ℕ × GrammarFault)) (x : A) → as_refusal r ≡ Ok x → r ≡ Ok x
refusal-ok (Ok y) x e = cc
refusal-ok (Err f) x e = cc

refusal-err : {A : Type 0} (r : Result A (ℕ × GrammarFault)) (offset : ℕ) (message : List ℕ)
    → as_refusal r ≡ Err (InvalidData offset message)
    → (fault : GrammarFault) × (r ≡ Err (offset, fault)) × (message ≡ grammar_message fault)
refusal-err (Ok y) offset message e = cc
refusal-err (Err f) offset message e =
    (f.1, ap (λ n. Err (n, f.1)) (let s : f.0 ≡ offset = cc in s), (cc))

not_bounds : {A : Type 0} (r : Result A (ℕ × GrammarFault)) → as_refusal r ≡ Err OutOfBounds → ⊥
not_bounds (Ok x) e = cc
not_bounds (Err f) e = cc

not_mismatch : {A : Type 0} (r : Result A (ℕ × GrammarFault)) → as_refusal r ≡ Err MismatchingReportId → ⊥
not_mismatch (Ok x) e = cc
not_mismatch (Err f) e = cc

not_over_budget : {A : Type 0} (r : Result A (ℕ × GrammarFault)) (offset : ℕ)
    → as_refusal r ≡ Err (BudgetExceeded offset) → ⊥
not_over_budget (Ok x) offset e = cc
not_over_budget (Err f) offset e = cc

not_empty-ok : (read : Reader) (bytes : List ℕ) (entries : List Entry)
    → itemise read bytes ≡ Ok entries → bytes ≢ []
not_empty-ok read [] entries e none = let s : ⊥ = cc in s
not_empty-ok read (b ∷ bs) entries e none = let s : ⊥ = cc in s

-- where nothing is left, the items so far are the answer
pub answer-done : (read : Reader) (bytes rest : List ℕ) (items : List Entry) (offset : ℕ)
    → bytes ≢ [] → length rest ≡ 0
    → with_front items (items_from read offset 0 rest) ≡ items_from read 0 0 bytes
    → as_refusal (itemise read bytes) ≡ Ok items
answer-done read bytes [] items offset some none same =
    ap as_refusal (itemise-some read bytes some ∙ sym same) ∙ ap Ok (append-nil items)
answer-done read bytes (b ∷ rest) items offset some none same = absurd (omega arith)

pub answer-items : (read : Reader) (bytes : List ℕ) (answer : Result (List Entry) ParserError)
    → AreBytes bytes
    → Answers answer (as_refusal (itemise read bytes))
    → IfOk answer (λ entries. Itemises read bytes entries)
answer-items read bytes (Ok entries) are exact =
    let e = refusal-ok (itemise read bytes) entries exact in
    itemise-ok read bytes entries are (not_empty-ok read bytes entries e) e
answer-items read bytes (Err error) are exact = tt

pub answer-only : (read : Reader) (bytes : List ℕ) (answer : Result (List Entry) ParserError)
    → Answers answer (as_refusal (itemise read bytes)) → (entries : List Entry)
    → Itemises read bytes entries → Answers answer (Ok entries)
answer-only read bytes answer exact entries i =
    subst (λ (r : Result (List Entry) (ℕ × GrammarFault)). Answers answer (as_refusal r))
    (itemise-items read bytes entries i) exact

pub answer-fault : (read : Reader) (bytes : List ℕ) (answer : Result (List Entry) ParserError)
    → AreBytes bytes
    → Answers answer (as_refusal (itemise read bytes)) → bytes ≢ []
    → IfErr answer (λ error. IsGrammarFault read bytes error)
answer-fault read bytes (Ok entries) are exact some = tt
answer-fault read bytes (Err (parser.InvalidData offset message)) are exact some =
    let e = refusal-err (itemise read bytes) offset (string_bytes message) exact in
    (e.0, itemise-err read bytes offset e.0 are some e.1, e.2)
answer-fault read bytes (Err parser.OutOfBounds) are exact some =
    not_bounds (itemise read bytes) exact
answer-fault read bytes (Err parser.MismatchingReportId) are exact some =
    not_mismatch (itemise read bytes) exact
answer-fault read bytes (Err parser.OutOfMemory) are exact some = tt
answer-fault read bytes (Err (parser.BudgetExceeded offset)) are exact some =
    not_over_budget (itemise read bytes) offset exact

pub answer-only_fault : (read : Reader) (bytes : List ℕ) (answer : Result (List Entry) ParserError)
    → Answers answer (as_refusal (itemise read bytes)) → (offset : ℕ) (fault : GrammarFault)
    → IsFaultAt read bytes offset fault
    → Answers answer (Err (InvalidData offset (grammar_message fault)))
answer-only_fault read bytes answer exact offset fault f =
    subst (λ (r : Result (List Entry) (ℕ × GrammarFault)). Answers answer (as_refusal r))
    (itemise-fault read bytes offset fault f) exact
