-- One item at a time: the items of the rest behind those that were cut off before.
use Rattle.std.proofs.Common.{◌≡◌, ◌≢◌, ℕ, zero, suc, ◌+◌, ◌<◌, ◌≤◌, Bool, true, false, cond, List}
use Rattle.std.proofs.Common.{[], ◌∷◌, ◌++◌, length, take, drop, Result, Ok, Err, None, IfSome}
use Rattle.std.proofs.Common.{string_bytes, refl, sym, ap, ◌∙◌, subst, arith, nat_lt, length-take}
use Rattle.std.proofs.Common.{append_assoc}
use Rattle.std.proofs.Math.Seq.{take-length}
use Rattle.std.proofs.lemmas.Bool.{cond-false}
use Rattle.std.proofs.lemmas.Grind.{common_steps}
use Rattle.hidreport_items.specs.Answer.{GrammarFault, Invalid, Insufficient, Fails}
use Rattle.hidreport_items.specs.Messages.{long_message}
use Rattle.hidreport_items.proofs.FollowingLemmas.{short-follow}
use Rattle.hidreport_items.proofs.WrittenLemmas.{IsRead, NoneOrAnItem, written-read}
use Rattle.hidreport_items.specs.declared.error.HidError.{HidError}
use Rattle.hidreport_items.specs.declared.error.HidError.TheVariants as errors
use Rattle.hidreport_items.specs.Spelling.{data_length, first_or_zero, following_length}
use Rattle.hidreport_items.specs.Spelling.{is_long_header}
use Rattle.hidreport_items.specs.Spelling.{item_of, read_as}
use Rattle.hidreport_items.specs.Writing.{item_bytes}
use Rattle.hidreport_items.specs.declared.item.ItemType.{ItemType}
use Rattle.hidreport_lists.specs.Entry.{Spelled, Entry}
use Rattle.hidreport_lists.specs.Answer.{Refusal, InvalidData, Refuses, IsInvalidAt, fault_of}
use Rattle.hidreport_lists.specs.Itemising.{Reader, item_at, with_entry, items_from, itemise}
use Rattle.hidreport_lists.specs.Itemising.{as_refusal, front_item, short_item}
use Rattle.hidreport_lists.specs.Messages.{grammar_message}
use Rattle.hidreport_lists.specs.declared.error.ParserError.{ParserError}
use Rattle.hidreport_lists.specs.declared.error.ParserError.TheVariants as parser

-- a choice whose first answer is a fault
pub chosen_ok : {A E : Type 0} (b : Bool) (e : E) (r : Result A E) (x : A) → cond b (Err e) r ≡ Ok x
    → (b ≡ false) × (r ≡ Ok x)
chosen_ok true e r x h = cc
chosen_ok false e r x h = (refl, h)

pub read_as_ok : {A B : Type 0} (f : A → B) (r : Result A GrammarFault) (y : B) → read_as f r ≡ Ok y
    → (x : A) × (r ≡ Ok x) × (f x ≡ y)
read_as_ok f (Ok x) y h = (x, refl, cc)
read_as_ok f (Err e) y h = cc

pub read_as_err : {A B : Type 0} (f : A → B) (r : Result A GrammarFault) (e : GrammarFault)
    → read_as f r ≡ Err e
    → r ≡ Err e
read_as_err f (Ok x) e h = cc
read_as_err f (Err d) e h = cc

-- enough bytes follow the header
pub enough : (n a : ℕ) → nat_lt n a ≡ false → a ≤ n
enough n a e = grind (arith, common_steps)

pub not_short : (n a : ℕ) → a ≤ n → nat_lt n a ≡ false
not_short n a e = grind (arith, common_steps)

never-read : {A : Type 0} (r : Result A GrammarFault) (fault : GrammarFault) → IsRead r
    → r ≡ Err fault → ⊥
never-read (Ok x) fault is e = cc
never-read (Err d) fault is e = is

pub item_at-enough : (read : Reader) (h : ℕ) (bs : List ℕ) → following_length h bs ≤ length bs
    → item_at read h bs ≡ read h (take (following_length h bs) bs)
item_at-enough read h bs le = ap
    (λ b. cond b (Err Insufficient) (read h (take (following_length h bs) bs)))
    (not_short (length bs) (following_length h bs) le)

-- a short item is the one at the front
pub short-front : (h : ℕ) (bs : List ℕ) → is_long_header h ≡ false
    → short_item item_of (h ∷ bs) ≡ front_item item_of (h ∷ bs)
short-front h bs e = cond-false (is_long_header h) (Err (Invalid long_message))
    (front_item item_of (h ∷ bs)) e

-- with all that follows its header, it is what is read
pub front-read : (h : ℕ) (bs : List ℕ) → following_length h bs ≤ length bs
    → front_item item_of (h ∷ bs) ≡ read_as
    (λ x. record { bytes = h ∷ take (following_length h bs) bs; item = x })
    (item_of h (take (following_length h bs) bs))
front-read h bs room = ap
    (read_as (λ x. record { bytes = h ∷ take (following_length h bs) bs; item = x }))
    (item_at-enough item_of h bs room)

-- the item at the front begins with the first byte
pub front-header : (bytes : List ℕ) (s : Spelled) → front_item item_of bytes ≡ Ok s
    → first_or_zero s.bytes ≡ first_or_zero bytes
front-header [] s e = cc
front-header (h ∷ bs) s e =
    let got = read_as_ok (λ x. record { bytes = h ∷ take (following_length h bs) bs; item = x })
    (item_at item_of h bs) s e in
    ap (λ (y : Spelled). first_or_zero y.bytes) (sym got.2)

-- a fault of the header and its data is the item's
pub short_item-err : (h : ℕ) (after : List ℕ) (a : ℕ) (fault : GrammarFault)
    → is_long_header h ≡ false
    → a ≡ data_length h → a ≤ length after → Err fault ≡ item_of h (take a after)
    → Err fault ≡ short_item item_of (h ∷ after)
short_item-err h after a fault short announces room e =
    let is : a ≡ following_length h after = announces ∙ sym (short-follow h after short) in
    let enough_bytes : following_length h after ≤ length after = subst
    (λ n. n ≤ length after) is room in
    let same : item_of h (take (following_length h after) after) ≡ Err fault =
    ap (λ n. item_of h (take n after)) (sym is) ∙ sym e in
    sym (short-front h after short ∙ front-read h after enough_bytes
    ∙ ap (read_as (λ x. record { bytes = h ∷ take (following_length h after) after; item = x }))
    same)

-- what is written for an item has no fault but that there is nothing
written-fault : (bytes : List ℕ) (fault : GrammarFault) → NoneOrAnItem bytes
    → short_item item_of bytes ≡ Err fault → fault ≡ Insufficient
written-fault [] fault are e = cc
written-fault (h ∷ bs) fault are e =
    let size : length bs ≡ following_length h bs = are.0 ∙ sym (short-follow h bs are.1) in
    let room : following_length h bs ≤ length bs = omega (arith, size) in
    let same : take (following_length h bs) bs
    ≡ bs = subst (λ n. take n bs ≡ bs) size (take-length bs) in
    absurd (never-read (item_of h bs) fault are.2 (
    ap (item_of h) (sym same)
    ∙ sym (item_at-enough item_of h bs room)
    ∙ read_as_err (λ y. record { bytes = h ∷ take (following_length h bs) bs; item = y })
    (item_at item_of h bs) fault (sym (short-front h bs are.1) ∙ e)))

pub item-fault : (x : ItemType) (fault : GrammarFault)
    → short_item item_of (item_bytes x) ≡ Err fault
    → short_item item_of (item_bytes x) ≡ Err Insufficient
item-fault x fault e = e ∙ ap Err (written-fault (item_bytes x) fault (written-read x) e)

-- the items before, and then those of the rest
abbrev pub with_front : List Entry → Result (List Entry) (ℕ × GrammarFault)
    → Result (List Entry) (ℕ × GrammarFault)
with_front front (Ok entries) = Ok (front ++ entries)
with_front front (Err fault) = Err fault

-- an item with its bytes, at an offset
abbrev pub at_offset : ℕ → Spelled → Entry
at_offset offset s = record { offset = offset; bytes = s.bytes; item = s.item }

pub with_front-nil : (r : Result (List Entry) (ℕ × GrammarFault)) → with_front [] r ≡ r
with_front-nil (Ok entries) = refl
with_front-nil (Err fault) = refl

pub with_front-more : (front : List Entry) (e : Entry) (r : Result (List Entry) (ℕ × GrammarFault))
    → with_front (front ++ e ∷ []) r ≡ with_front front (with_front (e ∷ []) r)
with_front-more front e (Ok entries) = ap Ok (append_assoc front (e ∷ []) entries)
with_front-more front e (Err fault) = refl

with_entry-ok : (offset : ℕ) (bytes : List ℕ) (x : ItemType)
    (r : Result (List Entry) (ℕ × GrammarFault))
    → with_entry offset bytes (Ok x) r ≡ with_front
    (record { offset = offset; bytes = bytes; item = x } ∷ []) r
with_entry-ok offset bytes x (Ok entries) = refl
with_entry-ok offset bytes x (Err fault) = refl

-- the bytes inside an item are passed over
pub items_from-inside : (read : Reader) (offset inside : ℕ) (bs : List ℕ) → inside ≤ length bs
    → items_from read offset inside bs ≡ items_from read (offset + inside) 0 (drop inside bs)
items_from-inside read offset zero bs le = ap (λ n. items_from read n 0 bs) (omega arith)
items_from-inside read offset (suc inside) [] le = absurd (omega arith)
items_from-inside read offset (suc inside) (b ∷ bs) le =
    let rest : inside ≤ length bs = omega arith in
    items_from-inside read (offset + 1) inside bs rest
    ∙ ap (λ n. items_from read n 0 (drop inside bs)) (omega arith)

-- an item that can't be read is the fault
pub items_from-fault : (offset : ℕ) (bytes : List ℕ) (fault : GrammarFault) → bytes ≢ []
    → front_item item_of bytes ≡ Err fault
    → items_from item_of offset 0 bytes ≡ Err (offset, fault)
items_from-fault offset [] fault ne e = absurd (ne refl)
items_from-fault offset (h ∷ bs) fault ne e =
    ap (λ (r : Result ItemType GrammarFault). with_entry offset
    (h ∷ take (following_length h bs) bs) r
    (items_from item_of (offset + 1) (following_length h bs) bs))
    (read_as_err (λ x. record { bytes = h ∷ take (following_length h bs) bs; item = x })
    (item_at item_of h bs) fault e)

-- an item that is read stands before the items of the rest
pub items_from-item : (offset : ℕ) (bytes : List ℕ) (s : Spelled) → front_item item_of bytes ≡ Ok s
    → (length s.bytes ≤ length bytes) × (0 < length s.bytes)
    × (items_from item_of offset 0 bytes ≡ with_front (at_offset offset s ∷ [])
    (items_from item_of (offset + length s.bytes) 0 (drop (length s.bytes) bytes)))
items_from-item offset [] s e = cc
items_from-item offset (h ∷ bs) s e =
    let n = following_length h bs in
    let got = read_as_ok (λ x. record { bytes = h ∷ take n bs; item = x }) (item_at item_of h bs) s
    e in
    let room : n ≤ length bs = enough (length bs) n
    (chosen_ok (nat_lt (length bs) n) Insufficient (item_of h (take n bs)) got.0 got.1).0 in
    let size : length s.bytes ≡ suc n = ap (λ (y : Spelled). length y.bytes) (sym got.2)
    ∙ (let e1 : length (h ∷ take n bs) ≡ suc n = simp length-take (omega arith) in e1) in
    let first : items_from item_of offset 0 (h ∷ bs) ≡ with_front (at_offset offset s ∷ [])
    (items_from item_of (offset + 1) n bs) =
    ap (λ (r : Result ItemType GrammarFault). with_entry offset (h ∷ take n bs) r
    (items_from item_of (offset + 1) n bs)) got.1
    ∙ with_entry-ok offset (h ∷ take n bs) got.0 (items_from item_of (offset + 1) n bs)
    ∙ ap (λ (y : Spelled). with_front (at_offset offset y ∷ [])
    (items_from item_of (offset + 1) n bs)) got.2 in
    let rest : items_from item_of (offset + 1) n bs ≡ items_from item_of (offset + length s.bytes) 0
    (drop (length s.bytes) (h ∷ bs)) =
    items_from-inside item_of (offset + 1) n bs room
    ∙ ap (λ k. items_from item_of k 0 (drop n bs))
    (let e2 : offset + 1 + n ≡ offset + length s.bytes = omega arith in e2)
    ∙ ap (λ k. items_from item_of (offset + length s.bytes) 0 (drop k (h ∷ bs))) (sym size) in (
      let le : suc n ≤ length (h ∷ bs) = omega arith in subst (λ k. k ≤ length (h ∷ bs)) (sym size)
          le,
      omega arith,
      first ∙ ap (with_front (at_offset offset s ∷ [])) rest,
    )

-- an error that names the offset and the message is this answer
pub refuses-invalid : {A : Type 0} (error : ParserError) (offset : ℕ) (message : List ℕ)
    (answer : Result A Refusal)
    → IsInvalidAt error offset message → answer ≡ Err (InvalidData offset message)
    → Refuses error answer
refuses-invalid (parser.InvalidData at text) offset message answer named e = e
    ∙ ap (λ o. Err (InvalidData o message)) (sym named.0)
    ∙ ap (λ m. Err (InvalidData at m)) (sym named.1)
refuses-invalid parser.OutOfBounds offset message answer named e = absurd named
refuses-invalid parser.MismatchingReportId offset message answer named e = absurd named
refuses-invalid parser.OutOfMemory offset message answer named e = tt
refuses-invalid (parser.BudgetExceeded at) offset message answer named e = absurd named

-- bytes of which the first stands at 0
pub itemise-some : (read : Reader) (bytes : List ℕ) → bytes ≢ []
    → itemise read bytes ≡ items_from read 0 0 bytes
itemise-some read [] ne = absurd (ne refl)
itemise-some read (b ∷ bs) ne = refl

-- the fault of the rest is that of all the bytes
fault-whole : (bytes rest : List ℕ) (front : List Entry) (offset : ℕ) (fault : GrammarFault)
    → bytes ≢ []
    → rest ≢ []
    → with_front front (items_from item_of offset 0 rest) ≡ items_from item_of 0 0 bytes
    → front_item item_of rest ≡ Err fault
    → as_refusal (itemise item_of bytes) ≡ Err (InvalidData offset (grammar_message fault))
fault-whole bytes rest front offset fault some more same e =
    ap as_refusal (itemise-some item_of bytes some ∙ sym same
    ∙ ap (with_front front) (items_from-fault offset rest fault more e))

-- the reader's error, placed, is the answer
pub refuses-fault : (bytes rest : List ℕ) (front : List Entry) (offset : ℕ) (fault : HidError)
    (error : ParserError) → bytes ≢ [] → rest ≢ []
    → with_front front (items_from item_of offset 0 rest) ≡ items_from item_of 0 0 bytes
    → Fails fault (front_item item_of rest)
    → IfSome (fault_of fault) (λ f. IsInvalidAt error offset (grammar_message f))
    → (fault_of fault ≡ None → error ≡ parser.OutOfMemory)
    → Refuses error (as_refusal (itemise item_of bytes))
refuses-fault bytes rest front offset (errors.InvalidData message) error some more same e named
    memory =
    refuses-invalid error offset _ _ named
    (fault-whole bytes rest front offset (Invalid (string_bytes message)) some more same e)
refuses-fault bytes rest front offset errors.InsufficientData error some more same e named memory =
    refuses-invalid error offset _ _ named
    (fault-whole bytes rest front offset Insufficient some more same e)
refuses-fault bytes rest front offset errors.OutOfMemory error some more same e named memory =
    subst (λ (x : ParserError). Refuses x (as_refusal (itemise item_of bytes))) (sym (memory refl))
    tt
