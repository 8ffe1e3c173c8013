-- An item read where it stands is the one at the front.
use Rattle.std.proofs.Common.{◌≡◌, ◌<◌, ◌≤◌, ◌+◌, ◌∙◌, ℕ, suc, List, ◌∷◌, length, take, drop, Result}
use Rattle.std.proofs.Common.{Ok, Err, IsOk, Option, None, Some, ap, sym, subst, refl, arith}
use Rattle.std.proofs.Common.{[], length-take}
use Rattle.hidreport_items.specs.Answer.{GrammarFault}
use Rattle.hidreport_items.specs.Spelling.{following_length, item_of, read_as}
use Rattle.hidreport_items.specs.declared.item.ItemType.{ItemType}
use Rattle.hidreport_lists.specs.Entry.{Entry, Spelled}
use Rattle.hidreport_lists.specs.FrontItem.{AreAtFront, IsAtFront}
use Rattle.hidreport_lists.specs.Itemising.{front_item, items_from}
use Rattle.hidreport_lists.specs.declared.front.FrontItem.{FrontItem}
use Rattle.hidreport_lists.specs.declared.front.FrontParts.{FrontParts}
use Rattle.hidreport_lists.proofs.ItemLemmas.{at_offset, front-read, items_from-item, with_front}

-- what is read of a header and so many bytes behind it, if these are those that follow it
front-of : (h : ℕ) (after : List ℕ) (n : ℕ) (read : Result ItemType GrammarFault)
    → n ≡ following_length h after → n ≤ length after → read ≡ item_of h (take n after)
    → front_item item_of (h ∷ after)
    ≡ read_as (λ x. record { bytes = h ∷ take n after; item = x }) read
front-of h after n read is room e =
    let whole : following_length h after ≤ length after = subst (λ m. m ≤ length after) is room in
    front-read h after whole
    ∙ ap (λ m. read_as (λ x. record { bytes = h ∷ take m after; item = x })
    (item_of h (take m after))) (sym is)
    ∙ ap (read_as (λ x. record { bytes = h ∷ take n after; item = x })) (sym e)

pub front-room : (bytes : List ℕ) (h : ℕ) (after : List ℕ) (n : ℕ) → bytes ≡ h ∷ after
    → n ≤ length after → 1 + n ≤ length bytes
front-room bytes h after n cut room =
    let size : length bytes ≡ 1 + length after = ap length cut ∙ omega arith in
    omega (arith, size, room)

-- a header and so many bytes behind it are its parts, if these are those that follow it
pub front-cut : (bytes : List ℕ) (h : ℕ) (after : List ℕ) (n : ℕ) → bytes ≡ h ∷ after
    → n ≡ following_length h after → n ≤ length after
    → (1 + length (take n after) ≤ length bytes)
    × (front_item item_of bytes ≡ read_as
    (λ x. record { bytes = take (1 + length (take n after)) bytes; item = x }) (item_of h (take n after)))
front-cut bytes h after n cut is room =
    let all : length (take n after) ≡ n = simp length-take (omega (arith, room)) in
    let size : 1 + length (take n after) ≡ suc n = omega (arith, all) in (
      omega (arith, all, front-room bytes h after n cut room),
      ap (front_item item_of) cut ∙ front-of h after n (item_of h (take n after)) is room refl
          ∙ ap (λ k. read_as (λ x. record { bytes = take k (h ∷ after); item = x }) (item_of h (take n after)))
          (sym size)
          ∙ ap (λ l. read_as (λ x. record { bytes = take (1 + length (take n after)) l; item = x })
          (item_of h (take n after))) (sym cut),
    )

-- what is read of its parts is the item at the front
pub parts-ok : (parts : FrontParts) (bytes : List ℕ) (x : ItemType) → AreAtFront parts bytes
    → Ok x ≡ item_of parts.header parts.data.now
    → IsAtFront (record { item = x; size = 1 + length parts.data.now }) bytes
parts-ok parts bytes x at is = (
  at.0,
  at.1 ∙ ap (read_as (λ y. record { bytes = take (1 + length parts.data.now) bytes; item = y })) (sym is),
)

pub parts-err : (parts : FrontParts) (bytes : List ℕ) (fault : GrammarFault)
    → AreAtFront parts bytes → Err fault ≡ item_of parts.header parts.data.now
    → front_item item_of bytes ≡ Err fault
parts-err parts bytes fault at is =
    at.1 ∙ ap (read_as (λ y. record { bytes = take (1 + length parts.data.now) bytes; item = y })) (sym is)

-- it has as many bytes as it says
front-size : (bytes : List ℕ) (front : FrontItem) → IsAtFront front bytes
    → length (take front.size bytes) ≡ front.size
front-size bytes front is = simp length-take (omega (arith, is.0))

-- its bytes are some, and it stands before the items of the rest
pub front-first : (offset : ℕ) (bytes : List ℕ) (front : FrontItem) → IsAtFront front bytes
    → (0 < front.size)
    × (items_from item_of offset 0 bytes ≡ with_front
    (record { offset = offset; bytes = take front.size bytes; item = front.item } ∷ [])
    (items_from item_of (offset + front.size) 0 (drop front.size bytes)))
front-first offset bytes front is =
    let read : Spelled = record { bytes = take front.size bytes; item = front.item } in
    let step = items_from-item offset bytes read is.1 in
    let size = front-size bytes front is in (
      omega (arith, step.1, size),
      step.2 ∙ ap (λ n. with_front (at_offset offset read ∷ [])
          (items_from item_of (offset + n) 0 (drop n bytes))) size,
    )

-- the fault of the bytes, if they aren't items
abbrev pub fault_in : Result (List Entry) (ℕ × GrammarFault) → Option (ℕ × GrammarFault)
fault_in (Ok entries) = None
fault_in (Err fault) = Some fault

without : (front : List Entry) (r : Result (List Entry) (ℕ × GrammarFault))
    → fault_in (with_front front r) ≡ fault_in r
without front (Ok entries) = refl
without front (Err fault) = refl

-- behind an item it is the same
pub fault-behind : (offset : ℕ) (bytes : List ℕ) (front : FrontItem) → IsAtFront front bytes
    → fault_in (items_from item_of (offset + front.size) 0 (drop front.size bytes))
    ≡ fault_in (items_from item_of offset 0 bytes)
fault-behind offset bytes front is =
    let read : Spelled = record { bytes = take front.size bytes; item = front.item } in
    sym (ap fault_in (front-first offset bytes front is).1
    ∙ without (at_offset offset read ∷ []) _)

pub fault-none : (r : Result (List Entry) (ℕ × GrammarFault)) → fault_in r ≡ None → IsOk r
fault-none (Ok entries) e = refl
fault-none (Err fault) e = cc

pub fault-some : (r : Result (List Entry) (ℕ × GrammarFault)) (fault : ℕ × GrammarFault)
    → fault_in r ≡ Some fault → r ≡ Err fault
fault-some (Ok entries) fault e = cc
fault-some (Err other) fault e = let same : other ≡ fault = cc in ap Err same
