-- Items read one after the other from the front.
use Rattle.std.proofs.Common.{◌≡◌, ℕ, zero, suc, ◌+◌, ◌<◌, ◌≤◌}
use Rattle.std.proofs.Common.{slice_set, List, [], ◌∷◌, ◌++◌, length, take, drop}
use Rattle.std.proofs.Common.{nat_lt, Result, Ok, Err, refl, ap, sym, ◌∙◌, arith}
use Rattle.std.proofs.lemmas.List.{length-take-le}
use Rattle.hidreport_items.specs.Answer.{GrammarFault, Insufficient}
use Rattle.hidreport_items.specs.Spelling.{following_length, item_of}
use Rattle.hidreport_items.specs.declared.item.ItemType.{ItemType}
use Rattle.hidreport_lists.specs.Entry.{Entry, Spelled}
use Rattle.hidreport_lists.specs.FrontItem.{IsAtFront}
use Rattle.hidreport_lists.specs.Itemising.{front_item, item_at, items_from, itemise, with_entry}
use Rattle.hidreport_lists.specs.declared.front.FrontItem.{FrontItem}
use Rattle.hidreport_lists.proofs.ItemLemmas.{chosen_ok, enough, read_as_err, read_as_ok}
use Rattle.hidreport_c.proofs.ListsLemmas.{written-length, written-next}
use Rattle.hidreport_c.specs.Answer.{array_after}
use Rattle.hidreport_c.specs.Items.{front_items, items_as_c, items_end, with_item}
use Rattle.hidreport_c.specs.declared.structs.HidreportItem.{HidreportItem}

-- an item that is read has as many bytes as its header says
room-of : (h : ℕ) (bs : List ℕ) (x : ItemType) → item_at item_of h bs ≡ Ok x
    → following_length h bs ≤ length bs
room-of h bs x read =
    enough (length bs) (following_length h bs)
    (chosen_ok (nat_lt (length bs) (following_length h bs)) Insufficient
    (item_of h (take (following_length h bs) bs)) x read).0

-- behind the bytes of an item stands the next
inside : (offset n : ℕ) (bs : List ℕ) → n ≤ length bs
    → front_items offset n bs ≡ front_items (offset + n) 0 (drop n bs)
inside offset zero bs within =
    let here : offset ≡ offset + 0 = omega arith in ap (λ o. front_items o 0 bs) here
inside offset (suc n) [] within = absurd (omega (arith, within))
inside offset (suc n) (b ∷ bs) within =
    let next : offset + 1 + n ≡ offset + suc n = omega arith in
    inside (offset + 1) n bs (omega (arith, within))
    ∙ ap (λ o. front_items o 0 (drop n bs)) next

spelled-bytes : (a b : Spelled) → a ≡ b → a.bytes ≡ b.bytes
spelled-bytes a b same = ap (λ (s : Spelled). s.bytes) same

-- an item that is read has a header
pub front-some : (bytes : List ℕ) (front : FrontItem) → IsAtFront front bytes → 0 < front.size
front-some [] front at = let no = at.1 in cc
front-some (h ∷ bs) front at =
    let n = following_length h bs in
    let got = read_as_ok (λ x. record { bytes = h ∷ take n bs; item = x }) (item_at item_of h bs)
    _ at.1 in
    let same : h ∷ take n bs ≡ take front.size (h ∷ bs) = spelled-bytes _ _ got.2 in
    omega (arith, length-take-le front.size (h ∷ bs) at.0, ap length same)

-- one more item, and those behind it
pub front-more : (offset : ℕ) (bytes : List ℕ) (front : FrontItem) → IsAtFront front bytes
    → front_items offset 0 bytes ≡ record { offset = offset; size = front.size }
    ∷ front_items (offset + front.size) 0 (drop front.size bytes)
front-more offset [] front at = let no = at.1 in cc
front-more offset (h ∷ bs) front at =
    let n = following_length h bs in
    let got = read_as_ok (λ x. record { bytes = h ∷ take n bs; item = x }) (item_at item_of h bs)
    _ at.1 in
    let room : n ≤ length bs = room-of h bs got.0 got.1 in
    let all : length (take front.size (h ∷ bs)) ≡ front.size =
    length-take-le front.size (h ∷ bs) at.0 in
    let few : length (take n bs) ≡ n = length-take-le n bs room in
    let same : h ∷ take n bs ≡ take front.size (h ∷ bs) = spelled-bytes _ _ got.2 in
    let one : 1 + n ≡ suc n = omega arith in
    let size : suc n ≡ front.size = omega (arith, all, few, ap length same) in
    let next : offset + 1 + n ≡ offset + (1 + n) = omega arith in
    ap (λ r. with_item offset (1 + n) r (front_items (offset + 1) n bs)) got.1
    ∙ ap (λ l. record { offset = offset; size = 1 + n } ∷ l)
    (inside (offset + 1) n bs room ∙ ap (λ o. front_items o 0 (drop n bs)) next)
    ∙ ap (λ k. record { offset = offset; size = k } ∷ front_items (offset + k) 0 (drop n bs)) one
    ∙ ap (λ k. record { offset = offset; size = k } ∷ front_items (offset + k) 0 (drop k (h ∷ bs)))
    size

-- no item, and so none behind it
pub front-none : (offset : ℕ) (bytes : List ℕ) (fault : GrammarFault)
    → front_item item_of bytes ≡ Err fault → front_items offset 0 bytes ≡ []
front-none offset [] fault none = refl
front-none offset (h ∷ bs) fault none =
    ap (λ r. with_item offset (1 + following_length h bs) r
    (front_items (offset + 1) (following_length h bs) bs))
    (read_as_err (λ x. record { bytes = h ∷ take (following_length h bs) bs; item = x })
    (item_at item_of h bs) fault none)

entry-parts : (offset : ℕ) (bytes : List ℕ) (r : Result ItemType GrammarFault)
    (rest : Result (List Entry) (ℕ × GrammarFault)) (entries : List Entry)
    → with_entry offset bytes r rest ≡ Ok entries
    → (x : ItemType) × (more : List Entry) × (r ≡ Ok x) × (rest ≡ Ok more)
    × (record { offset = offset; bytes = bytes; item = x } ∷ more ≡ entries)
entry-parts offset bytes (Err fault) rest entries h = cc
entry-parts offset bytes (Ok x) (Err fault) entries h = cc
entry-parts offset bytes (Ok x) (Ok more) entries h = (x, more, refl, refl, cc)

items-whole : (offset n : ℕ) (bytes : List ℕ) (entries : List Entry)
    → items_from item_of offset n bytes ≡ Ok entries
    → front_items offset n bytes ≡ items_as_c entries
items-whole offset n [] entries h =
    let none : [] ≡ entries = cc in ap items_as_c none
items-whole offset zero (h ∷ bs) entries all =
    let n = following_length h bs in
    let parts = entry-parts offset (h ∷ take n bs) (item_at item_of h bs)
    (items_from item_of (offset + 1) n bs) entries all in
    let few : length (take n bs) ≡ n =
    length-take-le n bs (room-of h bs parts.0 parts.2) in
    let size : 1 + n ≡ length (h ∷ take n bs) = omega (arith, few) in
    ap (λ r. with_item offset (1 + n) r (front_items (offset + 1) n bs)) parts.2
    ∙ ap (λ l. record { offset = offset; size = 1 + n } ∷ l)
    (items-whole (offset + 1) n bs parts.1 parts.3)
    ∙ ap (λ k. record { offset = offset; size = k } ∷ items_as_c parts.1) size
    ∙ ap items_as_c parts.4
items-whole offset (suc n) (b ∷ bs) entries all = items-whole (offset + 1) n bs entries all

-- where all can be read, they are those of the descriptor
pub front-whole : (bytes : List ℕ) (entries : List Entry) → itemise item_of bytes ≡ Ok entries
    → front_items 0 0 bytes ≡ items_as_c entries
front-whole [] entries h = cc
front-whole (b ∷ bs) entries h = items-whole 0 0 (b ∷ bs) entries h

-- an item written behind those before it
pub item-written : (before old array : List HidreportItem) (place : ℕ) (item : HidreportItem)
    → length before ≡ place → array ≡ array_after before old → place < length array
    → slice_set array place item ≡ array_after (before ++ item ∷ []) old
item-written before old array place item at sofar room =
    let whole : length array ≡ length old = ap length sofar ∙ written-length before old in
    ap (λ a. slice_set a place item) sofar
    ∙ ap (λ n. slice_set (array_after before old) n item) (sym at)
    ∙ written-next before old item (omega (arith, at, whole, room))

abbrev bad : ℕ × GrammarFault → Result (List Entry) (ℕ × GrammarFault)
bad fault = Err fault

abbrev faulty : ℕ → GrammarFault → Result (List Entry) (ℕ × GrammarFault)
faulty offset fault = Err (offset, fault)

place-same : (p q : ℕ × GrammarFault) → bad p ≡ bad q → p.0 ≡ q.0
place-same p q h = let same : p ≡ q = cc in ap (λ (z : ℕ × GrammarFault). z.0) same

fault-by : (here size : ℕ) (bytes : List ℕ) (r : Result ItemType GrammarFault)
    (rest : Result (List Entry) (ℕ × GrammarFault)) (more : List HidreportItem) (at : ℕ)
    (fault : GrammarFault) → with_entry here bytes r rest ≡ faulty at fault
    → (rest ≡ faulty at fault → items_end (here + size) more ≡ at)
    → items_end here (with_item here size r more) ≡ at
fault-by here size bytes (Err e) rest more at fault h ends = place-same (here, e) (at, fault) h
fault-by here size bytes (Ok x) (Err e) more at fault h ends =
    let same : Err e ≡ faulty at fault = cc in ends same
fault-by here size bytes (Ok x) (Ok entries) more at fault h ends = cc

items-fault : (offset n : ℕ) (bytes : List ℕ) (at : ℕ) (fault : GrammarFault)
    → items_from item_of offset n bytes ≡ faulty at fault
    → items_end (offset + n) (front_items offset n bytes) ≡ at
items-fault offset n [] at fault h = cc
items-fault offset zero (h ∷ bs) at fault broken =
    let n = following_length h bs in
    let here : offset + 0 ≡ offset = omega arith in
    let next : offset + (1 + n) ≡ offset + 1 + n = omega arith in
    ap (λ o. items_end o (front_items offset 0 (h ∷ bs))) here
    ∙ fault-by offset (1 + n) (h ∷ take n bs) (item_at item_of h bs)
    (items_from item_of (offset + 1) n bs) (front_items (offset + 1) n bs) at fault broken
    (λ more. ap (λ o. items_end o (front_items (offset + 1) n bs)) next
    ∙ items-fault (offset + 1) n bs at fault more)
items-fault offset (suc n) (b ∷ bs) at fault broken =
    let next : offset + suc n ≡ offset + 1 + n = omega arith in
    ap (λ o. items_end o (front_items (offset + 1) n bs)) next
    ∙ items-fault (offset + 1) n bs at fault broken

-- where one can't be read, it stands behind them
pub front-fault : (bytes : List ℕ) (at : ℕ) (fault : GrammarFault)
    → itemise item_of bytes ≡ faulty at fault → items_end 0 (front_items 0 0 bytes) ≡ at
front-fault [] at fault h = place-same (0, Insufficient) (at, fault) h
front-fault (b ∷ bs) at fault h = items-fault 0 0 (b ∷ bs) at fault h
