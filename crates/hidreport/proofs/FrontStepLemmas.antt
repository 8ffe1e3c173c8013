-- One step by the item at the front of the bytes.
use Rattle.std.proofs.Common.{◌≡◌, ◌+◌, ◌++◌, ◌∙◌, ℕ, List, drop, length, take, Option, None, Ok, Err, Result, ap}
use Rattle.std.proofs.Common.{append-nil, option_to_list, refl, sym}
use Rattle.hidreport_items.specs.Answer.{GrammarFault}
use Rattle.hidreport_items.specs.Spelling.{item_of}
use Rattle.hidreport_items.specs.declared.item.ItemType.{ItemType}
use Rattle.hidreport_lists.specs.Entry.{Entry}
use Rattle.hidreport_lists.specs.FrontItem.{AreAtFront}
use Rattle.hidreport_lists.specs.Itemising.{items_from}
use Rattle.hidreport_lists.specs.declared.front.FrontItem.{FrontItem}
use Rattle.hidreport_lists.specs.declared.front.FrontParts.{FrontParts}
use Rattle.hidreport_lists.proofs.FrontLemmas.{front-first, parts-ok}
use Rattle.hidreport.specs.Kinds.{data_of}
use Rattle.hidreport.specs.Parser.Budget.{is_past, left_behind, walk_items_to}
use Rattle.hidreport.specs.Parser.FrontStep.{GoesBy, HasTaken}
use Rattle.hidreport.specs.Parser.ItemPlaces.{place_in, placed}
use Rattle.hidreport.specs.Parser.Machine.{StateRecord}
use Rattle.hidreport.specs.declared.report.item_place.GroupPlace.{GroupPlace}
use Rattle.hidreport.specs.declared.report.item_place.ItemPlace.{ItemPlace}
use Rattle.hidreport.proofs.ItemPlaceLemmas.{placed-on}
use Rattle.hidreport.proofs.ParseLemmas.{nothing-spent, nothing-within, walked-on}

-- by the item of the parts of what stands at the front
has-taken-by : (before after : StateRecord) (parts : FrontParts) (bytes : List ℕ)
    (r : Result ItemType GrammarFault) → AreAtFront parts bytes
    → r ≡ item_of parts.header parts.data.now → GoesBy before after r
    → HasTaken before after (1 + length parts.data.now) bytes
has-taken-by before after parts bytes (Ok x) at is goes =
    record { item = x; front = parts-ok parts bytes x at is; goes = goes }
has-taken-by before after parts bytes (Err fault) at is goes = absurd goes

pub has-taken : (before after : StateRecord) (parts : FrontParts) (bytes : List ℕ)
    → AreAtFront parts bytes → GoesBy before after (item_of parts.header parts.data.now)
    → HasTaken before after (1 + length parts.data.now) bytes
has-taken before after parts bytes at goes =
    has-taken-by before after parts bytes (item_of parts.header parts.data.now) at refl goes

-- the item in front of the rest
abbrev entry_at : ℕ → ℕ → ItemType → List ℕ → Entry
entry_at offset size x rest = record { offset = offset; bytes = take size rest; item = x }

-- behind it the walk is the one before it
pub taken-on : {A : Type 0} (part : StateRecord → A) (left : Option ℕ) (offset : ℕ)
    (before after : StateRecord) (size : ℕ) (rest : List ℕ) → HasTaken before after size rest
    → walk_items_to part left after (items_from item_of (offset + size) 0 (drop size rest))
    ≡ walk_items_to part left before (items_from item_of offset 0 rest)
taken-on part left offset before after size rest has =
    let front : FrontItem = record { item = has.item; size = size } in
    sym (walked-on part (entry_at offset size has.item rest) left left before after
    (items_from item_of (offset + size) 0 (drop size rest)) has.goes.0
    (ap (is_past left) has.goes.1 ∙ nothing-within left)
    (sym (ap (left_behind left) has.goes.1 ∙ nothing-spent left)))
    ∙ ap (walk_items_to part left before) (sym (front-first offset rest front has.front).1)

no-place : (h : StateRecord) (place : ItemPlace) (x : ItemType) → data_of x ≡ None
    → place_in h place x ≡ None
no-place h place x none = rw none refl

-- and so are the places
pub taken-placed : (places : List GroupPlace) (k offset : ℕ) (before after : StateRecord) (size : ℕ)
    (rest : List ℕ) → HasTaken before after size rest
    → placed places after (k + 1) (items_from item_of (offset + size) 0 (drop size rest))
    ≡ placed places before k (items_from item_of offset 0 rest)
taken-placed places k offset before after size rest has =
    let front : FrontItem = record { item = has.item; size = size } in
    let none = no-place before (record { index = k; offset = offset }) has.item has.goes.2 in
    let behind = items_from item_of (offset + size) 0 (drop size rest) in
    ap (λ l. placed l after (k + 1) behind)
    (sym (ap (λ o. places ++ option_to_list o) none ∙ append-nil places))
    ∙ sym (placed-on places before after k (entry_at offset size has.item rest) behind has.goes.0)
    ∙ ap (placed places before k) (sym (front-first offset rest front has.front).1)
