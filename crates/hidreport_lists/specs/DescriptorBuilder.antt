-- What a builder of descriptors gives (Section 6.2.2.1): its items' bytes, one behind the other.
use Rattle.std.specs.Prelude.{◌≡◌, ◌≢◌, ℕ, Bool, true, false, if◌then◌else◌, List, [], ◌∷◌}
use Rattle.std.specs.Prelude.{flat_map, Option}
use Rattle.std.specs.Prelude.{None, Some, Result, Ok, Err, Vec}
use Rattle.std.specs.Global.{Global}
use Rattle.std.specs.List.{list_all}
use Rattle.hidreport_items.specs.Answer.{Writes}
use Rattle.hidreport_items.specs.Kept.{is_kept}
use Rattle.hidreport_items.specs.Spelling.{Spells, item_of}
use Rattle.hidreport_items.specs.Writing.{item_bytes}
use Rattle.hidreport_items.specs.declared.error.HidError.{HidError}
use Rattle.hidreport_items.specs.declared.error.HidError.TheVariants as errors
use Rattle.hidreport_items.specs.declared.item.ItemType.{ItemType}
use Rattle.hidreport_items.specs.declared.item.ItemType.TheVariants as item
use Rattle.hidreport_lists.specs.Itemising.{Itemises}
use Rattle.hidreport_lists.specs.Rebuilt.{canonical_entries}

-- a main, global or local item (Section 6.2.2.2); for the others no bytes are written
abbrev pub is_written : ItemType → Bool
is_written (item.Main x) = true
is_written (item.Global x) = true
is_written (item.Local x) = true
is_written item.Long = false
is_written item.Reserved = false

-- the bytes of all these items, joined; none where one of them has no bytes
abbrev pub built : List ItemType → Option (List ℕ)
built items = if list_all is_written items then Some (flat_map item_bytes items) else None

-- the answer is these bytes, or that there are none; want of memory refuses bytes alone
abbrev pub Builds : Result (Vec ℕ Global) HidError → Option (List ℕ) → Type 0
Builds answer (Some bytes) = Writes answer bytes
Builds answer None = answer ≡ Err errors.InsufficientData

-- the answer is a builder of these items; only want of memory refuses it
abbrev pub Holds : Result (List ItemType) HidError → List ItemType → Type 0
Holds (Ok builder) items = builder ≡ items
Holds (Err e) items = e ≡ errors.OutOfMemory

-- each of the items is kept, and some bytes spell it
abbrev pub AreSpelled : List ItemType → Type 0
AreSpelled [] = Unit {0}
AreSpelled (x ∷ xs) = (is_kept x ≡ true) × ((bytes : List ℕ) × Spells bytes x) × AreSpelled xs

-- what is written is just these items, one behind the other, where there is something
abbrev pub WritesItems : List ItemType → List ℕ → Type 0
WritesItems items bytes = bytes ≢ [] → Itemises item_of bytes (canonical_entries 0 items)
