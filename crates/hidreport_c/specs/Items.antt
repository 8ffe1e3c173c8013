-- The items of a descriptor as C has them: where each stands, and how many bytes it has.
use Rattle.std.specs.Prelude.{ℕ, ◌+◌, zero, suc, List, [], ◌∷◌, length, map, Result, Ok, Err}
use Rattle.hidreport.specs.Entry.{Entry}
use Rattle.hidreport.specs.ItemAnswer.{GrammarFault}
use Rattle.hidreport.specs.ItemType.{ItemType}
use Rattle.hidreport.specs.Itemising.{item_at}
use Rattle.hidreport.specs.Spelling.{following_length, item_of}
use Rattle.hidreport_c.specs.declared.structs.HidreportItem.{HidreportItem}

-- an item as C has it: its offset, and how many bytes it has
abbrev pub item_as_c : Entry → HidreportItem
item_as_c e = record { offset = e.offset; size = length e.bytes }

-- items as C has them
abbrev pub items_as_c : List Entry → List HidreportItem
items_as_c entries = map item_as_c entries

-- an item before others, unless it can't be read
abbrev pub with_item : ℕ → ℕ → Result ItemType GrammarFault → List HidreportItem
    → List HidreportItem
with_item offset size (Err fault) rest = []
with_item offset size (Ok x) rest = record { offset = offset; size = size } ∷ rest

-- The items before the first that can't be read, or all, of which the first stands at the offset; a
-- count of the bytes still belongs to the item before.
abbrev pub front_items : ℕ → ℕ → List ℕ → List HidreportItem
front_items offset inside [] = []
front_items offset zero (h ∷ bs) = with_item offset (1 + following_length h bs)
    (item_at item_of h bs) (front_items (offset + 1) (following_length h bs) bs)
front_items offset (suc inside) (b ∷ bs) = front_items (offset + 1) inside bs

-- the byte behind the last of items that stand from an offset on
abbrev pub items_end : ℕ → List HidreportItem → ℕ
items_end offset [] = offset
items_end offset (item ∷ items) = items_end (item.offset + item.size) items
