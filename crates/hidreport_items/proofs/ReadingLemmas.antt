-- The type of a header chooses the reader.
use Rattle.std.proofs.Common.{◌≡◌, ℕ, ◌/◌, ◌%◌, List, refl, arith, bit_and}
use Rattle.std.proofs.lemmas.Grind.{common_steps}
use Rattle.hidreport_items.specs.Spelling.{item_of, read_as, main_item, global_item, local_item}
use Rattle.hidreport_items.specs.declared.item.ItemType.TheVariants as item

-- bits 2 to 3 choose the item's type
pub item_of-main : (h : ℕ) (bs : List ℕ) → bit_and (h / 4) 3 ≡ 0
    → item_of h bs ≡ read_as item.Main (main_item h bs)
item_of-main h bs e = let t : h / 4 % 4 ≡ 0 = grind (arith, common_steps) in rw t refl

pub item_of-global : (h : ℕ) (bs : List ℕ) → bit_and (h / 4) 3 ≡ 1
    → item_of h bs ≡ read_as item.Global (global_item h bs)
item_of-global h bs e = let t : h / 4 % 4 ≡ 1 = grind (arith, common_steps) in rw t refl

pub item_of-local : (h : ℕ) (bs : List ℕ) → bit_and (h / 4) 3 ≡ 2
    → item_of h bs ≡ read_as item.Local (local_item h bs)
item_of-local h bs e = let t : h / 4 % 4 ≡ 2 = grind (arith, common_steps) in rw t refl
