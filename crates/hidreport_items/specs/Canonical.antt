-- The canonical spelling of an item: of EndCollection, Push and Pop the header alone; of every
-- other item the shortest spelling that has data, and of those the one whose data is the smallest
-- number.
use Rattle.std.specs.Prelude.{◌≡◌, ℕ, ◌<◌, ◌≤◌, Bool, true, false, List, length, drop, IsTrue}
use Rattle.hidreport_items.specs.Numbers.{word}
use Rattle.hidreport_items.specs.Spelling.{Spells}
use Rattle.hidreport_items.specs.declared.main_item.MainItem.TheVariants as main
use Rattle.hidreport_items.specs.declared.global.GlobalItem.TheVariants as global
use Rattle.hidreport_items.specs.declared.item.ItemType.{ItemType}
use Rattle.hidreport_items.specs.declared.item.ItemType.TheVariants as item

-- the item says all by its header
abbrev pub is_bare : ItemType → Bool
is_bare (item.Main main.EndCollection) = true
is_bare (item.Global global.Push) = true
is_bare (item.Global global.Pop) = true
is_bare _ = false

-- these bytes are the item's canonical spelling: the shortest with data that spells it, or the
-- header alone where it has no data
pub record IsCanonical (bytes : List ℕ) (x : ItemType) : Type 0 where
  pub spells : Spells bytes x
  pub bare : IsTrue (is_bare x) → length bytes ≡ 1
  pub has_data : is_bare x ≡ false → 1 < length bytes
  pub shortest : (other : List ℕ) → Spells other x → 1 < length other → length bytes ≤ length other
  pub smallest : (other : List ℕ) → Spells other x → length other ≡ length bytes
      → word (drop 1 bytes) ≤ word (drop 1 other)
