-- An item of a descriptor: where it stands, the bytes that spell it, and what they spell.
use Rattle.std.specs.Prelude.{ℕ, List}
use Rattle.hidreport_items.specs.declared.item.ItemType.{ItemType}

-- the bytes of an item, its header first, and the item that they spell
pub record Spelled : Type 0 where
  pub bytes : List ℕ
  pub item : ItemType

-- the same at its offset: how many bytes stand before it
pub record Entry : Type 0 where
  pub offset : ℕ
  pub bytes : List ℕ
  pub item : ItemType
