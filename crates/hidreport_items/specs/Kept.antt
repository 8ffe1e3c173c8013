-- Items that a standard of today gives a meaning: all but long ones (Section 6.2.2.3) and reserved
-- ones.
use Rattle.std.specs.Prelude.{Bool, true, false}
use Rattle.hidreport_items.specs.declared.global.GlobalItem.TheVariants as global
use Rattle.hidreport_items.specs.declared.local.LocalItem.TheVariants as local
use Rattle.hidreport_items.specs.declared.item.ItemType.{ItemType}
use Rattle.hidreport_items.specs.declared.item.ItemType.TheVariants as item

-- the item is one of those that mean something: neither long nor reserved
abbrev pub is_kept : ItemType → Bool
is_kept (item.Main x) = true
is_kept (item.Global global.Reserved) = false
is_kept (item.Global x) = true
is_kept (item.Local (local.Reserved value)) = false
is_kept (item.Local x) = true
is_kept item.Long = false
is_kept item.Reserved = false
