-- The items that data items are.
use Rattle.hidreport_items.specs.Flags.{Flags}
use Rattle.hidreport_items.specs.declared.main_item.MainItem.TheVariants as main
use Rattle.hidreport_items.specs.declared.item.ItemType.{ItemType}
use Rattle.hidreport_items.specs.declared.item.ItemType.TheVariants as item
use Rattle.hidreport_fields.specs.ItemParts.{Direction, Input, Output, Feature}
use Rattle.hidreport_fields.specs.declared.field.data_item.DataItem.{DataItem}

-- the item of a direction with these flags
abbrev pub item_with : Direction → Flags → ItemType
item_with Input flags = item.Main (main.Input flags)
item_with Output flags = item.Main (main.Output flags)
item_with Feature flags = item.Main (main.Feature flags)

-- the parser's data item
abbrev pub as_item : DataItem → ItemType
as_item x = item_with x.direction x.flags
