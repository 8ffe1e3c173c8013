-- The items that the parser's collections are.
use Rattle.hidreport_items.specs.declared.main_item.CollectionItem.{CollectionItem}
use Rattle.hidreport_items.specs.declared.main_item.MainItem.TheVariants as main
use Rattle.hidreport_items.specs.declared.item.ItemType.{ItemType}
use Rattle.hidreport_items.specs.declared.item.ItemType.TheVariants as item

-- a Collection of this kind
abbrev pub collection : CollectionItem → ItemType
collection kind = item.Main (main.Collection kind)

-- an End Collection
abbrev pub end_collection : ItemType
end_collection = item.Main main.EndCollection
