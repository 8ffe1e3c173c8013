-- The line of an item: its offset, its bytes and its name, which is its variant's.
use Rattle.std.specs.Prelude.{ℕ, List, ◌++◌, flat_map, codes, decimal}
use Rattle.hidreport_items.specs.declared.main_item.MainItem.{MainItem}
use Rattle.hidreport_items.specs.declared.main_item.MainItem.TheVariants as main
use Rattle.hidreport_items.specs.declared.global.GlobalItem.{GlobalItem}
use Rattle.hidreport_items.specs.declared.global.GlobalItem.TheVariants as global
use Rattle.hidreport_items.specs.declared.local.LocalItem.{LocalItem}
use Rattle.hidreport_items.specs.declared.local.LocalItem.TheVariants as local
use Rattle.hidreport_items.specs.declared.item.ItemType.{ItemType}
use Rattle.hidreport_items.specs.declared.item.ItemType.TheVariants as item
use Rattle.hidreport_lists.specs.Entry.{Entry}
use Rattle.hidreport_program.specs.Lines.{bytes_text, newline}

abbrev pub main_name : MainItem → List ℕ
main_name (main.Input flags) = codes "Input"
main_name (main.Output flags) = codes "Output"
main_name (main.Feature flags) = codes "Feature"
main_name (main.Collection kind) = codes "Collection"
main_name main.EndCollection = codes "EndCollection"

abbrev pub global_name : GlobalItem → List ℕ
global_name (global.UsagePage n) = codes "UsagePage"
global_name (global.LogicalMinimum n) = codes "LogicalMinimum"
global_name (global.LogicalMaximum n) = codes "LogicalMaximum"
global_name (global.PhysicalMinimum n) = codes "PhysicalMinimum"
global_name (global.PhysicalMaximum n) = codes "PhysicalMaximum"
global_name (global.UnitExponent n) = codes "UnitExponent"
global_name (global.Unit n) = codes "Unit"
global_name (global.ReportSize n) = codes "ReportSize"
global_name (global.ReportId n) = codes "ReportId"
global_name (global.ReportCount n) = codes "ReportCount"
global_name global.Push = codes "Push"
global_name global.Pop = codes "Pop"
global_name global.Reserved = codes "GlobalReserved"

abbrev pub local_name : LocalItem → List ℕ
local_name (local.Usage page id) = codes "Usage"
local_name (local.UsageId n) = codes "UsageId"
local_name (local.UsageMinimum n) = codes "UsageMinimum"
local_name (local.UsageMaximum n) = codes "UsageMaximum"
local_name (local.DesignatorIndex n) = codes "DesignatorIndex"
local_name (local.DesignatorMinimum n) = codes "DesignatorMinimum"
local_name (local.DesignatorMaximum n) = codes "DesignatorMaximum"
local_name (local.StringIndex n) = codes "StringIndex"
local_name (local.StringMinimum n) = codes "StringMinimum"
local_name (local.StringMaximum n) = codes "StringMaximum"
local_name (local.Delimiter n) = codes "Delimiter"
local_name (local.Reserved value) = codes "LocalReserved"

abbrev pub item_name : ItemType → List ℕ
item_name (item.Main x) = main_name x
item_name (item.Global x) = global_name x
item_name (item.Local x) = local_name x
item_name item.Long = codes "Long"
item_name item.Reserved = codes "Reserved"

abbrev pub line_of_item : Entry → List ℕ
line_of_item e = decimal e.offset
    ++ (codes " " ++ (bytes_text e.bytes ++ (codes " " ++ (item_name e.item ++ newline))))

-- a line for each item
abbrev pub items_text : List Entry → List ℕ
items_text entries = flat_map line_of_item entries
