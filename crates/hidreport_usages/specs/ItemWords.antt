-- The names of items, of kinds of collections and of systems of units (HID 1.11, Section 6.2.2).
use Rattle.std.specs.Prelude.{ℕ, List, codes}
use Rattle.hidreport_items.specs.declared.item.ItemType.{ItemType}
use Rattle.hidreport_items.specs.declared.item.ItemType.TheVariants.{Main, Global, Local, Long}
use Rattle.hidreport_items.specs.declared.item.ItemType.TheVariants.{Reserved as ReservedType}
use Rattle.hidreport_items.specs.declared.main_item.MainItem.{MainItem}
use Rattle.hidreport_items.specs.declared.main_item.MainItem.TheVariants.{Input, Output, Feature}
use Rattle.hidreport_items.specs.declared.main_item.MainItem.TheVariants.{Collection, EndCollection}
use Rattle.hidreport_items.specs.declared.main_item.CollectionItem.{CollectionItem}
use Rattle.hidreport_items.specs.declared.main_item.CollectionItem.TheVariants.{Physical, Report}
use Rattle.hidreport_items.specs.declared.main_item.CollectionItem.TheVariants.{Application}
use Rattle.hidreport_items.specs.declared.main_item.CollectionItem.TheVariants.{Logical}
use Rattle.hidreport_items.specs.declared.main_item.CollectionItem.TheVariants.{NamedArray}
use Rattle.hidreport_items.specs.declared.main_item.CollectionItem.TheVariants.{UsageSwitch}
use Rattle.hidreport_items.specs.declared.main_item.CollectionItem.TheVariants.{UsageModifier}
use Rattle.hidreport_items.specs.declared.main_item.CollectionItem.TheVariants.{VendorDefined}
use Rattle.hidreport_items.specs.declared.main_item.CollectionItem.TheVariants.{}
use Rattle.hidreport_items.specs.declared.main_item.CollectionItem.TheVariants as Kinds
use Rattle.hidreport_items.specs.declared.global.GlobalItem.{GlobalItem}
use Rattle.hidreport_items.specs.declared.global.GlobalItem.TheVariants.{UsagePage, LogicalMinimum}
use Rattle.hidreport_items.specs.declared.global.GlobalItem.TheVariants.{LogicalMaximum}
use Rattle.hidreport_items.specs.declared.global.GlobalItem.TheVariants.{PhysicalMinimum}
use Rattle.hidreport_items.specs.declared.global.GlobalItem.TheVariants.{PhysicalMaximum, Unit}
use Rattle.hidreport_items.specs.declared.global.GlobalItem.TheVariants.{UnitExponent, ReportSize}
use Rattle.hidreport_items.specs.declared.global.GlobalItem.TheVariants.{ReportId, ReportCount}
use Rattle.hidreport_items.specs.declared.global.GlobalItem.TheVariants.{Push, Pop}
use Rattle.hidreport_items.specs.declared.global.GlobalItem.TheVariants.{Reserved as ReservedGlobal}
use Rattle.hidreport_items.specs.declared.local.LocalItem.{LocalItem}
use Rattle.hidreport_items.specs.declared.local.LocalItem.TheVariants.{Usage, UsageId, Delimiter}
use Rattle.hidreport_items.specs.declared.local.LocalItem.TheVariants.{UsageMinimum, UsageMaximum}
use Rattle.hidreport_items.specs.declared.local.LocalItem.TheVariants.{DesignatorIndex}
use Rattle.hidreport_items.specs.declared.local.LocalItem.TheVariants.{DesignatorMinimum}
use Rattle.hidreport_items.specs.declared.local.LocalItem.TheVariants.{DesignatorMaximum}
use Rattle.hidreport_items.specs.declared.local.LocalItem.TheVariants.{StringIndex, StringMinimum}
use Rattle.hidreport_items.specs.declared.local.LocalItem.TheVariants.{StringMaximum}
use Rattle.hidreport_items.specs.declared.local.LocalItem.TheVariants.{Reserved as ReservedLocal}
use Rattle.hidreport_types.specs.declared.unit_system.UnitSystem.{UnitSystem}
use Rattle.hidreport_types.specs.declared.unit_system.UnitSystem.TheVariants.{None, SILinear}
use Rattle.hidreport_types.specs.declared.unit_system.UnitSystem.TheVariants.{SIRotation}
use Rattle.hidreport_types.specs.declared.unit_system.UnitSystem.TheVariants.{EnglishLinear}
use Rattle.hidreport_types.specs.declared.unit_system.UnitSystem.TheVariants.{EnglishRotation}

-- a main item's name
abbrev pub main_name : MainItem → List ℕ
main_name (Input i) = codes "Input"
main_name (Output i) = codes "Output"
main_name (Feature i) = codes "Feature"
main_name (Collection k) = codes "Collection"
main_name EndCollection = codes "End Collection"

-- a global item's name
abbrev pub global_name : GlobalItem → List ℕ
global_name (UsagePage n) = codes "Usage Page"
global_name (LogicalMinimum n) = codes "Logical Minimum"
global_name (LogicalMaximum n) = codes "Logical Maximum"
global_name (PhysicalMinimum n) = codes "Physical Minimum"
global_name (PhysicalMaximum n) = codes "Physical Maximum"
global_name (UnitExponent n) = codes "Unit Exponent"
global_name (Unit n) = codes "Unit"
global_name (ReportSize n) = codes "Report Size"
global_name (ReportId n) = codes "Report ID"
global_name (ReportCount n) = codes "Report Count"
global_name Push = codes "Push"
global_name Pop = codes "Pop"
global_name ReservedGlobal = codes "Reserved"

-- a local item's name
abbrev pub local_name : LocalItem → List ℕ
local_name (Usage p i) = codes "Usage"
local_name (UsageId i) = codes "Usage"
local_name (UsageMinimum n) = codes "Usage Minimum"
local_name (UsageMaximum n) = codes "Usage Maximum"
local_name (DesignatorIndex n) = codes "Designator Index"
local_name (DesignatorMinimum n) = codes "Designator Minimum"
local_name (DesignatorMaximum n) = codes "Designator Maximum"
local_name (StringIndex n) = codes "String Index"
local_name (StringMinimum n) = codes "String Minimum"
local_name (StringMaximum n) = codes "String Maximum"
local_name (Delimiter n) = codes "Delimiter"
local_name (ReservedLocal n) = codes "Reserved"

-- any item's name
abbrev pub item_name : ItemType → List ℕ
item_name (Main item) = main_name item
item_name (Global item) = global_name item
item_name (Local item) = local_name item
item_name Long = codes "Long Item"
item_name ReservedType = codes "Reserved"

-- the name of a kind of collection
abbrev pub collection_name : CollectionItem → List ℕ
collection_name Physical = codes "Physical"
collection_name Application = codes "Application"
collection_name Logical = codes "Logical"
collection_name Report = codes "Report"
collection_name NamedArray = codes "Named Array"
collection_name UsageSwitch = codes "Usage Switch"
collection_name UsageModifier = codes "Usage Modifier"
collection_name (Kinds.Reserved n) = codes "Reserved"
collection_name (VendorDefined n) = codes "Vendor-defined"

-- the name of a system of units
abbrev pub system_name : UnitSystem → List ℕ
system_name None = codes "None"
system_name SILinear = codes "SI Linear"
system_name SIRotation = codes "SI Rotation"
system_name EnglishLinear = codes "English Linear"
system_name EnglishRotation = codes "English Rotation"
