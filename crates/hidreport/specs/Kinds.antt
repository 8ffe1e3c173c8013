-- Which items are which (Sections 6.2.2.4, 6.2.2.7 and 6.2.2.8).
use Rattle.std.specs.Prelude.{ℕ, ℤ, Bool, true, false, is_some, Option, Some, None}
use Rattle.hidreport_items.specs.Flags.{Flags}
use Rattle.hidreport_items.specs.declared.main_item.CollectionItem.{CollectionItem}
use Rattle.hidreport_items.specs.declared.main_item.MainItem.TheVariants as main
use Rattle.hidreport_items.specs.declared.global.GlobalItem.TheVariants as global
use Rattle.hidreport_items.specs.declared.local.LocalItem.{LocalItem}
use Rattle.hidreport_items.specs.declared.item.ItemType.{ItemType}
use Rattle.hidreport_items.specs.declared.item.ItemType.TheVariants as item
-- the three directions in which reports go (Section 6.2.2.4)
pub use Rattle.hidreport_fields.specs.declared.field.data_item.Direction.{Direction}
pub use Rattle.hidreport_fields.specs.declared.field.data_item.Direction.TheVariants.{Input}
pub use Rattle.hidreport_fields.specs.declared.field.data_item.Direction.TheVariants.{Output, Feature}

-- an item and its index in the list of items, counted from 0
abbrev pub Indexed : Type 0
Indexed = ℕ × ItemType

-- the direction and flags of a data item: Input, Output or Feature
abbrev pub data_of : ItemType → Option (Direction × Flags)
data_of (item.Main (main.Input flags)) = Some (Input, flags)
data_of (item.Main (main.Output flags)) = Some (Output, flags)
data_of (item.Main (main.Feature flags)) = Some (Feature, flags)
data_of _ = None

-- both directions are the same
abbrev pub same_direction : Direction → Direction → Bool
same_direction Input Input = true
same_direction Output Output = true
same_direction Feature Feature = true
same_direction _ _ = false

-- the item's direction is d
abbrev pub goes : Direction → Option (Direction × Flags) → Bool
goes d None = false
goes d (Some x) = same_direction d x.0

-- the item is a Push: `a4`
abbrev pub is_push : ItemType → Bool
is_push (item.Global global.Push) = true
is_push _ = false

-- a Pop: `b4`
abbrev pub is_pop : ItemType → Bool
is_pop (item.Global global.Pop) = true
is_pop _ = false

-- a main item: Input, Output, Feature, Collection or End Collection
abbrev pub is_main : ItemType → Bool
is_main (item.Main x) = true
is_main _ = false

-- the kind of a Collection item
abbrev pub collection_kind_of : ItemType → Option CollectionItem
collection_kind_of (item.Main (main.Collection kind)) = Some kind
collection_kind_of _ = None

-- a Collection, of any kind: `a1 01`
abbrev pub is_collection : ItemType → Bool
is_collection x = is_some (collection_kind_of x)

-- an End Collection: `c0`
abbrev pub is_end_collection : ItemType → Bool
is_end_collection (item.Main main.EndCollection) = true
is_end_collection _ = false

-- the local item that it is, if it is one
abbrev pub local_of : ItemType → Option LocalItem
local_of (item.Local x) = Some x
local_of _ = None

-- the value that a global item of each tag sets

-- the number that it sets, by its kind: of `05 01` the usage page 1, and of no other kind
abbrev pub usage_page_of : ItemType → Option ℕ
usage_page_of (item.Global (global.UsagePage n)) = Some n
usage_page_of _ = None

-- of `15 81` the logical minimum -127
abbrev pub logical_minimum_of : ItemType → Option ℤ
logical_minimum_of (item.Global (global.LogicalMinimum n)) = Some n
logical_minimum_of _ = None

-- of `25 7f` the logical maximum 127
abbrev pub logical_maximum_of : ItemType → Option ℤ
logical_maximum_of (item.Global (global.LogicalMaximum n)) = Some n
logical_maximum_of _ = None

-- of `35 00` the physical minimum 0
abbrev pub physical_minimum_of : ItemType → Option ℤ
physical_minimum_of (item.Global (global.PhysicalMinimum n)) = Some n
physical_minimum_of _ = None

-- of `46 68 01` the physical maximum 360
abbrev pub physical_maximum_of : ItemType → Option ℤ
physical_maximum_of (item.Global (global.PhysicalMaximum n)) = Some n
physical_maximum_of _ = None

-- of `55 0e` the exponent 14, which stands for -2
abbrev pub unit_exponent_of : ItemType → Option ℤ
unit_exponent_of (item.Global (global.UnitExponent n)) = Some n
unit_exponent_of _ = None

-- of `65 14` the unit 0x14, degrees
abbrev pub unit_of : ItemType → Option ℕ
unit_of (item.Global (global.Unit n)) = Some n
unit_of _ = None

-- of `75 08` the size 8, in bits
abbrev pub report_size_of : ItemType → Option ℕ
report_size_of (item.Global (global.ReportSize n)) = Some n
report_size_of _ = None

-- of `85 02` the report id 2
abbrev pub report_id_of : ItemType → Option ℕ
report_id_of (item.Global (global.ReportId n)) = Some n
report_id_of _ = None

-- of `95 06` the count 6
abbrev pub report_count_of : ItemType → Option ℕ
report_count_of (item.Global (global.ReportCount n)) = Some n
report_count_of _ = None
