-- Faults of items (Sections 6.2.2.4 to 6.2.2.8): what an item can't mean where it stands.
use Rattle.std.specs.Prelude.{ℕ, ◌+◌, ◌-◌, ◌*◌, ◌^◌, ◌==◌, nat_lt, nat_le, Bool, true, false, ◌||◌}
use Rattle.std.specs.Prelude.{if◌then◌else◌, List, [], ◌∷◌, Option, None, Some, Result, Ok, Err}
use Rattle.hidreport_items.specs.Flags.{Flags}
use Rattle.hidreport_items.specs.declared.main_item.MainItem.TheVariants as main
use Rattle.hidreport_items.specs.declared.global.GlobalItem.TheVariants as global
use Rattle.hidreport_items.specs.declared.item.ItemType.{ItemType}
use Rattle.hidreport_items.specs.declared.item.ItemType.TheVariants as item
use Rattle.hidreport_fields.specs.ItemParts.{field_count}
use Rattle.hidreport.specs.Fields.{fields_before}
use Rattle.hidreport.specs.ItemState.{ItemState, first_of}
use Rattle.hidreport.specs.Kinds.{Direction, data_of}
use Rattle.hidreport.specs.Making.{extent}
use Rattle.hidreport.specs.MeaningFault.{MeaningFault, TooManyPops, TooManyEnds, MissingUsages}
use Rattle.hidreport.specs.MeaningFault.{OutOfBounds}
use Rattle.hidreport.specs.OpenCollections.{depth, collections_before}
use Rattle.hidreport.specs.Places.{start}
use Rattle.hidreport.specs.Usages.{UsageList, usages_of}
use Rattle.hidreport.specs.Visibility.{level}
use Rattle.hidreport_fields.specs.declared.field.usage.Usage.{Usage}
use Rattle.hidreport.specs.declared.parser.extent.Extent.{Extent}

-- the last bit at which a report may end, the greatest number of a `usize`
abbrev pub last_end : ℕ
last_end = 2 ^ 64 - 1

-- how many fields, and how many collections, have an id
abbrev pub id_count : ℕ
id_count = 2 ^ 32

-- what the definitions count before an item: open Pushes, open collections, collections and fields,
-- and the bit where the fields of a data item begin
pub record Counts : Type 0 where
  pub level : ℕ
  pub depth : ℕ
  pub collections : ℕ
  pub fields : ℕ
  pub start : ℕ

-- a fault of the usages
abbrev pub usage_fault : Result UsageList MeaningFault → Option MeaningFault
usage_fault (Ok us) = None
usage_fault (Err fault) = Some fault

-- the fault of having no usages
abbrev pub if_no_usages : List Usage → Option MeaningFault
if_no_usages [] = Some MissingUsages
if_no_usages (u ∷ us) = None

-- a fault of the usages where an item needs some
abbrev pub needed_usages_fault : Result UsageList MeaningFault → Option MeaningFault
needed_usages_fault (Ok us) = if_no_usages us.usages
needed_usages_fault (Err fault) = Some fault

-- past a limit: `OutOfBounds`
abbrev pub limit_fault : Bool → Option MeaningFault
limit_fault true = Some OutOfBounds
limit_fault false = None

-- a data item that makes fields: its usages unless it is constant, then its report's end and the
-- number of fields
abbrev pub data_fault : Counts → ItemState → Flags → Option Extent → Option MeaningFault
data_fault n f flags None = None
data_fault n f flags (Some e) = first_of
    (if flags.constant then None else needed_usages_fault (usages_of f))
    (limit_fault (nat_lt last_end (n.start + e.size * e.count)
    || nat_lt id_count (n.fields + field_count flags e.count)))

-- the fault of an item where so much was counted and this is in force
abbrev pub item_fault : Counts → ItemState → ItemType → Option MeaningFault
item_fault n state (item.Global global.Pop) = if n.level == 0 then Some TooManyPops else None
item_fault n state (item.Main main.EndCollection) = if n.depth == 0 then Some TooManyEnds else None
item_fault n state (item.Main (main.Collection kind)) =
    first_of (usage_fault (usages_of state)) (limit_fault (nat_le id_count n.collections))
item_fault n state (item.Main (main.Input flags)) = data_fault n state flags (extent state)
item_fault n state (item.Main (main.Output flags)) = data_fault n state flags (extent state)
item_fault n state (item.Main (main.Feature flags)) = data_fault n state flags (extent state)
item_fault n state _ = None

-- where the fields of a data item begin; other items have none
abbrev pub start_of : (ℕ → ItemState) → Option (Direction × Flags) → List ItemType → ℕ → ℕ
start_of state_at None items k = 0
start_of state_at (Some x) items k = start state_at x.0 items k

-- the counts at k, where x stands
abbrev pub counts : (ℕ → ItemState) → List ItemType → ℕ → ItemType → Counts
counts state_at items k x = record {
  level = level items k;
  depth = depth items k;
  collections = collections_before items k;
  fields = fields_before state_at items k;
  start = start_of state_at (data_of x) items k;
}

-- the fault of the item x at k, if it has one
abbrev pub fault : (ℕ → ItemState) → List ItemType → ℕ → ItemType → Option MeaningFault
fault state_at items k x = item_fault (counts state_at items k x) (state_at k) x
