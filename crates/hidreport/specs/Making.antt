-- Making items and their keys (Sections 6.2.2.4 and 6.2.2.7): which data items make fields, and in
-- which report. `force` is what is in force at each index of the list of items.
use Rattle.std.specs.Prelude.{ℕ, ◌==◌, ◌||◌, ◌&&◌, Bool, if◌then◌else◌, List, [], ◌∷◌}
use Rattle.std.specs.Prelude.{filter, is_some, Option, Some, None}
use Rattle.hidreport_items.specs.declared.item.ItemType.{ItemType}
use Rattle.hidreport.specs.ItemState.{ItemState, first_of}
use Rattle.hidreport.specs.Kinds.{Indexed, Direction, data_of, goes}
use Rattle.hidreport.specs.Visibility.{before}
use Rattle.hidreport.specs.declared.parser.extent.Extent.{Extent}
pub use Rattle.hidreport_fields.specs.ReportIds.{same_key}

-- a report size and a report count of which neither is 0
abbrev pub both_set : Option ℕ → Option ℕ → Option Extent
both_set (Some size) (Some count) =
    if size == 0 || count == 0 then None else Some (record { size = size; count = count })
both_set None count = None
both_set (Some size) None = None

-- the size and the count that make fields of a data item
abbrev pub extent : ItemState → Option Extent
extent state = both_set state.report_size state.report_count

-- the item is of direction d and makes fields
abbrev pub makes : (ℕ → ItemState) → Direction → Indexed → Bool
makes state_at d p = goes d (data_of p.1) && is_some (extent (state_at p.0))

-- the items of direction d before k that make fields, in order
abbrev pub makers : (ℕ → ItemState) → Direction → List ItemType → ℕ → List Indexed
makers state_at d items k = filter (makes state_at d) (before items k)

-- the report id in force at the first of these items
abbrev pub first_report_id : (ℕ → ItemState) → List Indexed → Option ℕ
first_report_id state_at [] = None
first_report_id state_at (p ∷ ps) = (state_at p.0).report_id

-- The report that an item of direction d at k adds to: that with the id in force; without one, the
-- report of the first item of its direction that makes fields.
abbrev pub key : (ℕ → ItemState) → Direction → List ItemType → ℕ → Option ℕ
key state_at d items k = first_of (state_at k).report_id
    (first_report_id state_at (makers state_at d items k))

-- the items of direction d before k that add to this report
abbrev pub makers_of : (ℕ → ItemState) → Direction → Option ℕ → List ItemType → ℕ → List Indexed
makers_of state_at d id items k =
    filter (λ p. same_key (key state_at d items p.0) id) (makers state_at d items k)
