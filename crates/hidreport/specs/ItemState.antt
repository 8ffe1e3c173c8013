-- Values in force (Sections 6.2.2.7 and 6.2.2.8): globals stay until they are set again, locals end
-- with the next main item; both only as far as they are visible.
use Rattle.std.specs.Prelude.{ℕ, ℤ, nat_lt, ◌&&◌, not, List, [], ◌∷◌, filter, filter_map, Option}
use Rattle.std.specs.Prelude.{None, Some, option_map, map}
use Rattle.std.specs.List.{list_any}
use Rattle.hidreport_items.specs.declared.item.ItemType.{ItemType}
use Rattle.hidreport_items.specs.declared.local.LocalItem.{LocalItem}
use Rattle.hidreport.specs.Kinds.{Indexed, is_main, local_of, usage_page_of, logical_minimum_of}
use Rattle.hidreport.specs.Kinds.{logical_maximum_of, physical_minimum_of, physical_maximum_of}
use Rattle.hidreport.specs.Kinds.{unit_exponent_of, unit_of, report_size_of, report_id_of}
use Rattle.hidreport.specs.Kinds.{report_count_of}
use Rattle.hidreport.specs.Visibility.{before, visible}
use Rattle.hidreport.specs.declared.parser.paged_local.PagedLocal.{PagedLocal}
use Rattle.hidreport.specs.declared.parser.usages_by.UsagesBy.{UsagesBy}

-- the first of two values that is there
abbrev pub first_of : {A : Type 0} → Option A → Option A → Option A
first_of (Some x) second = Some x
first_of None second = second

-- the value that the last item with this tag sets
abbrev pub last_value : {A : Type 0} → (ItemType → Option A) → List Indexed → Option A
last_value tag [] = None
last_value tag (p ∷ ps) = first_of (last_value tag ps) (tag p.1)

-- a local item with the usage page in force where it stands
abbrev pub with_page : Option ℕ → LocalItem → PagedLocal
with_page page x = record { page = page; item = x }

-- the same of an item, where it is a local one
abbrev pub paged_local : Option ℕ → ItemType → Option PagedLocal
paged_local page x = option_map (with_page page) (local_of x)

-- the local items behind the last main item, each with the page where it stands
abbrev pub unended_locals : (ℕ → Option ℕ) → List Indexed → List PagedLocal
unended_locals page ps = filter_map (λ p. paged_local (page p.0) p.1)
    (filter (λ p. not (list_any (λ q. is_main q.1 && nat_lt p.0 q.0) ps)) ps)

-- the value of a global item at k
abbrev pub global : {A : Type 0} → (ItemType → Option A) → List ItemType → ℕ → Option A
global tag items k = last_value tag (visible items k)

-- the local items at k: no visible main item stands between them and k
abbrev pub locals : List ItemType → ℕ → List PagedLocal
locals items k = unended_locals (global usage_page_of items) (visible items k)

-- the same where a Push is of globals alone: no main item stands between them and k, whatever Push
-- and Pop do
abbrev pub locals_globals_only : List ItemType → ℕ → List PagedLocal
locals_globals_only items k = unended_locals (global usage_page_of items) (before items k)

-- the local items alone
abbrev pub local_items : List PagedLocal → List LocalItem
local_items ls = map (λ l. l.item) ls

-- all that is in force at an index, and by which rule an item finds its usages in it, which is the
-- same at each
pub record ItemState : Type 0 where
  pub usage_page : Option ℕ
  pub logical_minimum : Option ℤ
  pub logical_maximum : Option ℤ
  pub physical_minimum : Option ℤ
  pub physical_maximum : Option ℤ
  pub unit_exponent : Option ℤ
  pub unit : Option ℕ
  pub report_size : Option ℕ
  pub report_id : Option ℕ
  pub report_count : Option ℕ
  pub locals : List PagedLocal
  pub usages_by : UsagesBy

-- what is in force at k
abbrev pub item_state : UsagesBy → List ItemType → ℕ → ItemState
item_state by items k = record {
  usage_page = global usage_page_of items k;
  logical_minimum = global logical_minimum_of items k;
  logical_maximum = global logical_maximum_of items k;
  physical_minimum = global physical_minimum_of items k;
  physical_maximum = global physical_maximum_of items k;
  unit_exponent = global unit_exponent_of items k;
  unit = global unit_of items k;
  report_size = global report_size_of items k;
  report_id = global report_id_of items k;
  report_count = global report_count_of items k;
  locals = locals items k;
  usages_by = by;
}

-- what is in force at k where a Push is of globals alone
abbrev pub item_state_globals_only : UsagesBy → List ItemType → ℕ → ItemState
item_state_globals_only by items k = record
    (item_state by items k) { locals = locals_globals_only items k }
