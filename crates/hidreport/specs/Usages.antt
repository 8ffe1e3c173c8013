-- Usages of an item (Section 6.2.2.8): a range from a minimum to a maximum, or single usages.
use Rattle.std.specs.Prelude.{ℕ, ◌+◌, ◌-◌, Bool, true, false, List, [], ◌∷◌, Option}
use Rattle.std.specs.Prelude.{None, Some, Result, Ok, Err, flat_map, unwrap_or}
use Rattle.hidreport_items.specs.declared.local.LocalItem.{LocalItem}
use Rattle.hidreport_items.specs.declared.local.LocalItem.TheVariants as local
use Rattle.hidreport.specs.HostUsages.{host_spans, is_lone, span_usages}
use Rattle.hidreport.specs.ItemState.{ItemState, first_of, local_items}
use Rattle.hidreport.specs.MeaningFault.{MeaningFault, MissingUsageMaximum, MissingUsagePage}
use Rattle.hidreport_fields.specs.declared.field.usage.Usage.{Usage}
use Rattle.hidreport.specs.declared.parser.paged_local.PagedLocal.{PagedLocal}
use Rattle.hidreport.specs.declared.parser.usage_span.UsageSpan.{UsageSpan}
use Rattle.hidreport.specs.declared.parser.usages_by.UsagesBy.{UsagesBy}
use Rattle.hidreport.specs.declared.parser.usages_by.UsagesBy.TheVariants as usages_by
pub use Rattle.hidreport_fields.specs.UsageRange.{make_usage, range_from}

-- an item's usages, in order, and whether they are those of a range
pub record UsageList : Type 0 where
  pub usages : List Usage
  pub is_range : Bool

-- the usage minimum that a local item sets: of `19 01` 1
abbrev pub minimum_of : LocalItem → Option ℕ
minimum_of (local.UsageMinimum n) = Some n
minimum_of _ = None

-- the usage maximum: of `29 03` 3
abbrev pub maximum_of : LocalItem → Option ℕ
maximum_of (local.UsageMaximum n) = Some n
maximum_of _ = None

-- the value that the last local item with this tag sets
abbrev pub last_local : (LocalItem → Option ℕ) → List LocalItem → Option ℕ
last_local tag [] = None
last_local tag (x ∷ xs) = first_of (last_local tag xs) (tag x)

-- a usage before others, unless these have a fault
abbrev pub before_usages : Usage → Result (List Usage) MeaningFault
    → Result (List Usage) MeaningFault
before_usages u (Ok us) = Ok (u ∷ us)
before_usages u (Err fault) = Err fault

-- a usage on the page in force before others; without a page a fault
abbrev pub on_page : Option ℕ → ℕ → Result (List Usage) MeaningFault
    → Result (List Usage) MeaningFault
on_page None id us = Err MissingUsagePage
on_page (Some page) id us = before_usages (make_usage page id) us

-- the single usages; one without its own page takes the page in force
abbrev pub single_usages : Option ℕ → List LocalItem → Result (List Usage) MeaningFault
single_usages page [] = Ok []
single_usages page (local.Usage own id ∷ xs) =
    before_usages (make_usage own id) (single_usages page xs)
single_usages page (local.UsageId id ∷ xs) = on_page page id (single_usages page xs)
single_usages page (x ∷ xs) = single_usages page xs

-- a range needs its maximum, and then a page
abbrev pub range_usages : ℕ → Option ℕ → Option ℕ → Result UsageList MeaningFault
range_usages low None page = Err MissingUsageMaximum
range_usages low (Some high) None = Err MissingUsagePage
range_usages low (Some high) (Some page) =
    Ok (record { usages = range_from page low (high + 1 - low); is_range = true })

-- usages that are no range
abbrev pub as_single : Result (List Usage) MeaningFault → Result UsageList MeaningFault
as_single (Ok us) = Ok (record { usages = us; is_range = false })
as_single (Err fault) = Err fault

-- with a minimum in force the range, and else the single usages
abbrev pub usages_with : Option ℕ → Option ℕ → List LocalItem → Result UsageList MeaningFault
usages_with (Some low) page xs = range_usages low (last_local maximum_of xs) page
usages_with None page xs = as_single (single_usages page xs)

-- by the letter of the standard: the page in force at the main item counts for all
abbrev pub standard_usages : Option ℕ → List LocalItem → Result UsageList MeaningFault
standard_usages page xs = usages_with (last_local minimum_of xs) page xs

-- the usages of spans, one after the other
abbrev pub usages_of_spans : List UsageSpan → UsageList
usages_of_spans ss = record { usages = flat_map span_usages ss; is_range = is_lone ss }

-- as hosts read them
abbrev pub host_usages : Option ℕ → List PagedLocal → UsageList
host_usages page ls = usages_of_spans (host_spans (unwrap_or page 0) ls)

-- the usages in force by a rule: that of the standard, or that of hosts
abbrev pub usages_under : UsagesBy → ItemState → Result UsageList MeaningFault
usages_under usages_by.Standard state = standard_usages state.usage_page (local_items state.locals)
usages_under usages_by.Hosts state = Ok (host_usages state.usage_page state.locals)

-- the usages that what is in force gives an item, or their fault
abbrev pub usages_of : ItemState → Result UsageList MeaningFault
usages_of state = usages_under state.usages_by state
