-- The parser's usages of an item.
use Rattle.std.specs.Prelude.{◌≡◌, ℕ, ◌<◌, ◌+◌, ◌-◌, true, false, if◌then◌else◌, length, map, List}
use Rattle.std.specs.Prelude.{Option, None, Ok, [], flat_map, unwrap_or}
use Rattle.hidreport_items.specs.Flags.{Flags}
use Rattle.hidreport.specs.Faults.{needed_usages_fault}
use Rattle.hidreport.specs.HostUsages.{host_spans, span_usages}
use Rattle.hidreport.specs.ItemState.{ItemState}
use Rattle.hidreport.specs.MeaningFault.{MeaningFault}
use Rattle.hidreport.specs.Parser.Locals.{usage_under}
use Rattle.hidreport.specs.Usages.{UsageList, usages_of}
use Rattle.hidreport_fields.specs.UsageRange.{range_from}
use Rattle.hidreport_fields.specs.declared.field.usage.Usage.{Usage}
use Rattle.hidreport.specs.declared.parser.local_usages.LocalUsage.{LocalUsage}
use Rattle.hidreport.specs.declared.parser.usage_bounds.UsageBounds.{UsageBounds}
use Rattle.hidreport.specs.declared.parser.usage_span.UsageSpan.{UsageSpan}
use Rattle.hidreport.specs.declared.parser.usages_by.UsagesBy.{UsagesBy}
use Rattle.hidreport.specs.declared.parser.usages_by.UsagesBy.TheVariants as usages_by
use Rattle.hidreport.specs.declared.parser.usages.Usages.{Usages}
use Rattle.hidreport.specs.declared.parser.usages.Usages.TheVariants as usages

-- those from a minimum to a maximum
abbrev pub between : UsageBounds → List Usage
between b = range_from b.page b.minimum (b.maximum + 1 - b.minimum)

-- the usages as the definition has them: of a range, single ones, those of spans
abbrev pub ranged : UsageBounds → UsageList
ranged bounds = record { usages = between bounds; is_range = true }

abbrev pub singles : ℕ → List LocalUsage → UsageList
singles page us = record { usages = map (usage_under page) us; is_range = false }

abbrev pub spanned : List UsageSpan → UsageList
spanned ss = record { usages = flat_map span_usages ss; is_range = false }

abbrev pub usage_list : Usages → UsageList
usage_list (usages.Range bounds) = ranged bounds
usage_list (usages.Single page us) = singles page us.now
usage_list (usages.Spans ss) = spanned ss.now

-- the spans of usages that an item has as hosts read them
abbrev pub spans_by : UsagesBy → ItemState → List UsageSpan
spans_by usages_by.Standard state = []
spans_by usages_by.Hosts state = host_spans (unwrap_or state.usage_page 0) state.locals

-- the spans of usages in force, by the rule in force
abbrev pub spans_in : ItemState → List UsageSpan
spans_in state = spans_by state.usages_by state

-- the fault of a data item's usages; a constant item has none
abbrev pub usages_fault : Flags → ItemState → Option MeaningFault
usages_fault flags state = if flags.constant then None else needed_usages_fault (usages_of state)

-- the usages of a data item that needs some; padding needs none
abbrev pub HasUsages : Flags → ItemState → Usages → Type 0
HasUsages flags state us = flags.constant ≡ false
    → (usages_of state ≡ Ok (usage_list us)) × (0 < length (usage_list us).usages)
