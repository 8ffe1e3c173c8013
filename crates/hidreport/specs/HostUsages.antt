-- Usages as hosts read them (Section 6.2.2.8, as Linux's hid-core has it): the local items name
-- usages one after the other, all of which count.
use Rattle.std.specs.Prelude.{ℕ, ◌+◌, ◌-◌, ◌*◌, ◌/◌, ◌%◌, ◌==◌, nat_lt, zero, suc, Bool, true, false}
use Rattle.std.specs.Prelude.{◌&&◌, ◌||◌, not, if◌then◌else◌, List, [], ◌∷◌, ◌++◌, unwrap_or, Option}
use Rattle.std.specs.Prelude.{None, Some, option_to_list}
use Rattle.std.specs.List.{list_any}
use Rattle.hidreport_items.specs.declared.local.LocalItem.{LocalItem}
use Rattle.hidreport_items.specs.declared.local.LocalItem.TheVariants as local
use Rattle.hidreport_fields.specs.declared.field.usage.Usage.{Usage}
use Rattle.hidreport.specs.declared.parser.paged_local.PagedLocal.{PagedLocal}
use Rattle.hidreport.specs.declared.parser.usage_span.UsageSpan.{UsageSpan}

-- a Delimiter that opens a set of usages
abbrev pub opens_set : LocalItem → Bool
opens_set (local.Delimiter n) = not (n == 0)
opens_set _ = false

-- the local items before the second set, where one was opened before them or not: of alternatives
-- the first ones count
abbrev pub first_set : Bool → List PagedLocal → List PagedLocal
first_set opened [] = []
first_set opened (l ∷ ls) =
    if opened && opens_set l.item then [] else l ∷ first_set (opened || opens_set l.item) ls

-- the usages from a number to another: a number that 16 bits hold is an id on this page, another
-- one has its page above these bits
abbrev pub span_to : ℕ → ℕ → ℕ → Bool → UsageSpan
span_to page low high is_range = record {
  page = page;
  first = low;
  last = high;
  is_short = nat_lt high 65536;
  is_range = is_range;
}

-- a usage with a page of its own
abbrev pub own_span : ℕ → ℕ → UsageSpan
own_span page id = record {
  page = 0;
  first = page * 65536 + id;
  last = page * 65536 + id;
  is_short = false;
  is_range = false;
}

-- what a local item names, where this is the page and this the minimum in force: a maximum all
-- usages from the minimum on
abbrev pub span_of : ℕ → ℕ → LocalItem → Option UsageSpan
span_of page low (local.Usage own id) = Some (own_span own id)
span_of page low (local.UsageId id) = Some (span_to page id id false)
span_of page low (local.UsageMaximum high) = Some (span_to page low high true)
span_of page low _ = None

-- the minimum in force behind a local item
abbrev pub minimum_behind : ℕ → LocalItem → ℕ
minimum_behind low (local.UsageMinimum n) = n
minimum_behind low _ = low

-- what the local items name, where this is the minimum in force before them; without a page in
-- force it is page 0
abbrev pub spans : ℕ → List PagedLocal → List UsageSpan
spans low [] = []
spans low (l ∷ ls) = option_to_list (span_of (unwrap_or l.page 0) low l.item)
    ++ spans (minimum_behind low l.item) ls

-- it names a usage, without a page of its own, on this page
abbrev pub lies_on : ℕ → UsageSpan → Bool
lies_on page s = (s.is_short && s.page == page) && not (nat_lt s.last s.first)

-- on the page in force at the main item, where it has none of its own
abbrev pub moved_to : ℕ → UsageSpan → UsageSpan
moved_to page s = if s.is_short then record s { page = page } else s

-- The page in force at the main item is that of the usages behind the last one that lies on it
-- already: a usage without a page of its own is moved there, unless one behind it lies there.
abbrev pub completed : ℕ → List UsageSpan → List UsageSpan
completed page [] = []
completed page (s ∷ ss) =
    (if list_any (lies_on page) ss then s else moved_to page s) ∷ completed page ss

-- what the local items name at a main item with this page in force
abbrev pub host_spans : ℕ → List PagedLocal → List UsageSpan
host_spans page ls = completed page (spans 0 (first_set false ls))

-- the usage with this number
abbrev pub span_usage : UsageSpan → ℕ → Usage
span_usage s n = record {
  usage_page = if s.is_short then s.page else n / 65536;
  usage_id = n % 65536;
}

-- so many usages from a number on
abbrev pub usages_from : UsageSpan → ℕ → ℕ → List Usage
usages_from s n zero = []
usages_from s n (suc more) = span_usage s n ∷ usages_from s (n + 1) more

-- its usages, from the first number to the last; none where the last is below the first
abbrev pub span_usages : UsageSpan → List Usage
span_usages s = usages_from s s.first (s.last + 1 - s.first)

-- all lie on one page
abbrev pub is_on_one_page : UsageSpan → Bool
is_on_one_page s = s.is_short || (s.first / 65536 == s.last / 65536)

-- a maximum alone named the usages, all on one page
abbrev pub is_lone : List UsageSpan → Bool
is_lone (s ∷ []) = s.is_range && is_on_one_page s
is_lone _ = false
