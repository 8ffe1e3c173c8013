-- The local items that wait for their main item, as Linux's hid-core keeps them (Section 6.2.2.8).
use Rattle.std.specs.Prelude.{ℕ, ◌+◌, ◌-◌, ◌%◌, ◌^◌, ◌==◌, min, nat_le, nat_lt, Bool, true, false, ◌&&◌, not}
use Rattle.std.specs.Prelude.{if◌then◌else◌, Option, Some, None}
use Rattle.hidreport_linux.specs.CoreUsages.{UsagesRecord, no_usages, named_by, with_usages}
use Rattle.hidreport_linux.specs.declared.reading.core_item.CoreItem.{CoreItem}
use Rattle.hidreport_linux.specs.declared.reading.core_item.CoreItem.TheVariants as item
use Rattle.hidreport_linux.specs.declared.reading.reasons.DoubtReason.{DoubtReason}
use Rattle.hidreport_linux.specs.declared.reading.reasons.DoubtReason.TheVariants as doubt
use Rattle.hidreport_linux.specs.declared.reading.reasons.RefusalReason.{RefusalReason}
use Rattle.hidreport_linux.specs.declared.reading.reasons.RefusalReason.TheVariants as refusal

-- the usages, the last minimum, whether a set of usages is open, and how many were opened; how many
-- usages behind the last are left out, since no more are kept
pub record LocalsRecord : Type 0 where
  pub usages : UsagesRecord
  pub minimum : ℕ
  pub is_in_set : Bool
  pub sets : ℕ
  pub left_out : ℕ

-- behind a main item
abbrev pub no_locals : LocalsRecord
no_locals = record {
  usages = no_usages;
  minimum = 0;
  is_in_set = false;
  sets = 0;
  left_out = 0;
}

-- of alternatives the first set counts: usages of others are left out
abbrev pub is_past_set : LocalsRecord → Bool
is_past_set l = nat_lt 1 l.sets

-- hid-core keeps so many usages of an item
abbrev pub most_usages : ℕ
most_usages = 12288

abbrev pub is_full : LocalsRecord → Bool
is_full l = nat_le most_usages l.usages.count

-- A maximum is past the usages that are kept where it and those before it are more, by 32 bits: one
-- below the minimum is so, too.
abbrev pub is_past : ℕ → ℕ → ℕ → Bool
is_past minimum number known =
    nat_le most_usages ((number + 2 ^ 32 - minimum + known) % 2 ^ 32)

-- the last usage of a range: the maximum, or the last one that is kept, by 32 bits
abbrev pub range_last : ℕ → ℕ → ℕ → ℕ
range_last minimum number known =
    if is_past minimum number known
    then (most_usages + (2 ^ 32 - 1) - known + minimum) % 2 ^ 32
    else number

-- how many numbers there are from one to another
abbrev pub range_count : ℕ → ℕ → ℕ
range_count first last = if nat_le first last then last - first + 1 else 0

-- a maximum of which no usage fits, or of which all bits are set
abbrev pub maximum_refusal_by : ℕ → ℕ → ℕ → ℕ → Option RefusalReason
maximum_refusal_by minimum number known last =
    if is_past minimum number known && last == 0 then Some refusal.NoneFits
    else if last == 2 ^ 32 - 1 then Some refusal.AllBits
    else if nat_lt most_usages (range_count minimum last + known) then Some refusal.PastUsages
    else None

abbrev pub maximum_refusal : ℕ → LocalsRecord → Option RefusalReason
maximum_refusal number l = maximum_refusal_by l.minimum number l.usages.count
    (range_last l.minimum number l.usages.count)

-- a Delimiter within a set, or that ends none
abbrev pub is_odd : Bool → Bool → Bool
is_odd true within = within
is_odd false within = not within

-- why a local item is refused
abbrev pub local_refusal : CoreItem → LocalsRecord → Option RefusalReason
local_refusal (item.Delimiter opens) l =
    if is_odd opens l.is_in_set then Some refusal.OddDelimiter else None
local_refusal (item.Usage number has_page) l =
    if not (is_past_set l) && is_full l then Some refusal.PastUsages else None
local_refusal (item.UsageMaximum number has_page) l =
    if is_past_set l then None else maximum_refusal number l
local_refusal _ l = None

-- why a maximum may name other usages
abbrev pub maximum_doubt : ℕ → ℕ → Bool → Option DoubtReason
maximum_doubt minimum number has_page =
    if nat_lt number minimum then Some doubt.BelowUsageMinimum
    else if has_page && nat_lt number 65536 then Some doubt.LackedPage
    else None

-- why a local item may name other usages
abbrev pub local_doubt : CoreItem → LocalsRecord → Option DoubtReason
local_doubt (item.UsageMaximum number has_page) l =
    if is_past_set l then None else maximum_doubt l.minimum number has_page
local_doubt _ l = None

-- usages of it are left out, since there are as many as are kept
abbrev pub cuts_usages : CoreItem → LocalsRecord → Bool
cuts_usages (item.UsageMaximum number has_page) l = not (is_past_set l)
    && (is_past l.minimum number l.usages.count && nat_le l.minimum number)
cuts_usages _ l = false

-- behind a Delimiter
abbrev pub with_delimiter : Bool → LocalsRecord → LocalsRecord
with_delimiter true l = record l { is_in_set = true; sets = min (l.sets + 1) (2 ^ 32 - 1) }
with_delimiter false l = record l { is_in_set = false }

-- behind all usages from the minimum up to a number, behind which so many are left out
abbrev pub behind_range : ℕ → ℕ → Bool → ℕ → LocalsRecord → LocalsRecord
behind_range last left_out has_page page l =
    if nat_lt last l.minimum then l
    else record l {
      usages = with_usages (named_by l.minimum last has_page page)
          (min (last - l.minimum + 1) (2 ^ 32 - 1)) l.usages;
      left_out = left_out;
    }

-- behind a maximum, of whose usages those are left out that don't fit
abbrev pub behind_maximum : ℕ → Bool → ℕ → LocalsRecord → LocalsRecord
behind_maximum number has_page page l =
    behind_range (range_last l.minimum number l.usages.count)
    (number - range_last l.minimum number l.usages.count) has_page page l

-- behind a usage or one of their bounds, with this page in force
abbrev pub named_behind : CoreItem → ℕ → LocalsRecord → LocalsRecord
named_behind (item.Usage number has_page) page l =
    record l { usages = with_usages (named_by number number has_page page) 1 l.usages }
named_behind (item.UsageMinimum number) page l = record l { minimum = number }
named_behind (item.UsageMaximum number has_page) page l = behind_maximum number has_page page l
named_behind _ page l = l

-- behind a local item, with this page in force
abbrev pub behind_local : CoreItem → ℕ → LocalsRecord → LocalsRecord
behind_local (item.Delimiter opens) page l = with_delimiter opens l
behind_local x page l = if is_past_set l then l else named_behind x page l
