-- How Linux's hid-core (6.12) reads a descriptor: item by item, each refused or kept (Section 6.2.2).
use Rattle.std.specs.Prelude.{ℕ, zero, suc, ◌+◌, ◌*◌, ◌-◌, ◌%◌, ◌^◌, ◌==◌, min, nat_le, nat_lt, Bool, true}
use Rattle.std.specs.Prelude.{false, ◌&&◌, ◌||◌, not, if◌then◌else◌, List, [], ◌∷◌, ◌++◌, length, take, drop}
use Rattle.std.specs.Prelude.{Option, Some, None, is_some}
use Rattle.std.specs.List.{slice_index_or}
use Rattle.hidreport_fields.specs.declared.field.data_item.Direction.{Direction}
use Rattle.hidreport_fields.specs.declared.field.data_item.Direction.TheVariants as direction
use Rattle.hidreport_items.specs.Spelling.{data_length}
use Rattle.hidreport_linux.specs.Asking.{exponent_of}
use Rattle.hidreport_linux.specs.CoreFields.{if_field, with_order}
use Rattle.hidreport_linux.specs.CoreItems.{core_item, is_local}
use Rattle.hidreport_linux.specs.CoreKept.{ReadingRecord, nothing_kept, are_below, are_widest, maximum_by}
use Rattle.hidreport_linux.specs.CoreKept.{application_in_force, around_in_force, open_collection}
use Rattle.hidreport_linux.specs.CoreKept.{with_collection}
use Rattle.hidreport_linux.specs.CoreLocals.{behind_local, cuts_usages, local_doubt, local_refusal}
use Rattle.hidreport_linux.specs.CoreLocals.{no_locals}
use Rattle.hidreport_linux.specs.CoreReports.{report_at, with_data}
use Rattle.hidreport_linux.specs.CoreUsages.{first_usage, have}
use Rattle.hidreport_linux.specs.Types.{is_input_application}
use Rattle.hidreport_linux.specs.declared.driver.Driver.{Driver}
use Rattle.hidreport_linux.specs.declared.driver.Driver.TheVariants as driver
use Rattle.hidreport_linux.specs.declared.reading.core_globals.CoreGlobals.{CoreGlobals}
use Rattle.hidreport_linux.specs.declared.reading.core_item.CoreItem.{CoreItem}
use Rattle.hidreport_linux.specs.declared.reading.core_item.CoreItem.TheVariants as item
use Rattle.hidreport_linux.specs.declared.reading.reasons.DoubtReason.{DoubtReason}
use Rattle.hidreport_linux.specs.declared.reading.reasons.DoubtReason.TheVariants as doubt
use Rattle.hidreport_linux.specs.declared.reading.reasons.LeftOut.{LeftOut}
use Rattle.hidreport_linux.specs.declared.reading.reasons.LeftOut.TheVariants as left
use Rattle.hidreport_linux.specs.declared.reading.reasons.RefusalReason.{RefusalReason}
use Rattle.hidreport_linux.specs.declared.reading.reasons.RefusalReason.TheVariants as refusal
use Rattle.hidreport_linux.specs.declared.unmapped.Unmapped.{Unmapped}
use Rattle.hidreport_linux.specs.declared.unmapped.Unmapped.TheVariants as none

-- What is refused

abbrev pub when : Bool → RefusalReason → Option RefusalReason
when true reason = Some reason
when false reason = None

-- how many bits the elements of an item have
abbrev pub bits_of : CoreGlobals → ℕ
bits_of g = min (g.size * g.count) (2 ^ 32 - 1)

-- an item with data: a maximum below its minimum, or a report of more than 16,383 bytes
abbrev pub data_refusal : Direction → ReadingRecord → Option RefusalReason
data_refusal d r =
    if are_below r.globals then Some refusal.BelowMinimum
    else when (nat_lt 131064
    (min ((report_at d r.globals.id r.reports).bits + bits_of r.globals) (2 ^ 32 - 1)))
    refusal.LongReport

-- why an item is refused behind those before it
abbrev pub refusal_of : CoreItem → ReadingRecord → Option RefusalReason
refusal_of item.Long r = Some refusal.LongItem
refusal_of item.UnknownGlobal r = Some refusal.UnknownGlobal
refusal_of item.Push r = when (nat_le 4 (length r.pushed)) refusal.PastPushes
refusal_of item.Pop r = when (length r.pushed == 0) refusal.LonePop
refusal_of item.EndCollection r = when (length r.around == 0) refusal.LoneEnd
refusal_of (item.ReportSize bits) r = when (nat_lt 256 bits) refusal.PastBits
refusal_of (item.ReportCount count) r = when (nat_lt 12288 count) refusal.PastCount
refusal_of (item.ReportId id) r = when (id == 0 || nat_lt 255 id) refusal.NoId
refusal_of (item.Data d flags) r = data_refusal d r
refusal_of x r = local_refusal x r.locals

-- What is kept

-- the first of all refusals
abbrev pub refused : ℕ → RefusalReason → ReadingRecord → ReadingRecord
refused offset reason r =
    record r { refusal = Some (record { offset = offset; reason = reason }) }

-- one more doubt, of which the first is kept
abbrev pub with_doubt : ℕ → DoubtReason → ReadingRecord → ReadingRecord
with_doubt offset reason r =
    if is_some r.doubt then r
    else record r { doubt = Some (record { offset = offset; reason = reason }) }

-- something more that is left out, of which the first is kept
abbrev pub with_cut : ℕ → LeftOut → ReadingRecord → ReadingRecord
with_cut offset what r =
    if is_some r.left_out then r
    else record r { left_out = Some (record { offset = offset; what = what }) }

-- the globals are those before the last Push
abbrev pub behind_pop : ReadingRecord → ReadingRecord
behind_pop r = record r {
  globals = slice_index_or r.pushed (length r.pushed - 1) r.globals;
  pushed = take (length r.pushed - 1) r.pushed;
}

-- of collections of the page Sensors, but those behind a vivaldi's: the last item that asks for a
-- driver gets its own
abbrev pub driver_behind : ℕ → ReadingRecord → Option Driver
driver_behind kind r =
    if r.globals.page == 0xffd1 && have r.globals.page 0xffd10001 r.locals.usages then None
    else if nat_le kind 1 && r.globals.page == 0x20 then Some driver.SensorHub
    else r.driver

-- a collection is of its first usage; one of kind 1 is an application
abbrev pub behind_collection_of : ℕ → ℕ → ReadingRecord → ReadingRecord
behind_collection_of usage kind r = record r {
  around =
      r.around ++ with_collection (length r.collections) kind usage (around_in_force r) ∷ [];
  collections = r.collections
      ++ (record { parent = open_collection r; is_logical = kind == 2 }) ∷ [];
  applications =
      if kind == 1 && nat_lt r.applications 2 then r.applications + 1 else r.applications;
  has_input = r.has_input || (nat_le kind 1 && is_input_application usage);
  driver = driver_behind kind r;
  locals = no_locals;
}

abbrev pub behind_collection : ℕ → ReadingRecord → ReadingRecord
behind_collection kind r =
    behind_collection_of (first_usage r.globals.page r.locals.usages) kind r

abbrev pub behind_end : ReadingRecord → ReadingRecord
behind_end r = record r { around = take (length r.around - 1) r.around; locals = no_locals }

abbrev pub is_input : Direction → Bool
is_input direction.Input = true
is_input _ = false

abbrev pub is_feature : Direction → Bool
is_feature direction.Feature = true
is_feature _ = false

-- a Resolution Multiplier of the widest bounds
abbrev pub overflows : Direction → ReadingRecord → Bool
overflows d r = is_feature d
    && (are_widest r.globals && have r.globals.page 0x10048 r.locals.usages)

-- behind the elements of an item that names usages
abbrev pub behind_elements : ℕ → Direction → ReadingRecord → ReadingRecord
behind_elements offset d r = record r {
  has_items_without_bits = r.has_items_without_bits || r.globals.size == 0;
  overflow = if not (is_some r.overflow) && overflows d r then Some offset else r.overflow;
}

-- with and without an id there are reports
abbrev pub with_id : ReadingRecord → ReadingRecord
with_id r = record r {
  has_ids = r.has_ids || not (r.globals.id == 0);
  lacks_ids = r.lacks_ids || r.globals.id == 0;
}

abbrev pub if_both_ids : ℕ → ReadingRecord → ReadingRecord
if_both_ids offset r =
    if r.has_ids && r.lacks_ids then with_doubt offset doubt.LacksId r else r

abbrev pub behind_id : ℕ → ReadingRecord → ReadingRecord
behind_id offset r = if_both_ids offset (with_id r)

-- its report has one item more
abbrev pub with_report : Direction → ReadingRecord → ReadingRecord
with_report d r = record r {
  reports = with_data d r.globals.id (application_in_force r)
      (not (r.locals.usages.count == 0)) (bits_of r.globals) r.reports;
}

-- of a report 256 items that name usages are kept
abbrev pub if_past_items : ℕ → Direction → ReadingRecord → ReadingRecord
if_past_items offset d r =
    if nat_lt 256 (report_at d r.globals.id r.reports).items then with_cut offset left.Items r
    else r

-- a Contact Identifier in an input item with data asks for hid-multitouch
abbrev pub if_contact : Direction → ℕ → ReadingRecord → ReadingRecord
if_contact d flags r =
    if (is_input d && flags % 2 == 0) && have r.globals.page 0xd0051 r.locals.usages
    then record r { driver = Some driver.Multitouch }
    else r

abbrev pub if_elements : ℕ → Direction → ReadingRecord → ReadingRecord
if_elements offset d r =
    if not (r.locals.usages.count == 0) && nat_lt 0 r.globals.count
    then behind_elements offset d r
    else r

-- behind all that an item with data says
abbrev pub behind_parts : ℕ → Direction → ℕ → ReadingRecord → ReadingRecord
behind_parts offset d flags r = behind_id offset (if_field offset d flags (if_elements offset d
    (if_contact d flags (if_past_items offset d (with_report d (with_order d r))))))

-- behind an item with data
abbrev pub behind_data : ℕ → Direction → ℕ → ReadingRecord → ReadingRecord
behind_data offset d flags r =
    record (behind_parts offset d flags r) { locals = no_locals }

-- a doubt of a local item
abbrev pub with_doubt_of : ℕ → Option DoubtReason → ReadingRecord → ReadingRecord
with_doubt_of offset None r = r
with_doubt_of offset (Some reason) r = with_doubt offset reason r

abbrev pub if_cut : ℕ → CoreItem → ReadingRecord → ReadingRecord
if_cut offset x r = if cuts_usages x r.locals then with_cut offset left.Usages r else r

abbrev pub with_local : CoreItem → ReadingRecord → ReadingRecord
with_local x r = record r { locals = behind_local x r.globals.page r.locals }

abbrev pub behind_local_item : ℕ → CoreItem → ReadingRecord → ReadingRecord
behind_local_item offset x r =
    with_local x (if_cut offset x (with_doubt_of offset (local_doubt x r.locals) r))

-- these globals
abbrev pub with_globals : CoreGlobals → ReadingRecord → ReadingRecord
with_globals g r = record r { globals = g }

-- behind a Usage Page, whose number has 16 bits
abbrev pub behind_page : ℕ → ℕ → ReadingRecord → ReadingRecord
behind_page offset page r =
    if nat_lt 65535 page then with_doubt offset doubt.WidePage r
    else with_globals (record (r.globals) { page = page }) r

-- behind a main or a global item
abbrev pub behind_other : ℕ → CoreItem → ReadingRecord → ReadingRecord
behind_other offset item.Push r = record r { pushed = r.pushed ++ r.globals ∷ [] }
behind_other offset item.Pop r = behind_pop r
behind_other offset (item.Collection kind) r = behind_collection kind r
behind_other offset item.EndCollection r = behind_end r
behind_other offset (item.Data d flags) r = behind_data offset d flags r
behind_other offset item.UnknownMain r = record r { locals = no_locals }
behind_other offset (item.LogicalMinimum n) r =
    with_globals (record (r.globals) { minimum = n }) r
behind_other offset (item.LogicalMaximum n word) r =
    with_globals (record (r.globals) { maximum = maximum_by r.globals.minimum n word }) r
behind_other offset (item.PhysicalMinimum n) r =
    with_globals (record (r.globals) { physical_minimum = n }) r
behind_other offset (item.PhysicalMaximum n word) r =
    with_globals (record (r.globals) {
      physical_maximum = maximum_by r.globals.physical_minimum n word;
    }) r
behind_other offset (item.UnitExponent n) r =
    with_globals (record (r.globals) { exponent = exponent_of n }) r
behind_other offset (item.Unit n) r = with_globals (record (r.globals) { unit = n }) r
behind_other offset (item.ReportSize bits) r = with_globals (record (r.globals) { size = bits }) r
behind_other offset (item.ReportCount count) r =
    with_globals (record (r.globals) { count = count }) r
behind_other offset (item.ReportId id) r = with_globals (record (r.globals) { id = id }) r
behind_other offset (item.UsagePage page) r = behind_page offset page r
behind_other offset _ r = r

-- behind an item that isn't refused
abbrev pub behind : ℕ → CoreItem → ReadingRecord → ReadingRecord
behind offset x r =
    if is_local x then behind_local_item offset x r else behind_other offset x r

-- What is read

-- behind the last item: a collection or a set of usages that isn't closed
abbrev pub ended : ℕ → ReadingRecord → ReadingRecord
ended offset r =
    if not (length r.around == 0) then refused offset refusal.OpenCollection r
    else if r.locals.is_in_set then refused offset refusal.OpenSet r
    else r

-- an item that is refused is the last
abbrev pub unless_refused : Option RefusalReason → ℕ → ReadingRecord → ReadingRecord → ReadingRecord
unless_refused (Some reason) offset r next = refused offset reason r
unless_refused None offset r next = next

-- at most so many items of these bytes, which are the last of so many
abbrev pub read_all : ℕ → ℕ → List ℕ → ReadingRecord → ReadingRecord
read_all zero total bytes r = ended total r
read_all (suc n) total [] r = ended total r
read_all (suc n) total (h ∷ bs) r =
    if nat_lt (length bs) (data_length h)
    then refused (total - length (h ∷ bs)) refusal.CutShort r
    else unless_refused (refusal_of (core_item h (take (data_length h) bs)) r)
    (total - length (h ∷ bs)) r (read_all n total (drop (data_length h) bs)
    (behind (total - length (h ∷ bs)) (core_item h (take (data_length h) bs)) r))

-- what hid-core reads in a descriptor
abbrev pub linux_reading : List ℕ → ReadingRecord
linux_reading [] = refused 0 refusal.NoItem nothing_kept
linux_reading (b ∷ bs) =
    read_all (length (b ∷ bs)) (length (b ∷ bs)) (b ∷ bs) nothing_kept

-- why no usage of the descriptor has an event, where none has
abbrev pub unmapped_in : ReadingRecord → Option Unmapped
unmapped_in r =
    if is_some r.refusal then Some none.Refused
    else if is_some r.doubt then Some none.NotKnown
    else if r.has_input then None
    else Some none.NoInput
