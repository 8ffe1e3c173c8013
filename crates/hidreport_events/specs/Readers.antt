-- The reports of a device, one after the other (hid_input_report of Linux 6.12).
use Rattle.std.specs.Prelude.{◌≡◌, ℕ, ℤ, Bool, true, false, ◌+◌, ◌-◌, ◌^◌, ◌==◌, ◌&&◌, ◌||◌, ◌⊎◌, is_some, min, nat_lt, not}
use Rattle.std.specs.Prelude.{if◌then◌else◌, List, [], ◌∷◌, drop, find, length, slice_get, unwrap_or}
use Rattle.std.specs.Prelude.{Option, Some, None, Result, Ok, Err, unsigned_abs}
use Rattle.std.specs.Int.{div_ceil}
use Rattle.std.specs.List.{slice_index_or, slice_set}
use Rattle.std.specs.Option.{option_and_then}
use Rattle.hidreport_events.specs.Fields.{kept_value}
use Rattle.hidreport_events.specs.Lamps.{behind_events}
use Rattle.hidreport_events.specs.Reports.{behind_all, own_sources, own_values, part, values_behind}
use Rattle.hidreport_events.specs.Reports.{values_in}
use Rattle.hidreport_events.specs.Senders.{SenderRecord, new_sender, no_tool_near, tool_in}
use Rattle.hidreport_events.specs.Senders.{without_sent}
use Rattle.hidreport_events.specs.declared.errors.EventsError.{EventsError}
use Rattle.hidreport_events.specs.declared.errors.EventsError.TheVariants as why
use Rattle.hidreport_events.specs.declared.event_field.EventField.{EventField}
use Rattle.hidreport_events.specs.declared.event_reader.ReportEvents.{ReportEvents}
use Rattle.hidreport_events.specs.declared.event_report.EventReport.{EventReport}
use Rattle.hidreport_events.specs.declared.input_event.InputEvent.{InputEvent}
use Rattle.hidreport_events.specs.declared.sender.Tool.{Tool}
use Rattle.hidreport_events.specs.declared.lamp.Lamp.{Lamp}
use Rattle.hidreport_events.specs.declared.source.Source.{Source}
use Rattle.hidreport_linux.specs.CoreKept.{ReadingRecord}
use Rattle.hidreport_linux.specs.declared.driver.Driver.{Driver}
use Rattle.hidreport_linux.specs.declared.event.Event.{Event}
use Rattle.hidreport_linux.specs.declared.wanted.Role.{Role}
use Rattle.hidreport_linux.specs.declared.wanted.Role.TheVariants as role

-- Whether reports have ids; the input reports, their fields, and what these send; the input devices;
-- of each report the tool that is near; all values that are held; the lamps of output reports;
-- whether memory was refused.
pub record ReaderRecord : Type 0 where
  pub has_ids : Bool
  pub reports : List EventReport
  pub fields : List EventField
  pub sources : List Source
  pub senders : List SenderRecord
  pub tools : List Tool
  pub values : List ℤ
  pub lamps : List Lamp
  pub is_lost : Bool

-- it isn't known how Linux reads a descriptor: it refuses it, may read it otherwise, or stops at it
abbrev pub is_doubtful : ReadingRecord → Bool
is_doubtful r = is_some r.refusal || (is_some r.doubt || is_some r.overflow)

-- the answer is that this driver takes the device
abbrev pub IsDrivenBy : {A : Type 0} → Result A EventsError → Driver → Type 0
IsDrivenBy result driver = result ≡ Err (why.OtherDriver driver)

-- Which report bytes are of

abbrev pub id_size : ReaderRecord → ℕ
id_size r = if r.has_ids then 1 else 0

abbrev pub report_with : ℕ → List EventReport → Option EventReport
report_with id reports = find (λ (report : EventReport). report.id == id) reports

-- how many bytes a report has, with its id
abbrev pub wanted_for : EventReport → ReaderRecord → ℕ
wanted_for report r = min (div_ceil report.bits 8 + id_size r) (2 ^ 64 - 1)

-- a report, where there are enough bytes of it
unfoldable pub whole : EventReport → ℕ → ReaderRecord → Result EventReport EventsError
whole report given r =
    if nat_lt given (wanted_for report r) then Err (why.TooShort (wanted_for report r) given)
    else Ok report

abbrev pub whole_if : Option EventReport → ℕ → ReaderRecord → Result EventReport EventsError
whole_if None given r = Err why.NoReport
whole_if (Some report) given r = whole report given r

abbrev pub report_of : List ℕ → ReaderRecord → Result EventReport EventsError
report_of [] r = Err why.NoReport
report_of (b ∷ bs) r =
    whole_if (report_with (if r.has_ids then b else 0) r.reports) (length (b ∷ bs)) r

-- the report that bytes are of: that of their first byte, where reports have ids, and whole
unfoldable pub report_in : ReaderRecord → List ℕ → Result EventReport EventsError
report_in r bytes = if r.is_lost then Err why.Lost else report_of bytes r

-- What turns a volume too far

abbrev pub turns_role : Role → Bool
turns_role role.Volume = true
turns_role _ = false

abbrev pub turns_event : Option Event → Bool
turns_event None = false
turns_event (Some event) = turns_role event.role

unfoldable pub is_volume : Source → Bool
is_volume source = turns_event source.event

-- how many steps a value is that is kept
unfoldable pub steps_kept : Option ℤ → ℕ
steps_kept None = 0
steps_kept (Some value) = unsigned_abs value

abbrev pub steps_by : Option Source → EventField → ℤ → ℕ
steps_by None f value = 0
steps_by (Some source) f value =
    if f.is_variable && is_volume source then steps_kept (kept_value f value) else 0

-- by how many steps an element turns a volume
unfoldable pub steps_of : EventField → List Source → ℕ → ℤ → ℕ
steps_of f sources index value = steps_by (slice_get sources index) f value

-- how many of so many steps are left behind the elements from an index on, if they are enough
abbrev pub steps_from : ℕ → EventField → List Source → List ℤ → ℕ → Option ℕ
steps_from index f sources [] left = Some left
steps_from index f sources (value ∷ values) left =
    if nat_lt left (steps_of f sources index value) then None
    else steps_from (index + 1) f sources values (left - steps_of f sources index value)

unfoldable pub steps_left : EventField → List Source → List ℤ → ℕ → Option ℕ
steps_left f sources values left =
    steps_from 0 f (own_sources f sources) (own_values f values) left

-- behind those of fields, one after the other
abbrev pub steps_left_by : List EventField → List Source → List ℤ → ℕ → Option ℕ
steps_left_by [] sources values left = Some left
steps_left_by (f ∷ fs) sources values left =
    option_and_then (steps_left_by fs sources values) (steps_left f sources values left)

-- the fields and the values of a report
abbrev pub fields_of : EventReport → ReaderRecord → List EventField
fields_of report r = part report.first_field report.fields r.fields

abbrev pub values_of : EventReport → ReaderRecord → List ℤ
values_of report r = part report.first_value report.values r.values

-- its values turn volumes by more than 4,096 steps
abbrev pub turns_too_far : EventReport → List ℤ → ReaderRecord → Bool
turns_too_far report values r =
    not (is_some (steps_left_by (fields_of report r) r.sources values 4096))

-- What is sent, and what is held behind it

abbrev pub tool_of : EventReport → ReaderRecord → Tool
tool_of report r = unwrap_or (slice_get r.tools report.index) no_tool_near

-- the input device of a report
abbrev pub sender_of : EventReport → ReaderRecord → SenderRecord
sender_of report r = slice_index_or r.senders report.device new_sender

abbrev pub has_sender : EventReport → ReaderRecord → Bool
has_sender report r = nat_lt report.device (length r.senders)

-- the input device behind a report with these values
abbrev pub behind_values : EventReport → List ℤ → ReaderRecord → SenderRecord
behind_values report values r =
    behind_all (tool_of report r) (fields_of report r) r.sources (values_of report r) values
    (sender_of report r)

unfoldable pub behind_sending : EventReport → List ℤ → ReaderRecord → ReaderRecord
behind_sending report values r =
    if has_sender report r then
    record r { senders = slice_set r.senders report.device (behind_values report values r) }
    else r

-- what the input device handed on
abbrev pub sent_in : EventReport → ReaderRecord → List InputEvent
sent_in report r = if has_sender report r then (sender_of report r).sent else []

abbrev pub with_tool_of : EventReport → ReaderRecord → ReaderRecord
with_tool_of report r =
    if nat_lt report.index (length r.tools) then
    record r { tools = slice_set r.tools report.index (tool_in (sender_of report r)) }
    else r

abbrev pub forgetting : EventReport → ReaderRecord → ReaderRecord
forgetting report r = record r {
  senders = slice_set r.senders report.device (without_sent (sender_of report r));
}

-- the tool is held, and what was handed on is forgotten
unfoldable pub behind_sent : EventReport → ReaderRecord → ReaderRecord
behind_sent report r =
    if has_sender report r then forgetting report (with_tool_of report r) else r

-- a value at an index, if there is one
unfoldable pub put_at : ℕ → ℤ → List ℤ → List ℤ
put_at index value values =
    if nat_lt index (length values) then slice_set values index value else values

-- values in the place of those from one on
abbrev pub held_from : ℕ → List ℤ → List ℤ → List ℤ
held_from index [] values = values
held_from index (v ∷ vs) values =
    held_from (min (index + 1) (2 ^ 64 - 1)) vs (put_at index v values)

-- the values that are held behind a report
abbrev pub kept_of : EventReport → List ℤ → ReaderRecord → List ℤ
kept_of report values r =
    values_behind (fields_of report r) r.sources (values_of report r) values

abbrev pub holding_values : EventReport → List ℤ → ReaderRecord → ReaderRecord
holding_values report kept r =
    record r { values = held_from report.first_value kept r.values; is_lost = false }

abbrev pub lost : ReaderRecord → ReaderRecord
lost r = record r { is_lost = true }

-- what a report with these values sends
unfoldable pub sent_by : EventReport → List ℤ → ReaderRecord → List InputEvent
sent_by report values r = sent_in report (behind_sending report values (lost r))

-- the lamps behind what was handed on
abbrev pub with_lamps_behind : List InputEvent → ReaderRecord → ReaderRecord
with_lamps_behind events r = record r { lamps = behind_events events r.lamps }

-- behind a report with these values
unfoldable pub behind_taken : EventReport → List ℤ → ReaderRecord → ReaderRecord
behind_taken report values r = holding_values report (kept_of report values (lost r))
    (with_lamps_behind (sent_by report values r)
    (behind_sent report (behind_sending report values (lost r))))

-- The answer

-- the input device that sends, the events, and the reader behind them
pub record Outcome : Type 0 where
  pub device : ℕ
  pub events : List InputEvent
  pub next : ReaderRecord

abbrev pub outcome : EventReport → List ℤ → ReaderRecord → Outcome
outcome report values r = record {
  device = report.device;
  events = sent_by report values r;
  next = behind_taken report values r;
}

abbrev pub reads_values : EventReport → List ℤ → ReaderRecord → Result Outcome EventsError
reads_values report values r =
    if turns_too_far report values r then Err (why.TooManySteps 4096)
    else Ok (outcome report values r)

-- the values in the bytes behind the id
unfoldable pub reads_of : EventReport → List ℕ → ReaderRecord → Result Outcome EventsError
reads_of report bytes r =
    reads_values report (values_in (fields_of report r) (drop (id_size r) bytes)) r

abbrev pub reads_by : Result EventReport EventsError → List ℕ → ReaderRecord
    → Result Outcome EventsError
reads_by (Err fault) bytes r = Err fault
reads_by (Ok report) bytes r = reads_of report bytes r

-- what a reader answers to the bytes of a report
abbrev pub reads : ReaderRecord → List ℕ → Result Outcome EventsError
reads r bytes = reads_by (report_in r bytes) bytes r

-- the events and the reader behind them are the answer's
abbrev pub IsSent : Result Outcome EventsError → ReportEvents → ReaderRecord → Type 0
IsSent (Ok o) events new =
    (events.device ≡ o.device) × ((events.events.items ≡ o.events) × (new ≡ o.next))
IsSent (Err fault) events new = ⊥

-- the refusal is the answer's, and the reader as before, or memory is refused
abbrev pub IsRefused : Result Outcome EventsError → EventsError → ReaderRecord → ReaderRecord
    → Type 0
IsRefused (Ok o) fault old new = fault ≡ why.OutOfMemory
IsRefused (Err wanted) fault old new =
    (fault ≡ why.OutOfMemory) ⊎ ((fault ≡ wanted) × (new ≡ old))
