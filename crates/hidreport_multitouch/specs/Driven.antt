-- The event of a usage by the driver that takes the device (hid-multitouch and hid-input of Linux
-- 6.12).
use Rattle.std.specs.Prelude.{ℕ, Bool, false, not, ◌/◌, ◌==◌, ◌&&◌, ◌||◌, nat_le, if◌then◌else◌}
use Rattle.std.specs.Prelude.{Option, None, Some, Result, Ok, Err, List, slice_get}
use Rattle.hidreport_fields.specs.declared.field.data_item.Direction.{Direction}
use Rattle.hidreport_fields.specs.declared.field.data_item.Direction.TheVariants.{Input, Output, Feature}
use Rattle.hidreport_linux.specs.Asking.{asked}
use Rattle.hidreport_linux.specs.Devices.{answered}
use Rattle.hidreport_linux.specs.DevicesRecord.{DevicesRecord}
use Rattle.hidreport_linux.specs.Events.{wanted}
use Rattle.hidreport_linux.specs.declared.event.Event.{Event}
use Rattle.hidreport_linux.specs.declared.event_code.EventCode.{EventCode}
use Rattle.hidreport_linux.specs.declared.item.Item.{Item}
use Rattle.hidreport_linux.specs.declared.unmapped.Unmapped.{Unmapped}
use Rattle.hidreport_linux.specs.declared.unmapped.Unmapped.TheVariants as none
use Rattle.hidreport_linux.specs.declared.wanted.Wanted.{Wanted}
use Rattle.hidreport_multitouch.specs.Touched.{has_code}
use Rattle.hidreport_multitouch.specs.Touching.{is_windows_8, takes_application, touch_answer}
use Rattle.hidreport_multitouch.specs.declared.contact_code.TouchAnswer.{TouchAnswer}
use Rattle.hidreport_multitouch.specs.declared.contact_code.TouchAnswer.TheVariants as touch
use Rattle.hidreport_multitouch.specs.declared.contact_code.TouchPlace.{TouchPlace}
use Rattle.hidreport_multitouch.specs.declared.driven_devices.DrivenDevices.{DrivenDevices}
use Rattle.hidreport_multitouch.specs.declared.driven_event.DrivenEvent.{DrivenEvent}
use Rattle.hidreport_multitouch.specs.declared.driven_event.Giver.TheVariants as by
use Rattle.hidreport_multitouch.specs.declared.driven_item.DrivenItem.{DrivenItem}
use Rattle.hidreport_multitouch.specs.declared.driven_item.TouchItem.{TouchItem}
use Rattle.hidreport_multitouch.specs.declared.silent.Silent.{Silent}
use Rattle.hidreport_multitouch.specs.declared.silent.Silent.TheVariants as silent
use Rattle.hidreport_multitouch.specs.declared.touch_class.TouchClass.{TouchClass}
use Rattle.hidreport_multitouch.specs.declared.touch_class.TouchClass.TheVariants.{Windows8}
use Rattle.hidreport_multitouch.specs.declared.touch_facts.TouchFacts.{TouchFacts}
use Rattle.hidreport_multitouch.specs.declared.touched.TouchApplication.{TouchApplication}
use Rattle.hidreport_multitouch.specs.declared.touched.Touched.{Touched}

-- hid-input takes a device by application, as hid-multitouch does one made for Windows 8
abbrev pub class_of : Option TouchFacts → TouchClass
class_of None = Windows8
class_of (Some facts) = facts.class

-- each report id has its input device
abbrev pub is_by_id : DrivenDevices → Bool
is_by_id d = not (is_windows_8 (class_of d.facts))

-- where the input devices are that the report goes to
abbrev pub inputs_at : DrivenDevices → ℕ
inputs_at d = if is_by_id d then d.current else 0

-- an event of hid-input's
abbrev pub driven : DrivenDevices → Event → DrivenEvent
driven d event = record {
  code = event.code;
  device = if is_by_id d then d.current else event.device;
  giver = by.HidInput event.role;
}

abbrev pub driven_by : DrivenDevices → Result Event Unmapped → Result DrivenEvent Silent
driven_by d (Ok event) = Ok (driven d event)
driven_by d (Err reason) = Err (silent.Unmapped reason)

abbrev pub answered_in : Option DevicesRecord → Item → ℕ → Result Event Unmapped
answered_in None item usage = Err none.NoInput
answered_in (Some inputs) item usage = answered inputs (asked item inputs.unmapped usage)

-- what hid-input gives a usage
abbrev pub hid_input_answer : DrivenDevices → Item → ℕ → Result DrivenEvent Silent
hid_input_answer d item usage =
    driven_by d (answered_in (slice_get d.inputs.items (inputs_at d)) item usage)

abbrev pub unasked_in : Direction → ℕ → Option Unmapped
unasked_in Input usage = None
unasked_in Output usage = if usage / 65536 == 0x08 then None else Some none.Output
unasked_in Feature usage = Some none.Feature

-- why a usage isn't asked of the driver: 256 items of a report and 12,288 usages of an item are kept
abbrev pub unasked : TouchItem → ℕ → Option Unmapped
unasked t usage =
    if t.is_past then Some none.PastItems
    else if nat_le 12288 t.usages then Some none.PastUsages
    else if t.place.is_constant then Some none.Constant
    else unasked_in t.place.direction usage

-- Confidence tells palms in a touch screen or pad of a device made for Windows 8
abbrev pub tells_palms : TouchClass → ℕ → ℕ → Bool
tells_palms class application usage =
    is_windows_8 class && ((application == 0xd0004 || application == 0xd0005)
    && usage == 0xd0047)

abbrev pub has_palms : Option TouchApplication → Bool → Bool
has_palms None tells = false
has_palms (Some one) tells = one.tells_palms || tells

-- where a usage of a touch report lies; its application tells palms from the usage on that says so
abbrev pub touch_place : DrivenDevices → TouchItem → ℕ → ℕ → TouchPlace
touch_place d t index usage = record {
  class = class_of d.facts;
  application = t.place.application;
  tells_palms = has_palms (slice_get d.applications.items index)
      (tells_palms (class_of d.facts) t.place.application usage);
}

-- the usage before; 0 is none
abbrev pub usage_before : TouchItem → Option ℕ
usage_before t = if t.before == 0 then None else Some t.before

-- the code that hid-input would give, which nothing registers for the usage
abbrev pub left_by : DrivenDevices → Result Wanted Unmapped → Result DrivenEvent Silent
left_by d (Ok it) = Ok (record { code = it.code; device = d.current; giver = by.Nobody })
left_by d (Err reason) = Err (silent.Unmapped reason)

abbrev pub touched_by : DrivenDevices → TouchItem → ℕ → TouchAnswer → Result DrivenEvent Silent
touched_by d t usage (touch.Code code) = Ok (record {
  code = code;
  device = d.current;
  giver = by.Multitouch (t.place.application == 0x1000e);
})
touched_by d t usage touch.Read = Err silent.Read
touched_by d t usage touch.Ignored = Err silent.Ignored
touched_by d t usage touch.PastCodes = Err (silent.Unmapped none.PastCodes)
touched_by d t usage touch.Left = left_by d (wanted usage t.place)

-- what hid-multitouch gives a usage of a touch report
abbrev pub touched_answer : DrivenDevices → TouchItem → ℕ → ℕ → Result DrivenEvent Silent
touched_answer d t index usage =
    touched_by d t usage (touch_answer (touch_place d t index usage) (usage_before t) usage)

abbrev pub is_registered : Option Touched → EventCode → Bool
is_registered None code = false
is_registered (Some touched) code = has_code touched code

abbrev pub is_shared_by : Result Wanted Unmapped → Bool
is_shared_by (Ok it) = it.is_shared
is_shared_by (Err reason) = false

-- hid-input's event, where hid-multitouch has not registered the code, or several may have it
abbrev pub unless_taken : List Touched → TouchItem → ℕ → Result DrivenEvent Silent
    → Result DrivenEvent Silent
unless_taken touched t usage (Ok event) =
    if is_registered (slice_get touched event.device) event.code
    && not (is_shared_by (wanted usage t.place)) then Err (silent.Unmapped none.Taken)
    else Ok event
unless_taken touched t usage (Err reason) = Err reason

abbrev pub in_report_of : Option ℕ → DrivenDevices → DrivenItem → TouchItem → ℕ
    → Result DrivenEvent Silent
in_report_of (Some index) d item t usage = touched_answer d t index usage
in_report_of None d item t usage =
    unless_taken d.touched.items t usage (hid_input_answer d item.item usage)

abbrev pub asked_by : Option Unmapped → DrivenDevices → DrivenItem → TouchItem → ℕ
    → Result DrivenEvent Silent
asked_by (Some reason) d item t usage = Err (silent.Unmapped reason)
asked_by None d item t usage =
    if takes_application (class_of d.facts) t.place.application
    then in_report_of t.application d item t usage
    else Err silent.Application

abbrev pub taken_by : Option TouchItem → DrivenDevices → DrivenItem → ℕ
    → Result DrivenEvent Silent
taken_by None d item usage = hid_input_answer d item.item usage
taken_by (Some t) d item usage = asked_by (unasked t usage) d item t usage

-- the event of a usage, or why it has none
unfoldable pub driven_answer : DrivenDevices → DrivenItem → ℕ → Result DrivenEvent Silent
driven_answer d item usage = taken_by item.touch d item usage
