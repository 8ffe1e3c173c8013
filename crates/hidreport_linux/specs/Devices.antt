-- The input devices of a descriptor, and what the usages of its items get (hid-input of Linux
-- 6.12).
use Rattle.std.specs.Prelude.{◌≡◌, ◌≢◌, ℕ, Bool, true, false, ◌+◌, ◌/◌, ◌%◌, ◌==◌, ◌&&◌, ◌||◌, not, nat_lt}
use Rattle.std.specs.Prelude.{if◌then◌else◌, List, [], ◌∷◌, ◌++◌, length, slice_get}
use Rattle.std.specs.Prelude.{Option, Some, None, Result, Ok, Err, IfSome, OnSome}
use Rattle.std.specs.List.{position_from}
use Rattle.std.specs.Option.{option_map_or}
use Rattle.hidreport.specs.Groups.{GroupRecord}
use Rattle.hidreport_linux.specs.Asking.{counted, is_pressure, passed}
use Rattle.hidreport_linux.specs.Axes.{axis_of, same_axis}
use Rattle.hidreport_linux.specs.AxisNumbers.{axis_by}
use Rattle.hidreport_linux.specs.Claims.{beside, given, given_if, has, StandsFor}
use Rattle.hidreport_linux.specs.Events.{code}
use Rattle.hidreport_linux.specs.declared.axis.Axis.{Axis}
use Rattle.hidreport_linux.specs.declared.event.Event.{Event}
use Rattle.hidreport_linux.specs.declared.event_code.EventCode.{EventCode}
use Rattle.hidreport_linux.specs.declared.event_code.EventType.TheVariants.{Key}
use Rattle.hidreport_linux.specs.declared.input_device.InputDevice.{InputDevice}
use Rattle.hidreport_linux.specs.declared.item.Item.{Item}
use Rattle.hidreport_linux.specs.declared.unmapped.Unmapped.{Unmapped}
use Rattle.hidreport_linux.specs.declared.unmapped.Unmapped.TheVariants as none
use Rattle.hidreport_linux.specs.declared.wanted.Role.{Role}
use Rattle.hidreport_linux.specs.declared.wanted.Wanted.{Wanted}
use Rattle.hidreport_linux.specs.DevicesRecord.{DevicesRecord}

-- before the first report: one device for each application where there are several, else one
abbrev pub no_devices : ℕ → Option Unmapped → DevicesRecord
no_devices applications unmapped = record {
  devices = [];
  current = 0;
  items = 0;
  is_by_application = nat_lt 1 applications;
  unmapped = unmapped;
  says_touch = false;
}

-- System Control and Consumer Control go to the device of a Keyboard, if there is one
abbrev pub takes : ℕ → InputDevice → Bool
takes application device =
    device.application == application
    || ((application == 0x10080 || application == 0xc0001) && device.application == 0x10006)

-- the device that a report with this application goes to, if there is one yet
abbrev pub device_for : ℕ → DevicesRecord → Option ℕ
device_for application d =
    if d.is_by_application then position_from (takes application) 0 d.devices
    else if length d.devices == 0 then None
    else Some 0

-- a device that no usage has gone to yet
pub record IsNew (application : ℕ) (device : InputDevice) : Type 0 where
  pub of_application : device.application ≡ application
  pub claims_nothing : StandsFor device []
  pub says_nothing : (code : EventCode) → axis_of code device ≡ None

-- at a report that goes to the device at an index, or to a new one behind the others
abbrev pub GoesTo : ℕ → Option ℕ → DevicesRecord → DevicesRecord → Type 0
GoesTo application (Some index) old new = new ≡ record old { current = index; items = 0 }
GoesTo application None old new =
    (device : InputDevice) × IsNew application device × (new ≡ record old {
      devices = old.devices ++ device ∷ [];
      current = length old.devices;
      items = 0;
    })

-- at a report of an application; one without usages goes to no device
abbrev pub Enters : Option ℕ → DevicesRecord → DevicesRecord → Type 0
Enters None old new = new ≡ record old { items = 0 }
Enters (Some application) old new = GoesTo application (device_for application old) old new

-- an item of the report that names usages counts, up to 256, which are kept
abbrev pub behind_item : GroupRecord → DevicesRecord → DevicesRecord
behind_item g d =
    if nat_lt 0 (length g.usages.usages) && nat_lt d.items 256 then record d { items = d.items + 1 }
    else d

-- the device that the report goes to
abbrev pub current_device : DevicesRecord → Option InputDevice
current_device d = slice_get d.devices d.current

abbrev pub is_switch_id : ℕ → Bool
is_switch_id low = low == 0x33 || (low == 0x42 || low == 0x43)

-- Touch, Tip Switch and Secondary Tip Switch of Digitizers, by the last two digits
abbrev pub is_switch : ℕ → Bool
is_switch usage = usage / 65536 == 0x0d && is_switch_id (usage % 256)

-- the device that the report goes to has a code
abbrev pub has_now : EventCode → DevicesRecord → Bool
has_now code d = option_map_or (λ device. has device code) (current_device d) false

-- pressures say BTN_TOUCH from one on whose device has no such code, up to the next switch
abbrev pub touch_behind : ℕ → Role → DevicesRecord → Bool
touch_behind usage role d =
    if is_switch usage then false
    else if is_pressure role && not (has_now (code Key 0x14a) d) then true
    else d.says_touch

-- a usage that gets its code has an event of its device
abbrev pub event_of : ℕ → Result Wanted Unmapped → Result Event Unmapped
event_of device (Ok wanted) =
    Ok (record { code = wanted.code; role = wanted.role; device = device })
event_of device (Err reason) = Err reason

-- what a usage is answered that asks for a code, by the device that the report goes to
abbrev pub answered_by : Option InputDevice → ℕ → Wanted → Result Event Unmapped
answered_by None index wanted = Err none.NoInput
answered_by (Some device) index wanted = event_of index (given_if (has device wanted.code) wanted)

-- what a usage is answered by what it asks for
abbrev pub answered : DevicesRecord → Result Wanted Unmapped → Result Event Unmapped
answered d (Err reason) = Err reason
answered d (Ok wanted) = answered_by (current_device d) d.current wanted

-- an item behind a usage that was answered so
abbrev pub behind : Result Event Unmapped → Item → Item
behind (Ok event) item = passed event.role (counted item)
behind (Err reason) item = counted item

-- the device at an index stands for these usages
abbrev pub StandsAt : List InputDevice → ℕ → List Wanted → Type 0
StandsAt devices index before = IfSome (slice_get devices index) (λ device. StandsFor device before)

-- the device that the report goes to stands for these usages
abbrev pub Stands : DevicesRecord → List Wanted → Type 0
Stands d before = StandsAt d.devices d.current before

-- what a usage is answered behind these of its device: the first that claims a code has it
abbrev pub AnswersAt : List InputDevice → ℕ → List Wanted → Wanted → Result Event Unmapped → Type 0
AnswersAt devices index before wanted result =
    OnSome (slice_get devices index) (result ≡ event_of index (given before wanted))

-- the same of a usage that may ask for nothing
abbrev pub AnswersBehind : DevicesRecord → List Wanted → Result Wanted Unmapped
    → Result Event Unmapped → Type 0
AnswersBehind d before (Err reason) result = result ≡ Err reason
AnswersBehind d before (Ok wanted) result = AnswersAt d.devices d.current before wanted result

-- one more that asks for a code
abbrev pub and_also : List Wanted → Result Wanted Unmapped → List Wanted
and_also before (Ok wanted) = before ++ wanted ∷ []
and_also before (Err reason) = before

-- a usage that asks so is answered behind these of its device, which stands for it, too, from now
-- on
pub record GoesBehind (before : List Wanted) (asked : Result Wanted Unmapped)
    (result : Result Event Unmapped) (old new : DevicesRecord) : Type 0 where
  pub answers : AnswersBehind old before asked result
  pub stands : Stands new (and_also before asked)

-- the devices at all other indices are as they were
pub record KeepsOthers (index : ℕ) (old new : List InputDevice) : Type 0 where
  pub count : length new ≡ length old
  pub others : (k : ℕ) → k ≢ index → slice_get new k ≡ slice_get old k

-- what the axis of a code says of itself, of the device at an index
abbrev pub axis_at : EventCode → ℕ → List InputDevice → Option Axis
axis_at code index devices = option_map_or (axis_of code) (slice_get devices index) None

-- what the axis of an event says of itself
abbrev pub axis_in : DevicesRecord → Event → Option Axis
axis_in d event = axis_at event.code event.device d.devices

-- a usage that is answered so sets the axis of a code of the device at an index
abbrev pub sets : Result Event Unmapped → EventCode → ℕ → Bool
sets (Ok event) code index = event.device == index && same_axis event.code code
sets (Err reason) code index = false

-- what an event's axis is given by its item
abbrev pub axis_given : Item → Event → Axis
axis_given item event = axis_by event.code event.role item.place item.measures

-- what the axis of any event says behind a usage of an item: what it was given, if the usage has it
abbrev pub axis_behind : Item → Result Event Unmapped → DevicesRecord → Event → Option Axis
axis_behind item (Ok event) d other =
    if sets (Ok event) other.code other.device then Some (axis_given item event)
    else axis_in d other
axis_behind item (Err reason) d other = axis_in d other

-- nothing changes but the device that the report goes to, and whether pressures say BTN_TOUCH
pub record StaysAt (old new : DevicesRecord) : Type 0 where
  pub devices : KeepsOthers old.current old.devices new.devices
  pub current : new.current ≡ old.current
  pub items : new.items ≡ old.items
  pub is_by_application : new.is_by_application ≡ old.is_by_application
  pub unmapped : new.unmapped ≡ old.unmapped

-- whether pressures say BTN_TOUCH behind a usage that asks so
abbrev pub touch_after : ℕ → Result Wanted Unmapped → DevicesRecord → Bool
touch_after usage (Ok wanted) d = touch_behind usage wanted.role d
touch_after usage (Err reason) d = d.says_touch

-- the codes that a usage also has: a pressure has one where no switch has it
abbrev pub beside_in : DevicesRecord → Role → List EventCode
beside_in d role = if is_pressure role && not d.says_touch then [] else beside role
