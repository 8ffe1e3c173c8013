-- What is known of an event behind all usages of a descriptor.
use Rattle.std.specs.Prelude.{ℕ, Bool, true, false, not, ◌==◌, ◌&&◌, ◌||◌, if◌then◌else◌}
use Rattle.std.specs.Prelude.{Option, None, Some, is_some, Result, Ok, Err, List, [], ◌∷◌}
use Rattle.std.specs.Prelude.{slice_get}
use Rattle.std.specs.List.{list_any}
use Rattle.std.specs.Option.{option_or}
use Rattle.hidreport_linux.specs.Devices.{axis_in, beside_in}
use Rattle.hidreport_linux.specs.DevicesRecord.{DevicesRecord}
use Rattle.hidreport_linux.specs.Events.{code}
use Rattle.hidreport_linux.specs.declared.axis.Axis.{Axis}
use Rattle.hidreport_linux.specs.declared.event.Event.{Event}
use Rattle.hidreport_linux.specs.declared.event_code.EventCode.{EventCode}
use Rattle.hidreport_linux.specs.declared.event_code.EventType.{EventType}
use Rattle.hidreport_linux.specs.declared.event_code.EventType.TheVariants.{Key, Relative, Absolute, Other, Led}
use Rattle.hidreport_linux.specs.declared.wanted.Role.{Role}
use Rattle.hidreport_multitouch.specs.Driven.{is_by_id}
use Rattle.hidreport_multitouch.specs.Touched.{axis_of, has_code}
use Rattle.hidreport_multitouch.specs.declared.driven_devices.DrivenDevices.{DrivenDevices}
use Rattle.hidreport_multitouch.specs.declared.driven_event.DrivenEvent.{DrivenEvent}
use Rattle.hidreport_multitouch.specs.declared.driven_event.Giver.{Giver}
use Rattle.hidreport_multitouch.specs.declared.driven_event.Giver.TheVariants as by
use Rattle.hidreport_multitouch.specs.declared.silent.Silent.{Silent}
use Rattle.hidreport_multitouch.specs.declared.silent.Silent.TheVariants as silent
use Rattle.hidreport_multitouch.specs.declared.touched.Touched.{Touched}

abbrev pub is_key : EventType → Bool
is_key Key = true
is_key Relative = false
is_key Absolute = false
is_key Other = false
is_key Led = false

abbrev pub is_absolute : EventType → Bool
is_absolute Absolute = true
is_absolute Key = false
is_absolute Relative = false
is_absolute Other = false
is_absolute Led = false

-- an input device with touch reports also stands for a pointer
abbrev pub points : DrivenDevices → ℕ → Bool
points d device = list_any (λ one. one.device == device && one.points) d.applications.items

-- BTN_TOUCH is also the pointer's
abbrev pub registers_in : Option Touched → Bool → EventCode → Bool
registers_in None does_point code = false
registers_in (Some touched) does_point code =
    has_code touched code || ((is_key code.event_type && code.number == 0x14a) && does_point)

-- hid-multitouch registers the code of an event for another usage
abbrev pub registers : DrivenDevices → DrivenEvent → Bool
registers d event =
    registers_in (slice_get d.touched.items event.device) (points d event.device) event.code

abbrev pub settled_by : Giver → DrivenDevices → DrivenEvent → Result DrivenEvent Silent
settled_by by.Nobody d event = if registers d event then Ok event else Err silent.Unregistered
settled_by (by.HidInput role) d event = Ok event
settled_by (by.Multitouch is_dial) d event = Ok event

-- a code that nothing registers is none
unfoldable pub settled : DrivenDevices → Result DrivenEvent Silent → Result DrivenEvent Silent
settled d (Ok event) = settled_by event.giver d event
settled d (Err reason) = Err reason

abbrev pub axis_at : Option Touched → ℕ → Option Axis
axis_at None number = None
axis_at (Some touched) number = axis_of touched number

abbrev pub of_hid_input : Option DevicesRecord → Event → Option Axis
of_hid_input None event = None
of_hid_input (Some inputs) event = axis_in inputs event

-- an event of hid-input's devices: each report id has some with a single one, else there are only one
abbrev pub input_event : DrivenDevices → DrivenEvent → Role → Event
input_event d event role = record {
  code = event.code;
  role = role;
  device = if is_by_id d then 0 else event.device;
}

abbrev pub inputs_for : DrivenDevices → DrivenEvent → Option DevicesRecord
inputs_for d event = slice_get d.inputs.items (if is_by_id d then event.device else 0)

abbrev pub touch_axis_for : DrivenDevices → DrivenEvent → Option Axis
touch_axis_for d event =
    if is_absolute event.code.event_type
    then axis_at (slice_get d.touched.items event.device) event.code.number
    else None

-- as what gives the event its code has it
abbrev pub own_axis_by : Giver → DrivenDevices → DrivenEvent → Option Axis
own_axis_by (by.HidInput role) d event = of_hid_input (inputs_for d event) (input_event d event role)
own_axis_by (by.Multitouch is_dial) d event = touch_axis_for d event
own_axis_by by.Nobody d event = touch_axis_for d event

abbrev pub own_axis : DrivenDevices → DrivenEvent → Option Axis
own_axis d event = own_axis_by event.giver d event

-- the axis of contacts that the pointer's is: positions and the pressure
abbrev pub pointer_axis_in : Option Touched → ℕ → Option Axis
pointer_axis_in touched number =
    if number == 0x00 then axis_at touched 0x35
    else if number == 0x01 then axis_at touched 0x36
    else if number == 0x18 then axis_at touched 0x3a
    else None

abbrev pub pointer_axis : DrivenDevices → DrivenEvent → Option Axis
pointer_axis d event =
    if is_absolute event.code.event_type && points d event.device
    then pointer_axis_in (slice_get d.touched.items event.device) event.code.number
    else None

-- the pointer's axis comes first where hid-input gives the code
abbrev pub axis_by : Giver → DrivenDevices → DrivenEvent → Option Axis
axis_by (by.HidInput role) d event = option_or (pointer_axis d event) (own_axis d event)
axis_by (by.Multitouch is_dial) d event = own_axis d event
axis_by by.Nobody d event = own_axis d event

-- what the axis of an event says of itself; none of a code that is no axis
unfoldable pub axis_for : DrivenDevices → DrivenEvent → Option Axis
axis_for d event = axis_by event.giver d event

abbrev pub has_azimuth : DrivenDevices → ℕ → Bool
has_azimuth d device = is_some (axis_at (slice_get d.touched.items device) 0x34)

abbrev pub axis_code : ℕ → List EventCode
axis_code number = code Absolute number ∷ []

-- ABS_MT_TRACKING_ID beside a slot; ABS_MT_TOOL_TYPE beside a dial's position; the pointer's
-- positions and pressure; an orientation beside a width, where no usage says it
abbrev pub beside_touch : DrivenDevices → DrivenEvent → Bool → List EventCode
beside_touch d event is_dial =
    if not (is_absolute event.code.event_type) then []
    else if event.code.number == 0x2f then axis_code 0x39
    else if (event.code.number == 0x35 || event.code.number == 0x3c) && is_dial then axis_code 0x37
    else if event.code.number == 0x35 && points d event.device then axis_code 0x00
    else if event.code.number == 0x36 && points d event.device then axis_code 0x01
    else if event.code.number == 0x3a && points d event.device then axis_code 0x18
    else if event.code.number == 0x31 && not (has_azimuth d event.device) then axis_code 0x34
    else []

abbrev pub beside_of_input : Option DevicesRecord → Role → List EventCode
beside_of_input None role = []
beside_of_input (Some inputs) role = beside_in inputs role

abbrev pub beside_by : Giver → DrivenDevices → DrivenEvent → List EventCode
beside_by (by.HidInput role) d event = beside_of_input (inputs_for d event) role
beside_by (by.Multitouch is_dial) d event = beside_touch d event is_dial
beside_by by.Nobody d event = []

-- the codes that the usage of an event also has
unfoldable pub beside_for : DrivenDevices → DrivenEvent → List EventCode
beside_for d event = beside_by event.giver d event
