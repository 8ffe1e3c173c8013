-- What the axes of an input device say of themselves (hid-input of Linux 6.12).
use Rattle.std.specs.Prelude.{Bool, true, false, ◌&&◌, ◌==◌, nat_lt, if◌then◌else◌, Option, Some, None}
use Rattle.std.specs.Prelude.{Result, Ok, Err}
use Rattle.std.specs.List.{slice_index_or, slice_set}
use Rattle.hidreport_linux.specs.Claims.{claims, with_claims}
use Rattle.hidreport_linux.specs.declared.axis.Axis.{Axis}
use Rattle.hidreport_linux.specs.declared.event_code.EventCode.{EventCode}
use Rattle.hidreport_linux.specs.declared.event_code.EventType.{EventType}
use Rattle.hidreport_linux.specs.declared.event_code.EventType.TheVariants.{Key, Relative, Absolute}
use Rattle.hidreport_linux.specs.declared.event_code.EventType.TheVariants.{Other, Led}
use Rattle.hidreport_linux.specs.declared.input_device.InputDevice.{InputDevice}
use Rattle.hidreport_linux.specs.declared.unmapped.Unmapped.{Unmapped}
use Rattle.hidreport_linux.specs.declared.wanted.Wanted.{Wanted}

abbrev pub is_absolute : EventType → Bool
is_absolute Key = false
is_absolute Relative = false
is_absolute Absolute = true
is_absolute Other = false
is_absolute Led = false

-- one of the 64 axes
abbrev pub is_axis : EventCode → Bool
is_axis code = is_absolute code.event_type && nat_lt code.number 0x40

-- both are codes of one axis
abbrev pub same_axis : EventCode → EventCode → Bool
same_axis a b = is_axis a && (is_axis b && a.number == b.number)

-- a usage that asks for a code sets this axis: where it has the code
abbrev pub sets_axis : Result Wanted Unmapped → EventCode → EventCode → Bool
sets_axis (Ok given) asked other = same_axis asked other
sets_axis (Err reason) asked other = false

-- what an axis says of itself: what was set last
abbrev pub axis_of : EventCode → InputDevice → Option Axis
axis_of code device = if is_axis code then slice_index_or device.axes code.number None else None

-- the device with what an axis says of itself from now on
abbrev pub with_axis : EventCode → Axis → InputDevice → InputDevice
with_axis code axis device =
    if is_axis code then record device { axes = slice_set device.axes code.number (Some axis) }
    else device

-- the device behind a usage that asks for a code, by what it got: its axis is set where it has it
abbrev pub after_give : Result Wanted Unmapped → Wanted → Axis → InputDevice → InputDevice
after_give (Ok given) wanted axis device =
    with_axis wanted.code axis (with_claims (claims wanted) device)
after_give (Err reason) wanted axis device = with_claims (claims wanted) device
