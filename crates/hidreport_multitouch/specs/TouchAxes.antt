-- What the axes of contacts say of themselves (hid-multitouch of Linux 6.12).
use Rattle.std.specs.Prelude.{ℕ, ℤ, pos, ◌-ℤ◌, ◌==◌, int_div, if◌then◌else◌}
use Rattle.std.specs.Int.{w32, int_wrapping_neg}
use Rattle.hidreport_linux.specs.AxisNumbers.{axis_by}
use Rattle.hidreport_linux.specs.declared.axis.Axis.{Axis}
use Rattle.hidreport_linux.specs.declared.axis.Measures.{Measures}
use Rattle.hidreport_linux.specs.declared.event_code.EventCode.{EventCode}
use Rattle.hidreport_linux.specs.declared.place.Place.{Place}
use Rattle.hidreport_linux.specs.declared.wanted.Role.TheVariants as role

abbrev pub bounded : ℤ → ℤ → Axis
bounded minimum maximum = record {
  minimum = minimum;
  maximum = maximum;
  fuzz = pos 0;
  flat = pos 0;
  resolution = pos 0;
}

-- as hid-input has it, without a fuzz
unfoldable pub measured_axis : EventCode → Place → Measures → Axis
measured_axis code place m = record {
  minimum = m.minimum;
  maximum = m.maximum;
  fuzz = pos 0;
  flat = pos 0;
  resolution = (axis_by code role.Plain place m).resolution;
}

-- the greatest value of an azimuth stands for a whole turn
unfoldable pub azimuth_axis : Measures → Axis
azimuth_axis m =
    bounded (int_div (int_wrapping_neg w32 m.maximum) (pos 4)) (int_div m.maximum (pos 4))

abbrev pub last_slot : ℕ → ℤ
last_slot slots = pos slots -ℤ pos 1

-- slots count from 0; a tool is a finger (0) or a palm (2); a distance is 0 or 1
unfoldable pub touch_axis : EventCode → ℕ → Place → Measures → Axis
touch_axis code slots place m =
    if code.number == 0x2f then bounded (pos 0) (last_slot slots)
    else if code.number == 0x34 then azimuth_axis m
    else if code.number == 0x37 then bounded (pos 0) (pos 2)
    else if code.number == 0x3b then bounded (pos 0) (pos 1)
    else measured_axis code place m
