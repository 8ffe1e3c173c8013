-- What an axis says of itself by a usage that sets it (hid-input of Linux 6.12).
use Rattle.std.specs.Prelude.{ℤ, pos, negsuc, Bool, true, false, ◌==◌, ◌||◌, if◌then◌else◌, unwrap_or}
use Rattle.std.specs.Int.{int_shr}
use Rattle.hidreport_linux.specs.Resolution.{resolution, span}
use Rattle.hidreport_linux.specs.declared.axis.Axis.{Axis}
use Rattle.hidreport_linux.specs.declared.axis.Measures.{Measures}
use Rattle.hidreport_linux.specs.declared.event_code.EventCode.{EventCode}
use Rattle.hidreport_linux.specs.declared.place.Place.{Place}
use Rattle.hidreport_linux.specs.declared.wanted.Role.{Role}
use Rattle.hidreport_linux.specs.declared.wanted.Role.TheVariants as role

-- a hat, or a direction that has its axes
abbrev pub is_hat : Role → Bool
is_hat role.Hat = true
is_hat role.Direction = true
is_hat _ = false

-- a joystick's or a gamepad's
unfoldable pub trembles : Place → Bool
trembles place = place.application == 0x10004 || place.application == 0x10005

-- by how much its values tremble, and how far from the middle they count as the middle
unfoldable pub fuzz_of : Place → Measures → ℤ
fuzz_of place m = if trembles place then int_shr (span m.minimum m.maximum) 8 else pos 0

unfoldable pub flat_of : Place → Measures → ℤ
flat_of place m = if trembles place then int_shr (span m.minimum m.maximum) 4 else pos 0

-- a hat goes from -1 to 1, any other axis as its item says
unfoldable pub axis_by : EventCode → Role → Place → Measures → Axis
axis_by code role place m =
    if is_hat role then record {
      minimum = negsuc 0;
      maximum = pos 1;
      fuzz = pos 0;
      flat = pos 0;
      resolution = pos 0;
    } else record {
      minimum = m.minimum;
      maximum = m.maximum;
      fuzz = fuzz_of place m;
      flat = flat_of place m;
      resolution = unwrap_or (resolution code.number m) (pos 0);
    }
