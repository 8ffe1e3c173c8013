-- Scaling (Section 6.2.2.7): a value in place of which another number is meant. The bounds stand for
-- each other, and what lies between them is on a line.
use Rattle.std.specs.Prelude.{ℤ, pos, negsuc, ◌-ℤ◌, ◌+ℤ◌, ◌*ℤ◌, int_lt, ◌&&◌, unwrap_or}
use Rattle.std.specs.Ordering.{int_eq}
use Rattle.std.specs.Prelude.{if◌then◌else◌, Option, Some, None}
use Rattle.hidreport_fields.specs.Records.{Attributes}
use Rattle.hidreport_fields.specs.declared.field.fraction.Fraction.{Fraction}

-- the number at v on the line that is `first` at `low` and `last` at `high`; none where low isn't
-- below high
abbrev pub on_line : ℤ → ℤ → ℤ → ℤ → ℤ → Option Fraction
on_line low high first last v =
    if int_lt low high then Some (record {
      numerator = (v -ℤ low) *ℤ (last -ℤ first) +ℤ first *ℤ (high -ℤ low);
      denominator = high -ℤ low;
    })
    else None

-- between the logical bounds the same number, unless the physical ones say another
abbrev pub physical_between : ℤ → ℤ → Attributes → ℤ → Option Fraction
physical_between first last a v =
    if int_eq first (pos 0) && int_eq last (pos 0)
    then on_line a.logical_minimum a.logical_maximum a.logical_minimum a.logical_maximum v
    else on_line a.logical_minimum a.logical_maximum first last v

-- the value in units; a physical bound that isn't set is 0
abbrev pub physical_value : Attributes → ℤ → Option Fraction
physical_value a v = physical_between
    (unwrap_or a.physical_minimum (pos 0)) (unwrap_or a.physical_maximum (pos 0)) a v

-- the value between -1 at the logical minimum and 1 at the maximum
abbrev pub normalized : Attributes → ℤ → Option Fraction
normalized a v = on_line a.logical_minimum a.logical_maximum (negsuc 0) (pos 1) v
