-- What a value stands for, by the field as C has it (Section 6.2.2.7).
use Rattle.std.specs.Prelude.{ℤ, pos, negsuc, ◌^◌, ◌-◌, int_lt, ◌&&◌, ◌||◌, Bool, false, true}
use Rattle.std.specs.Prelude.{if◌then◌else◌, Option, None, Some}
use Rattle.std.specs.Ordering.{int_eq}
use Rattle.hidreport.specs.Scaling.{on_line}
use Rattle.hidreport_fields.specs.declared.field.fraction.Fraction.{Fraction}
use Rattle.hidreport_c.specs.declared.structs.HidreportMeasures.{HidreportMeasures}
use Rattle.hidreport_c.specs.declared.structs.HidreportFraction.{HidreportFraction}

-- the value in units: physical bounds that are both 0 are the logical ones
abbrev pub physical_of : HidreportMeasures → ℤ → Option Fraction
physical_of m v =
    if int_eq m.physical_minimum (pos 0) && int_eq m.physical_maximum (pos 0)
    then on_line m.logical_minimum m.logical_maximum m.logical_minimum m.logical_maximum v
    else on_line m.logical_minimum m.logical_maximum m.physical_minimum m.physical_maximum v

-- the value between -1 at the logical minimum and 1 at the maximum
abbrev pub normalized_of : HidreportMeasures → ℤ → Option Fraction
normalized_of m v = on_line m.logical_minimum m.logical_maximum (negsuc 0) (pos 1) v

-- 64 bits don't hold the number with its sign; negsuc n is -(n + 1)
abbrev pub is_past : ℤ → Bool
is_past n = int_lt n (negsuc (2 ^ 63 - 1)) || int_lt (pos (2 ^ 63 - 1)) n

-- there is none
abbrev pub no_fraction : HidreportFraction
no_fraction = record { numerator = pos 0; denominator = pos 0; is_there = false }

-- a fraction, if there is one and 64 bits hold its numerator
abbrev pub fraction_as_c : Option Fraction → HidreportFraction
fraction_as_c None = no_fraction
fraction_as_c (Some f) =
    if is_past f.numerator then no_fraction
    else record { numerator = f.numerator; denominator = f.denominator; is_there = true }
