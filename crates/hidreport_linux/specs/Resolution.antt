-- How fine an axis is, in numbers of 32 bits with a sign (hid-input of Linux 6.12).
use Rattle.std.specs.Prelude.{ℕ, ℤ, pos, negsuc, zero, suc, Bool, ◌==◌, ◌||◌, min, int_div, int_le, int_lt}
use Rattle.std.specs.Prelude.{unsigned_abs, if◌then◌else◌, [], ◌∷◌, Option, Some, None}
use Rattle.std.specs.Int.{w32, int_wrapping_add, int_wrapping_mul, int_wrapping_sub}
use Rattle.std.specs.List.{list_any}
use Rattle.std.specs.Option.{option_and_then}
use Rattle.hidreport_linux.specs.declared.axis.Measures.{Measures}

-- how far apart two bounds are
unfoldable pub span : ℤ → ℤ → ℤ
span low high = int_wrapping_sub w32 high low

-- a product, where it isn't less than the number
unfoldable pub times : ℤ → ℤ → Option ℤ
times number factor =
    if int_lt (int_wrapping_mul w32 number factor) number then None
    else Some (int_wrapping_mul w32 number factor)

-- a number times so many tens, where no product is less than the one before
abbrev pub tens : ℕ → ℤ → Option ℤ
tens zero number = Some number
tens (suc more) number = option_and_then (tens more) (times number (pos 10))

-- a product of 33 tens has no bit left
unfoldable pub with_powers : ℕ → ℤ → Option ℤ
with_powers powers number = tens (min powers 33) number

-- a quotient, rounded to the nearest
unfoldable pub rounded : ℤ → ℤ → Option ℤ
rounded number divisor =
    if int_le divisor (pos 0) then None
    else Some (int_div (int_wrapping_add w32 number (int_div divisor (pos 2))) divisor)

-- the logical span by the physical one times a power of ten
unfoldable pub divided : ℤ → ℤ → ℤ → Option ℤ
divided logical physical exponent =
    if int_lt exponent (pos 0) then
    option_and_then (λ number. rounded number physical)
    (with_powers (unsigned_abs exponent) logical)
    else option_and_then (rounded logical) (with_powers (unsigned_abs exponent) physical)

-- of centimetres (0x11) or inches (0x13, 25.4 millimetres) what a millimetre has
unfoldable pub of_length : Measures → ℤ → ℤ → Option ℤ
of_length m logical physical =
    if m.unit == 0x11 then divided logical physical (int_wrapping_add w32 m.exponent (pos 1))
    else if m.unit == 0x13 then
    option_and_then (λ number. divided logical number (int_wrapping_add w32 m.exponent (negsuc 0)))
    (times physical (pos 254))
    else None

-- of radians (0x12) or degrees (0x14, 57.3 to a radian) what a radian has
unfoldable pub of_angle : Measures → ℤ → ℤ → Option ℤ
of_angle m logical physical =
    if m.unit == 0x12 then divided logical physical m.exponent
    else if m.unit == 0x14 then
    option_and_then (λ number. divided number physical (int_wrapping_add w32 m.exponent (pos 1)))
    (times logical (pos 573))
    else None

-- ABS_X, Y, Z, MT_TOUCH_MAJOR, MT_TOUCH_MINOR, MT_POSITION_X, Y, MT_TOOL_X and Y
unfoldable pub is_length : ℕ → Bool
is_length code =
    list_any (λ axis. axis == code)
    (0x00 ∷ 0x01 ∷ 0x02 ∷ 0x30 ∷ 0x31 ∷ 0x35 ∷ 0x36 ∷ 0x3c ∷ 0x3d ∷ [])

-- ABS_RX, RY, RZ, WHEEL, TILT_X and TILT_Y
unfoldable pub is_angle : ℕ → Bool
is_angle code = list_any (λ axis. axis == code) (0x03 ∷ 0x04 ∷ 0x05 ∷ 0x08 ∷ 0x1a ∷ 0x1b ∷ [])

-- none where a span isn't above 0, or where neither the axis nor the unit allows one
unfoldable pub resolution : ℕ → Measures → Option ℤ
resolution code m =
    if int_le (span m.minimum m.maximum) (pos 0)
    || int_le (span m.physical_minimum m.physical_maximum) (pos 0) then None
    else if is_length code then
    of_length m (span m.minimum m.maximum) (span m.physical_minimum m.physical_maximum)
    else if is_angle code then
    of_angle m (span m.minimum m.maximum) (span m.physical_minimum m.physical_maximum)
    else None
