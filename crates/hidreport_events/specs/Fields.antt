-- What a field makes of a value (Section 6.2.2.5; hid-core and hid-input of Linux 6.12).
use Rattle.std.specs.Prelude.{ℕ, ℤ, pos, Bool, ◌&&◌, ◌||◌, not, int_le, int_lt, int_div, nat_lt}
use Rattle.std.specs.Prelude.{if◌then◌else◌, Option, Some, None}
use Rattle.std.specs.Int.{w32, cast_unsigned, int_wrapping_add, int_wrapping_mul, int_wrapping_sub}
use Rattle.std.specs.Ordering.{int_eq}
use Rattle.hidreport_events.specs.declared.event_field.EventField.{EventField}
use Rattle.hidreport_linux.specs.Asking.{low_half}

unfoldable pub is_outside : EventField → ℤ → Bool
is_outside f value = int_lt value f.minimum || int_lt f.maximum value

-- the bound that a value outside of the bounds is next to
abbrev pub nearest_bound : EventField → ℤ → ℤ
nearest_bound f value = if int_lt value f.minimum then f.minimum else f.maximum

-- a value as it is kept: one outside of bounds that are apart is the nearest bound, or none where
-- the field has a null state
unfoldable pub kept_value : EventField → ℤ → Option ℤ
kept_value f value =
    if not f.is_variable || int_le f.maximum f.minimum then Some value
    else if not (is_outside f value) then Some value
    else if f.has_null_state then None
    else Some (nearest_bound f value)

-- where something is, which is where it was
unfoldable pub stays : EventField → ℤ → ℤ → Bool
stays f before value =
    f.is_variable && (not f.is_relative && (not f.is_buffered && int_eq value before))

-- how far a value lies above the least one, in 32 bits
abbrev pub index_of : EventField → ℤ → ℕ
index_of f value = cast_unsigned w32 (int_wrapping_sub w32 value f.minimum)

-- which choice a value of an array is
unfoldable pub choice_of : EventField → ℤ → Option ℕ
choice_of f value =
    if is_outside f value then None
    else if nat_lt (index_of f value) f.sources then Some (index_of f value)
    else None

-- one of eight directions from 1 on, or none
unfoldable pub direction_by : ℤ → ℤ
direction_by d = if int_lt d (pos 0) || int_lt (pos 8) d then pos 0 else d

-- in which eighth of a span a value lies that is so far above the least one, from 1 on
unfoldable pub eighth : ℤ → ℤ → ℤ
eighth above span =
    if int_le span (pos 0) then pos 0
    else int_wrapping_add w32 (int_div (int_wrapping_mul w32 above (pos 8)) span) (pos 1)

-- which of eight directions a value between two bounds means, that of the least being the first
unfoldable pub direction_between : ℤ → ℤ → ℤ → ℤ
direction_between low high value = direction_by (eighth (int_wrapping_sub w32 value low)
    (int_wrapping_add w32 (int_wrapping_sub w32 high low) (pos 1)))

-- a hat's, whose bounds have 16 bits
unfoldable pub hat_direction : EventField → ℤ → ℤ
hat_direction f value = direction_between (low_half f.minimum) (low_half f.maximum) value
