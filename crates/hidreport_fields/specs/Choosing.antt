-- The usage that a value of an array stands for (Section 6.2.2.5).
use Rattle.std.specs.Prelude.{ℤ, pos, ◌-ℤ◌, int_lt, nat_abs, if◌then◌else◌, ◌||◌, List, Option}
use Rattle.std.specs.Prelude.{None, slice_get}
use Rattle.std.specs.Int.{w32, cast_signed}
use Rattle.hidreport_fields.specs.Reading.{ValueRecord}

-- the number of a value: below 0 only where the value is signed
abbrev pub value_number : ValueRecord → ℤ
value_number v = if v.is_signed then cast_signed w32 v.word else pos v.word

-- the usage whose index is the number less the logical minimum; none where the number lies outside
-- the logical bounds (usages may be listed as numbers, too)
abbrev pub usage_chosen : {A : Type 0} → List A → ℤ → ℤ → ℤ → Option A
usage_chosen usages minimum maximum number =
    if int_lt number minimum || int_lt maximum number then None
    else slice_get usages (nat_abs (number -ℤ minimum))
