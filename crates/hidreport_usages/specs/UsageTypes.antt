-- Which usages hold values (HID Usage Tables 1.5, Section 3.4).
use Rattle.std.specs.Prelude.{ℕ, Bool, ◌&&◌, nat_le, if◌then◌else◌, List, [], ◌∷◌, Option, Some}
use Rattle.std.specs.Prelude.{None}
use Rattle.hidreport_usages.specs.declared.usage_type.TypedUsages.{TypedUsages}

-- what the first row says that a number lies in, if it lies in one
abbrev pub held_by : List TypedUsages → ℕ → Option Bool
held_by [] number = None
held_by (row ∷ rows) number =
    if nat_le row.first number && nat_le number row.last then Some row.holds_value
    else held_by rows number
