-- What the number of a Unit item means (HID 1.11, Section 6.2.2.7): eight nibbles, the lowest names
-- the system of units, and each of the next six is the exponent of a unit.
use Rattle.std.specs.Prelude.{◌≡◌, ◌<◌, bit_or, ℕ, ◌+◌, ◌-◌, ◌*◌, ◌/◌, ◌%◌, ◌^◌, ◌==◌, nat_lt, ℤ}
use Rattle.std.specs.Prelude.{pos, negsuc, ◌-ℤ◌, Bool, true, false, if◌then◌else◌, List, [], ◌∷◌}
use Rattle.std.specs.Prelude.{Option, Some, None}
use Rattle.std.specs.Option.{option_map, unwrap_or}
use Rattle.std.specs.List.{filter}
use Rattle.hidreport_types.specs.declared.unit_system.UnitSystem.{UnitSystem}
use Rattle.hidreport_types.specs.declared.unit_system.UnitSystem.TheVariants.{None as NoSystem}
use Rattle.hidreport_types.specs.declared.unit_system.UnitSystem.TheVariants.{SILinear, SIRotation}
use Rattle.hidreport_types.specs.declared.unit_system.UnitSystem.TheVariants.{EnglishLinear}
use Rattle.hidreport_types.specs.declared.unit_system.UnitSystem.TheVariants.{EnglishRotation}
use Rattle.hidreport_types.specs.declared.units.Units.{Units}
use Rattle.hidreport_types.specs.declared.units.Units.TheVariants.{None as NoUnit, Centimeter}
use Rattle.hidreport_types.specs.declared.units.Units.TheVariants.{Radians, Inch, Degrees, Gram}
use Rattle.hidreport_types.specs.declared.units.Units.TheVariants.{Slug, Seconds, Kelvin}
use Rattle.hidreport_types.specs.declared.units.Units.TheVariants.{Fahrenheit, Ampere, Candela}

-- a nibble of a number, counted from the lowest
abbrev pub nibble : ℕ → ℕ → ℕ
nibble number place = number / 16 ^ place % 16

-- an exponent nibble is a number from -8 to 7, as two's complement
abbrev pub nibble_exponent : ℕ → ℤ
nibble_exponent n = if nat_lt n 8 then pos n else pos n -ℤ pos 16

-- the lowest nibble names the system
abbrev pub system_of : ℕ → UnitSystem
system_of number =
    if nibble number 0 == 1 then SILinear
    else (if nibble number 0 == 2 then SIRotation
    else (if nibble number 0 == 3 then EnglishLinear
    else (if nibble number 0 == 4 then EnglishRotation else NoSystem)))

-- the units of length, mass and temperature are those of the system
abbrev pub length_in : UnitSystem → ℤ → Units
length_in NoSystem e = NoUnit
length_in SILinear e = Centimeter e
length_in SIRotation e = Radians e
length_in EnglishLinear e = Inch e
length_in EnglishRotation e = Degrees e

-- the unit of mass by system, to this power
abbrev pub mass_in : UnitSystem → ℤ → Units
mass_in NoSystem e = NoUnit
mass_in SILinear e = Gram e
mass_in SIRotation e = Gram e
mass_in EnglishLinear e = Slug e
mass_in EnglishRotation e = Slug e

-- that of temperature
abbrev pub temperature_in : UnitSystem → ℤ → Units
temperature_in NoSystem e = NoUnit
temperature_in SILinear e = Kelvin e
temperature_in SIRotation e = Kelvin e
temperature_in EnglishLinear e = Fahrenheit e
temperature_in EnglishRotation e = Fahrenheit e

-- the exponent in a place; a nibble of 0 means that there is none
abbrev pub exponent_in : ℕ → ℕ → Option ℤ
exponent_in number place =
    if nibble number place == 0 then None else Some (nibble_exponent (nibble number place))

-- a unit with the exponent in a place, or no unit
abbrev pub measure_of : ℕ → ℕ → (ℤ → Units) → Units
measure_of number place unit = unwrap_or (option_map unit (exponent_in number place)) NoUnit

-- a measure of a unit's number, by its nibble: length
abbrev pub length_of : ℕ → Units
length_of number = measure_of number 1 (length_in (system_of number))

-- mass
abbrev pub mass_of : ℕ → Units
mass_of number = measure_of number 2 (mass_in (system_of number))

-- time
abbrev pub time_of : ℕ → Units
time_of number = measure_of number 3 (λ e. Seconds e)

-- temperature
abbrev pub temperature_of : ℕ → Units
temperature_of number = measure_of number 4 (temperature_in (system_of number))

-- current
abbrev pub current_of : ℕ → Units
current_of number = measure_of number 5 (λ e. Ampere e)

-- luminous intensity
abbrev pub luminosity_of : ℕ → Units
luminosity_of number = measure_of number 6 (λ e. Candela e)

-- there is a unit
abbrev pub is_unit : Units → Bool
is_unit NoUnit = false
is_unit (Centimeter e) = true
is_unit (Radians e) = true
is_unit (Inch e) = true
is_unit (Degrees e) = true
is_unit (Gram e) = true
is_unit (Slug e) = true
is_unit (Seconds e) = true
is_unit (Kelvin e) = true
is_unit (Fahrenheit e) = true
is_unit (Ampere e) = true
is_unit (Candela e) = true

-- what stands in the six places, in their order
unfoldable pub places_of : ℕ → List Units
places_of number =
    length_of number ∷ mass_of number ∷ time_of number
    ∷ temperature_of number ∷ current_of number ∷ luminosity_of number ∷ []

-- the units of a number
abbrev pub units_of : ℕ → List Units
units_of number = filter is_unit (places_of number)

-- no list rather than an empty one
abbrev pub if_any : List Units → Option (List Units)
if_any [] = None
if_any (u ∷ us) = Some (u ∷ us)

-- the other way: the number of a system
abbrev pub system_number : UnitSystem → ℕ
system_number NoSystem = 0
system_number SILinear = 1
system_number SIRotation = 2
system_number EnglishLinear = 3
system_number EnglishRotation = 4

-- the nibble of an exponent; one that has none counts as 0
abbrev pub exponent_nibble : ℤ → ℕ
exponent_nibble (pos n) = if nat_lt n 8 then n else 0
exponent_nibble (negsuc n) = if nat_lt n 8 then 15 - n else 0

-- an exponent in its place
abbrev pub exponent_at : ℕ → ℤ → ℕ
exponent_at place e = exponent_nibble e * 16 ^ place

-- the number of one unit: its exponent in its place, and the system where the unit belongs to one
-- alone
abbrev pub unit_number : Units → ℕ
unit_number NoUnit = 0
unit_number (Centimeter e) = exponent_at 1 e + system_number SILinear
unit_number (Radians e) = exponent_at 1 e + system_number SIRotation
unit_number (Inch e) = exponent_at 1 e + system_number EnglishLinear
unit_number (Degrees e) = exponent_at 1 e + system_number EnglishRotation
unit_number (Gram e) = exponent_at 2 e
unit_number (Slug e) = exponent_at 2 e
unit_number (Seconds e) = exponent_at 3 e
unit_number (Kelvin e) = exponent_at 4 e
unit_number (Fahrenheit e) = exponent_at 4 e
unit_number (Ampere e) = exponent_at 5 e
unit_number (Candela e) = exponent_at 6 e

-- a number with the numbers of some units OR-ed to it
abbrev pub with_units : ℕ → List Units → ℕ
with_units number [] = number
with_units number (u ∷ us) = with_units (bit_or number (unit_number u)) us

-- where a system is named and the highest nibble, which means nothing, is 0, the system and the
-- units make up the number
abbrev pub MakeUp : List Units → ℕ → Type 0
MakeUp units number =
    0 < nibble number 0 → nibble number 0 < 5 → number < 16 ^ 7 →
    with_units (system_number (system_of number)) units ≡ number

-- a byte as two's complement
abbrev pub low_byte : ℕ → ℤ
low_byte n = if nat_lt n 128 then pos n else pos n -ℤ pos 256

-- the power of ten of a UnitExponent item: a nibble as two's complement, or any other number cut to
-- its low byte: of 14 it is -2
abbrev pub exponent_of : ℤ → ℤ
exponent_of (pos n) = if nat_lt n 16 then nibble_exponent n else low_byte (n % 256)
exponent_of (negsuc n) = low_byte (255 - n % 256)
