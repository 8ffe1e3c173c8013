-- How units are written: each by its name and its exponent as a superscript, one after the other.
use Rattle.std.specs.Prelude.{ℕ, ◌+◌, ◌==◌, nat_lt, ℤ, pos, negsuc, if◌then◌else◌, List, [], ◌∷◌}
use Rattle.std.specs.Prelude.{◌++◌, codes, Option, Some, None}
use Rattle.std.specs.Option.{option_map, unwrap_or}
use Rattle.hidreport_types.specs.declared.units.Units.{Units}
use Rattle.hidreport_types.specs.declared.units.Units.TheVariants.{None as NoUnit, Centimeter}
use Rattle.hidreport_types.specs.declared.units.Units.TheVariants.{Radians, Inch, Degrees, Gram}
use Rattle.hidreport_types.specs.declared.units.Units.TheVariants.{Slug, Seconds, Kelvin}
use Rattle.hidreport_types.specs.declared.units.Units.TheVariants.{Fahrenheit, Ampere, Candela}
use Rattle.hidreport_types.specs.UnitTable.{length_of, mass_of, time_of, temperature_of, current_of}
use Rattle.hidreport_types.specs.UnitTable.{luminosity_of}

-- the superscript digits in UTF-8: U+00B9, U+00B2 and U+00B3 for 1 to 3, then U+2074 and on
abbrev pub superscript : ℕ → List ℕ
superscript n =
    if n == 1 then 194 ∷ 185 ∷ []
    else (if n == 2 then 194 ∷ 178 ∷ []
    else (if n == 3 then 194 ∷ 179 ∷ [] else 226 ∷ 129 ∷ (176 + n) ∷ []))

-- the superscript minus, U+207B
abbrev pub superscript_minus : List ℕ
superscript_minus = 226 ∷ 129 ∷ 187 ∷ []

-- an exponent from -8 to 7 but 0 has a text, and that of 1 is empty
abbrev pub exponent_text : ℤ → Option (List ℕ)
exponent_text (pos n) =
    if n == 0 then None
    else (if n == 1 then Some []
    else (if nat_lt n 8 then Some (superscript n) else None))
exponent_text (negsuc n) =
    if nat_lt n 8 then Some (superscript_minus ++ superscript (n + 1)) else None

-- a name with its exponent; where the exponent has no text nothing is written at all
abbrev pub power_text : List ℕ → ℤ → List ℕ
power_text name e = unwrap_or (option_map (λ text. name ++ text) (exponent_text e)) []

-- a unit with its power, `cm` or `s` with a superscript; nothing where there is none
abbrev pub units_text : Units → List ℕ
units_text NoUnit = []
units_text (Centimeter e) = power_text (codes "cm") e
units_text (Radians e) = power_text (codes "rad") e
units_text (Inch e) = power_text (codes "in") e
units_text (Degrees e) = power_text (codes "deg") e
units_text (Gram e) = power_text (codes "g") e
units_text (Slug e) = power_text (codes "slug") e
units_text (Seconds e) = power_text (codes "s") e
units_text (Kelvin e) = power_text (codes "K") e
units_text (Fahrenheit e) = power_text (codes "F") e
units_text (Ampere e) = power_text (codes "A") e
units_text (Candela e) = power_text (codes "cd") e

-- the units of a number, in the order of their places
abbrev pub unit_text : ℕ → List ℕ
unit_text number =
    units_text (length_of number) ++ (units_text (mass_of number) ++ (units_text (time_of number)
    ++ (units_text (temperature_of number) ++ (units_text (current_of number)
    ++ units_text (luminosity_of number)))))
