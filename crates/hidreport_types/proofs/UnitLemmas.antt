-- The system and the units of a number make it up.
use Rattle.std.proofs.Common.{◌≡◌, ℕ, ◌+◌, ◌*◌, ◌/◌, ◌%◌, ◌<◌, ◌≤◌, bit_and, bit_or, refl, sym, ap}
use Rattle.std.proofs.Common.{◌∙◌, arith, zero-add, List, [], ◌∷◌, Some, None}
use Rattle.std.specs.Prelude.{ℤ, ◌==◌, cond}
use Rattle.std.specs.List.{filter}
use Rattle.std.specs.Option.{option_map, unwrap_or}
use Rattle.std.specs.Int.Bits.{or_zero_r, or_add_and, and_self}
use Rattle.std.proofs.lemmas.Nat.{and_le_l, and_mod}
use Rattle.std.proofs.lemmas.Bool.{cond_both, eqb-true}
use Rattle.std.proofs.Math.Nat.{mod-eq_of_lt, zero-mul}
use Rattle.std.proofs.lemmas.Bool.Decides.{nat_tests}
use Rattle.hidreport_types.specs.declared.unit_system.UnitSystem.{UnitSystem}
use Rattle.hidreport_types.specs.declared.unit_system.UnitSystem.TheVariants.{None as NoSystem}
use Rattle.hidreport_types.specs.declared.unit_system.UnitSystem.TheVariants.{SILinear, SIRotation}
use Rattle.hidreport_types.specs.declared.unit_system.UnitSystem.TheVariants.{EnglishLinear}
use Rattle.hidreport_types.specs.declared.unit_system.UnitSystem.TheVariants.{EnglishRotation}
use Rattle.hidreport_types.specs.declared.units.Units.{Units}
use Rattle.hidreport_types.specs.declared.units.Units.TheVariants.{None as NoUnit, Centimeter}
use Rattle.hidreport_types.specs.declared.units.Units.TheVariants.{Radians, Inch, Degrees, Gram}
use Rattle.hidreport_types.specs.declared.units.Units.TheVariants.{Slug, Seconds, Kelvin}
use Rattle.hidreport_types.specs.declared.units.Units.TheVariants.{Fahrenheit, Ampere, Candela}
use Rattle.hidreport_types.specs.UnitTable.{nibble, nibble_exponent, system_of, length_in, mass_in}
use Rattle.hidreport_types.specs.UnitTable.{temperature_in, length_of, mass_of, time_of}
use Rattle.hidreport_types.specs.UnitTable.{temperature_of, current_of, luminosity_of, places_of}
use Rattle.hidreport_types.specs.UnitTable.{is_unit, units_of, if_any, system_number}
use Rattle.hidreport_types.specs.UnitTable.{exponent_nibble, exponent_at, unit_number, with_units}
use Rattle.hidreport_types.specs.UnitTable.{MakeUp}
use Rattle.hidreport_types.proofs.NibbleLemmas.{next_nibble}

-- a nibble read as an exponent and written again is itself
pub nibble-again : (n : ℕ) → n < 16 → exponent_nibble (nibble_exponent n) ≡ n
nibble-again n small = grind (arith, nat_tests)

-- no unit adds nothing, any other joins
pub joined-kept : (number : ℕ) (u : Units) (us : List Units)
    → with_units number (filter is_unit (u ∷ us)) ≡ with_units (bit_or number (unit_number u))
    (filter is_unit us)
joined-kept number NoUnit us = ap (λ m. with_units m (filter is_unit us)) (sym (or_zero_r number))
joined-kept number (Centimeter e) us = refl
joined-kept number (Radians e) us = refl
joined-kept number (Inch e) us = refl
joined-kept number (Degrees e) us = refl
joined-kept number (Gram e) us = refl
joined-kept number (Slug e) us = refl
joined-kept number (Seconds e) us = refl
joined-kept number (Kelvin e) us = refl
joined-kept number (Fahrenheit e) us = refl
joined-kept number (Ampere e) us = refl
joined-kept number (Candela e) us = refl

-- the numbers of the units that depend on the system, where there is one
pub numbers-in : (system : UnitSystem) (e : ℤ) → 0 < system_number system
    → (unit_number (length_in system e) ≡ exponent_at 1 e + system_number system)
    × (unit_number (mass_in system e) ≡ exponent_at 2 e)
    × (unit_number (temperature_in system e) ≡ exponent_at 4 e)
numbers-in NoSystem e some = absurd (omega arith)
numbers-in SILinear e some = (refl, refl, refl)
numbers-in SIRotation e some = (refl, refl, refl)
numbers-in EnglishLinear e some = (refl, refl, refl)
numbers-in EnglishRotation e some = (refl, refl, refl)

-- a named system is the lowest nibble
pub system-number : (n : ℕ) → 0 < nibble n 0 → nibble n 0 < 5
    → system_number (system_of n) ≡ nibble n 0
system-number n some few = grind (arith, nat_tests)

-- a nibble's place and the system below it hold the system already
or_within : (m s : ℕ) → s < 16 → bit_or s (m * 16 + s) ≡ m * 16 + s
or_within m s small =
    let sum : bit_or s (m * 16 + s) + bit_and s (m * 16 + s) ≡ s + (m * 16 + s) =
    or_add_and s (m * 16 + s) in
    let low : bit_and s (m * 16 + s) ≤ s = and_le_l s (m * 16 + s) in
    let high : (m * 16 + s) % 16 ≡ s = omega arith in
    let own : s % 16 ≡ s = mod-eq_of_lt small in
    let digits : bit_and s (m * 16 + s) % 16 ≡ bit_and (s % 16) ((m * 16 + s) % 16) =
    and_mod s (m * 16 + s) 4 in
    let both : bit_and s (m * 16 + s) % 16 ≡ s = digits ∙ (rw (high, own) (and_self s)) in
    omega arith

-- a unit whose number is its exponent times a factor; a nibble of 0 has no unit
pub at-nibble : (m factor : ℕ) (unit : ℤ → Units) → m < 16
    → ((e : ℤ) → unit_number (unit e) ≡ exponent_nibble e * factor)
    → unit_number (unwrap_or (option_map unit (cond (m == 0) None (Some (nibble_exponent m))))
    NoUnit) ≡ m * factor
at-nibble m factor unit small number =
    cond_both (m == 0) None (Some (nibble_exponent m))
    (λ o. unit_number (unwrap_or (option_map unit o) NoUnit) ≡ m * factor)
    (λ e. let zero : m ≡ 0 = eqb-true m 0 e in rw zero (sym (zero-mul factor)))
    (λ e. number (nibble_exponent m) ∙ ap (λ k. k * factor) (nibble-again m small))

-- the length sets the system too
pub at-length : (m s : ℕ) (unit : ℤ → Units) → m < 16 → s < 16
    → ((e : ℤ) → unit_number (unit e) ≡ exponent_nibble e * 16 + s)
    → bit_or s (unit_number (unwrap_or
    (option_map unit (cond (m == 0) None (Some (nibble_exponent m)))) NoUnit)) ≡ m * 16 + s
at-length m s unit small system number =
    cond_both (m == 0) None (Some (nibble_exponent m))
    (λ o. bit_or s (unit_number (unwrap_or (option_map unit o) NoUnit)) ≡ m * 16 + s)
    (λ e. let zero : m ≡ 0 = eqb-true m 0 e in rw zero (or_zero_r s ∙ sym (zero-add s)))
    (λ e. ap (bit_or s) (number (nibble_exponent m) ∙ ap (λ k. k * 16 + s) (nibble-again m small))
    ∙ or_within m s system)

pub joined-six : (s : ℕ) (a b c d e f : Units)
    → with_units s (filter is_unit (a ∷ b ∷ c ∷ d ∷ e ∷ f ∷ []))
    ≡ bit_or (bit_or (bit_or (bit_or (bit_or (bit_or s (unit_number a)) (unit_number b))
    (unit_number c)) (unit_number d)) (unit_number e)) (unit_number f)
joined-six s a b c d e f =
    joined-kept s a (b ∷ c ∷ d ∷ e ∷ f ∷ [])
    ∙ (joined-kept (bit_or s (unit_number a)) b (c ∷ d ∷ e ∷ f ∷ [])
    ∙ (joined-kept (bit_or (bit_or s (unit_number a)) (unit_number b)) c (d ∷ e ∷ f ∷ [])
    ∙ (joined-kept (bit_or (bit_or (bit_or s (unit_number a)) (unit_number b)) (unit_number c)) d
    (e ∷ f ∷ [])
    ∙ (joined-kept (bit_or (bit_or (bit_or (bit_or s (unit_number a)) (unit_number b))
    (unit_number c)) (unit_number d)) e (f ∷ [])
    ∙ joined-kept
    (bit_or (bit_or (bit_or (bit_or (bit_or s (unit_number a)) (unit_number b)) (unit_number c))
    (unit_number d)) (unit_number e)) f []))))

-- one place after the other, from the sum of the places below
pub joined-nibbles : (n s : ℕ) (a b c d e f : Units) → bit_or s (unit_number a) ≡ n % 256
    → unit_number b ≡ (n / 256 % 16) * 256 → unit_number c ≡ (n / 4096 % 16) * 4096
    → unit_number d ≡ (n / 65536 % 16) * 65536
    → unit_number e ≡ (n / 1048576 % 16) * 1048576 → unit_number f ≡ (n / 16777216 % 16) * 16777216
    → with_units s (filter is_unit (a ∷ b ∷ c ∷ d ∷ e ∷ f ∷ [])) ≡ n % 268435456
joined-nibbles n s a b c d e f ha hb hc hd he hf =
    rw (
      joined-six s a b c d e f,
      ha,
      hb,
      next_nibble n 8,
      hc,
      next_nibble n 12,
      hd,
      next_nibble n
          16,
      he,
      next_nibble n 20,
      hf,
    ) (next_nibble n 24)

pub make-up : (n : ℕ) → MakeUp (units_of n) n
unfolding places_of
make-up n some few unused =
    let system : system_number (system_of n) ≡ nibble n 0 = system-number n some few in
    let named : 0 < system_number (system_of n) = rw system some in
    let length : bit_or (system_number (system_of n)) (unit_number (length_of n)) ≡ (n / 16 % 16) *
    16 + system_number (system_of n) =
    at-length (n / 16 % 16) (system_number (system_of n)) (length_in (system_of n)) (omega arith)
    (omega arith) (λ e. (numbers-in (system_of n) e named).0) in
    joined-nibbles n (system_number (system_of n)) (length_of n) (mass_of n) (time_of n)
    (temperature_of n) (current_of n) (luminosity_of n)
    (length ∙ omega (arith, system))
    (at-nibble (n / 256 % 16) 256 (mass_in (system_of n)) (omega arith)
    (λ e. (numbers-in (system_of n) e named).1))
    (at-nibble (n / 4096 % 16) 4096 (λ e. Seconds e) (omega arith) (λ e. refl))
    (at-nibble (n / 65536 % 16) 65536 (temperature_in (system_of n)) (omega arith)
    (λ e. (numbers-in (system_of n) e named).2))
    (at-nibble (n / 1048576 % 16) 1048576 (λ e. Ampere e) (omega arith) (λ e. refl))
    (at-nibble (n / 16777216 % 16) 16777216 (λ e. Candela e) (omega arith) (λ e. refl))
    ∙ mod-eq_of_lt (omega arith)

pub make-up-none : (n : ℕ) → None ≡ if_any (units_of n) → MakeUp [] n
make-up-none n none = none-joined (units_of n) n none (make-up n)
  where
    none-joined : (us : List Units) (n : ℕ) → None ≡ if_any us → MakeUp us n → MakeUp [] n
    none-joined [] n none h = h
    none-joined (u ∷ us) n none h = cc
