-- What holds of scaled values (Section 6.2.2.7): the bounds stand for each other, what lies between
-- them stays between, and no order is turned.
use Rattle.std.specs.Prelude.{◌≡◌, ◌⊎◌, ◌≤ℤ◌, ◌<ℤ◌, ◌*ℤ◌, ℤ, pos, ◌&&◌, unwrap_or, if◌then◌else◌}
use Rattle.std.specs.Prelude.{Option, Some, is_some, true}
use Rattle.std.specs.Ordering.{int_eq}
use Rattle.hidreport_fields.specs.Records.{Attributes}
use Rattle.hidreport_fields.specs.declared.field.fraction.Fraction.{Fraction}

-- the fraction is this number, at most this number, or at least
abbrev pub Is : Fraction → ℤ → Type 0
Is x n = x.numerator ≡ n *ℤ x.denominator

-- a fraction is at most a whole number
abbrev pub IsUpTo : Fraction → ℤ → Type 0
IsUpTo x n = x.numerator ≤ℤ (n *ℤ x.denominator)

-- it is at least that number
abbrev pub IsFrom : Fraction → ℤ → Type 0
IsFrom x n = (n *ℤ x.denominator) ≤ℤ x.numerator

-- it lies between two numbers, whichever is the greater
abbrev pub IsBetween : Fraction → ℤ → ℤ → Type 0
IsBetween x first last = (IsFrom x first × IsUpTo x last) ⊎ (IsFrom x last × IsUpTo x first)

-- of two fractions over one number the first isn't above the second
abbrev pub IsNotAbove : Fraction → Fraction → Type 0
IsNotAbove x y = (x.denominator ≡ y.denominator) × (x.numerator ≤ℤ y.numerator)

-- `low` stands for `first` and `high` for `last`
pub record IsScale (low high first last : ℤ) (scaled : ℤ → Option Fraction) : Type 0 where
  pub some : low <ℤ high → (v : ℤ) → is_some (scaled v) ≡ true
  pub positive : (v : ℤ) (x : Fraction) → scaled v ≡ Some x → pos 0 <ℤ x.denominator
  pub minimum : (x : Fraction) → scaled low ≡ Some x → Is x first
  pub maximum : (x : Fraction) → scaled high ≡ Some x → Is x last
  pub between : (v : ℤ) (x : Fraction) → low ≤ℤ v → v ≤ℤ high → scaled v ≡ Some x
      → IsBetween x first last
  pub rising : (v w : ℤ) (x y : Fraction) → first ≤ℤ last → v ≤ℤ w → scaled v ≡ Some x
      → scaled w ≡ Some y → IsNotAbove x y
  pub falling : (v w : ℤ) (x y : Fraction) → last ≤ℤ first → v ≤ℤ w → scaled v ≡ Some x
      → scaled w ≡ Some y → IsNotAbove y x

-- what the logical bounds stand for: the physical ones, or themselves where both are 0 or unset
abbrev pub bounds_between : ℤ → ℤ → Attributes → ℤ × ℤ
bounds_between first last a =
    if int_eq first (pos 0) && int_eq last (pos 0)
    then (a.logical_minimum, a.logical_maximum)
    else (first, last)

-- what the logical bounds mean; a physical bound that is not set is 0
abbrev pub bounds_meant : Attributes → ℤ × ℤ
bounds_meant a =
    bounds_between (unwrap_or a.physical_minimum (pos 0)) (unwrap_or a.physical_maximum (pos 0)) a
