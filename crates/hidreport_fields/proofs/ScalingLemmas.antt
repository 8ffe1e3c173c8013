-- A number on a line is at its ends where the bounds are, between them where it lies between the
-- bounds, and goes up or down with the line.
use Rattle.std.proofs.Common.{◌≡◌, inl, inr, ℕ, zero, suc, Bool, true, false, cond, ◌&&◌, ℤ, pos}
use Rattle.std.proofs.Common.{negsuc, ◌+ℤ◌, ◌-ℤ◌, ◌≤ℤ◌, ◌<ℤ◌, int_lt, None, Some, is_some}
use Rattle.std.proofs.Common.{refl, sym, ap, ◌∙◌, arith}
use Rattle.std.specs.Ordering.{int_eq}
use Rattle.std.proofs.Math.IntN.{◌*ℤ◌, *ℤ_comm, *ℤ-negsuc, *ℤ-zero, suc_ℤ-*ℤ, zero-*ℤ}
use Rattle.std.proofs.lemmas.Bool.Decides.{nat_tests}
use Rattle.std.proofs.lemmas.Int.{ints}
use Rattle.hidreport_fields.specs.Records.{Attributes}
use Rattle.hidreport_fields.specs.Scaling.{on_line, physical_between}
use Rattle.hidreport_fields.specs.ScalingLaws.{IsBetween, IsNotAbove, IsScale, bounds_between}
use Rattle.hidreport_fields.specs.declared.field.fraction.Fraction.{Fraction}

-- products with numbers that aren't below 0

once-more : (a : ℤ) (m : ℕ) → a *ℤ pos (suc m) ≡ a *ℤ pos m +ℤ a
once-more a m = *ℤ_comm a (pos (suc m)) ∙ suc_ℤ-*ℤ (pos m) a
    ∙ ap (λ x. x +ℤ a) (*ℤ_comm (pos m) a)

distributes : (a b : ℤ) (m : ℕ) → (a +ℤ b) *ℤ pos m ≡ a *ℤ pos m +ℤ b *ℤ pos m
distributes a b zero = *ℤ-zero (a +ℤ b) ∙ omega (arith, ints, *ℤ-zero a, *ℤ-zero b)
distributes a b (suc m) =
    let rest = distributes a b m in
    omega (arith, ints, once-more (a +ℤ b) m, once-more a m, once-more b m, rest)

rises : (d e : ℤ) (k : ℕ) → d ≤ℤ e → (d *ℤ pos k) ≤ℤ (e *ℤ pos k)
rises d e zero le = omega (arith, ints, *ℤ-zero d, *ℤ-zero e)
rises d e (suc k) le =
    let rest = rises d e k le in
    omega (arith, ints, once-more d k, once-more e k, rest, le)

falls : (d e : ℤ) (k : ℕ) → d ≤ℤ e → (e *ℤ negsuc k) ≤ℤ (d *ℤ negsuc k)
falls d e k le = omega (arith, ints, *ℤ-negsuc d k, *ℤ-negsuc e k, rises d e (suc k) le)

goes-up : (d e r : ℤ) → pos 0 ≤ℤ r → d ≤ℤ e → (d *ℤ r) ≤ℤ (e *ℤ r)
goes-up d e (pos k) from le = rises d e k le
goes-up d e (negsuc k) from le = absurd (omega (arith, ints, from))

goes-down : (d e r : ℤ) → r ≤ℤ pos 0 → d ≤ℤ e → (e *ℤ r) ≤ℤ (d *ℤ r)
goes-down d e (pos zero) upto le = omega (arith, ints, *ℤ-zero d, *ℤ-zero e)
goes-down d e (pos (suc k)) upto le = absurd (omega (arith, ints, upto))
goes-down d e (negsuc k) upto le = falls d e k le

-- the number above the line, at a distance from the first bound
abbrev above : ℤ → ℤ → ℤ → ℤ → ℤ
above d h first last = d *ℤ (last -ℤ first) +ℤ first *ℤ h

at-first : (d h first last : ℤ) → d ≡ pos 0 → above d h first last ≡ first *ℤ h
at-first d h first last none =
    let e : d *ℤ (last -ℤ first) ≡ pos 0 =
    ap (λ x. x *ℤ (last -ℤ first)) none ∙ zero-*ℤ (last -ℤ first) in
    omega (arith, ints, e)

at-last : (h first last : ℤ) → pos 0 ≤ℤ h → above h h first last ≡ last *ℤ h
at-last (negsuc m) first last from = absurd (omega (arith, ints, from))
at-last (pos m) first last from =
    let r = last -ℤ first in
    let whole : r +ℤ first ≡ last = omega (arith, ints) in
    ap (λ x. x +ℤ first *ℤ pos m) (*ℤ_comm (pos m) r) ∙ sym (distributes r first m)
    ∙ ap (λ x. x *ℤ pos m) whole

-- the answer on a line
abbrev answer : ℤ → ℤ → ℤ → ℤ → ℤ → Fraction
answer low high first last v = record {
  numerator = above (v -ℤ low) (high -ℤ low) first last;
  denominator = high -ℤ low;
}

record OnLine (low high first last v : ℤ) (x : Fraction) : Type 0 where
  below : low <ℤ high
  numerator : x.numerator ≡ above (v -ℤ low) (high -ℤ low) first last
  denominator : x.denominator ≡ high -ℤ low

on-line : (low high first last v : ℤ) (x : Fraction) → on_line low high first last v ≡ Some x
    → OnLine low high first last v x
on-line low high first last v x h = by (int_lt low high) refl h where
  by : (b : Bool) → int_lt low high ≡ b
      → cond b (Some (answer low high first last v)) None ≡ Some x
      → OnLine low high first last v x
  by true e h = record { below = grind (arith, nat_tests, ints, e); numerator = cc; denominator = cc }
  by false e h = cc

given : (low high first last v : ℤ) → low <ℤ high
    → is_some (on_line low high first last v) ≡ true
given low high first last v lt =
    let below : int_lt low high ≡ true = grind (arith, nat_tests, ints, lt) in
    ap (λ b. is_some (cond b (Some (answer low high first last v)) None)) below

rising : (d h first last : ℤ) → pos 0 ≤ℤ d → d ≤ℤ h → first ≤ℤ last
    → ((first *ℤ h) ≤ℤ above d h first last) × (above d h first last ≤ℤ (last *ℤ h))
rising d h first last from upto le =
    let r = last -ℤ first in
    let up : pos 0 ≤ℤ r = omega (arith, ints, le) in
    let none = zero-*ℤ r in
    let low = goes-up (pos 0) d r up from in
    let high = goes-up d h r up upto in
    let end = at-last h first last (omega (arith, ints, from, upto)) in
    (omega (arith, ints, none, low), omega (arith, ints, high, end))

falling : (d h first last : ℤ) → pos 0 ≤ℤ d → d ≤ℤ h → last ≤ℤ first
    → ((last *ℤ h) ≤ℤ above d h first last) × (above d h first last ≤ℤ (first *ℤ h))
falling d h first last from upto le =
    let r = last -ℤ first in
    let down : r ≤ℤ pos 0 = omega (arith, ints, le) in
    let none = zero-*ℤ r in
    let low = goes-down (pos 0) d r down from in
    let high = goes-down d h r down upto in
    let end = at-last h first last (omega (arith, ints, from, upto)) in
    (omega (arith, ints, high, end), omega (arith, ints, none, low))

-- a bound times the number below the line
times : (low high first last v : ℤ) (x : Fraction) (n : ℤ) → OnLine low high first last v x
    → n *ℤ x.denominator ≡ n *ℤ (high -ℤ low)
times low high first last v x n p = ap (λ y. n *ℤ y) p.denominator

between : (low high first last v : ℤ) (x : Fraction) → low ≤ℤ v → v ≤ℤ high
    → OnLine low high first last v x → IsBetween x first last
between low high first last v x from upto p =
    by (int_lt last first) refl (times low high first last v x first p)
    (times low high first last v x last p) where
      start : pos 0 ≤ℤ (v -ℤ low)
      start = omega (arith, ints, from)

      stop : (v -ℤ low) ≤ℤ (high -ℤ low)
      stop = omega (arith, ints, upto)

      by : (b : Bool) → int_lt last first ≡ b → first *ℤ x.denominator ≡ first *ℤ (high -ℤ low)
          → last *ℤ x.denominator ≡ last *ℤ (high -ℤ low) → IsBetween x first last
      by true e one other =
          let ends = falling _ _ first last start stop (grind (arith, nat_tests, ints, e)) in
          inr (
            omega (arith, ints, ends.0, other, p.numerator),
            omega (arith, ints, ends.1, one, p.numerator),
          )
      by false e one other =
          let ends = rising _ _ first last start stop (grind (arith, nat_tests, ints, e)) in
          inl (
            omega (arith, ints, ends.0, one, p.numerator),
            omega (arith, ints, ends.1, other, p.numerator),
          )

-- two on the same line
both : (low high first last v w : ℤ) (x y : Fraction) → OnLine low high first last v x
    → OnLine low high first last w y
    → ((v -ℤ low) *ℤ (last -ℤ first)) ≤ℤ ((w -ℤ low) *ℤ (last -ℤ first)) → IsNotAbove x y
both low high first last v w x y p q le =
    (p.denominator ∙ sym q.denominator, omega (arith, ints, p.numerator, q.numerator, le))

pub line-is-scale : (low high first last : ℤ)
    → IsScale low high first last (on_line low high first last)
line-is-scale low high first last = record {
  some = λ lt v. given low high first last v lt;
  positive = λ v x h. let p = on-line low high first last v x h in
      omega (arith, ints, p.below, p.denominator);
  minimum = λ x h. let p = on-line low high first last low x h in
      p.numerator
      ∙ at-first (low -ℤ low) (high -ℤ low) first last (omega (arith, ints))
      ∙ sym (times low high first last low x first p);
  maximum = λ x h. let p = on-line low high first last high x h in
      p.numerator
      ∙ at-last (high -ℤ low) first last (omega (arith, ints, p.below))
      ∙ sym (times low high first last high x last p);
  between = λ v x from upto h. between low high first last v x from upto
      (on-line low high first last v x h);
  rising = λ v w x y le up h g. both low high first last v w x y
      (on-line low high first last v x h) (on-line low high first last w y g)
      (goes-up (v -ℤ low) (w -ℤ low) (last -ℤ first) (omega (arith, ints, le))
      (omega (arith, ints, up)));
  falling = λ v w x y le up h g. both low high first last w v y x
      (on-line low high first last w y g) (on-line low high first last v x h)
      (goes-down (v -ℤ low) (w -ℤ low) (last -ℤ first) (omega (arith, ints, le))
      (omega (arith, ints, up)));
}

abbrev chosen : Bool → ℤ × ℤ → ℤ × ℤ → ℤ × ℤ
chosen b x y = cond b x y

-- of a field: by its physical bounds, or by its own where these say nothing
pub physical-is-scale : (first last : ℤ) (a : Attributes)
    → IsScale a.logical_minimum a.logical_maximum (bounds_between first last a).0
    (bounds_between first last a).1 (physical_between first last a)
physical-is-scale first last a =
    by (int_eq first (pos 0) && int_eq last (pos 0)) a.logical_minimum a.logical_maximum
  where
    by : (b : Bool) (low high : ℤ)
        → IsScale low high (chosen b (low, high) (first, last)).0
        (chosen b (low, high) (first, last)).1
        (λ v. cond b (on_line low high low high v) (on_line low high first last v))
    by true low high = line-is-scale low high low high
    by false low high = line-is-scale low high first last
