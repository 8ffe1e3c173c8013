-- A scale on which every value means the same.
use Rattle.std.proofs.Common.{◌≡◌, ◌<ℤ◌, pos, inl, Option, Some, refl, subst, arith}
use Rattle.std.proofs.lemmas.Int.{ints}
use Rattle.hidreport.specs.ScalingLaws.{Is, IsBetween, IsNotAbove, IsScale}
use Rattle.hidreport_fields.specs.declared.field.fraction.Fraction.{Fraction}
use Rattle.hidreport_definitions.specs.Lookups.{over}
use Rattle.hidreport_definitions.specs.Scales.{always}

abbrev five : Fraction
five = over (pos 5) (pos 1)

abbrev some : Fraction → Option Fraction
some x = Some x

the-five : (x : Fraction) → some five ≡ some x → five ≡ x
the-five x e = cc

pub level-is-scale : IsScale (pos 0) (pos 1) (pos 5) (pos 5) (always five)
level-is-scale = record {
  some = λ lt v. refl;
  positive = λ v x e. subst (λ (y : Fraction). pos 0 <ℤ y.denominator) (the-five x e)
      (omega (arith, ints));
  minimum = λ x e. subst (λ y. Is y (pos 5)) (the-five x e) refl;
  maximum = λ x e. subst (λ y. Is y (pos 5)) (the-five x e) refl;
  between = λ v x from upto e. subst (λ y. IsBetween y (pos 5) (pos 5)) (the-five x e)
      (inl (omega (arith, ints), omega (arith, ints)));
  rising = λ v w x y le up e f. subst (λ z. IsNotAbove z y) (the-five x e)
      (subst (λ z. IsNotAbove five z) (the-five y f) (refl, omega (arith, ints)));
  falling = λ v w x y le up e f. subst (λ z. IsNotAbove z x) (the-five y f)
      (subst (λ z. IsNotAbove five z) (the-five x e) (refl, omega (arith, ints)));
}
