use Rattle.std.proofs.Common.{arith, ◌^◌, ◌≤◌, ◌*ℤ◌, ◌*◌, ℤ, ℕ, unsigned_abs, subst, sym}
use Rattle.std.specs.Int.{w128}
use Rattle.std.proofs.lemmas.Int.{to_z-of_z, fits_signed_mul, unsigned_abs-mul}
use Rattle.std.proofs.Math.Nat.{mul-le-mul}
use Rattle.hidreport_fields.proofs.field.fraction.product.Goals as goal

bounded : (a b : ℤ) (m n : ℕ) → unsigned_abs a ≤ m → unsigned_abs b ≤ n
    → unsigned_abs (a *ℤ b) ≤ m * n
bounded a b m n p q = omega (arith, unsigned_abs-mul a b, mul-le-mul p q)

pub returns-clause-product : goal.returns-clause-product
returns-clause-product c =
    let distance_fits = c.ranges.distance in
    let range_fits = c.ranges.range in
    let product_fits = fits_signed_mul w128 c.args.distance c.args.range (2 ^ 64) (2 ^ 32)
    c.requires.distance c.requires.range (omega arith) in
    simp to_z-of_z

pub returns-clause-bound : goal.returns-clause-bound
returns-clause-bound c = subst (λ z. unsigned_abs z ≤ 2 ^ 96) (sym (returns-clause-product c))
    (bounded c.args.distance c.args.range (2 ^ 64) (2 ^ 32) c.requires.distance c.requires.range)
