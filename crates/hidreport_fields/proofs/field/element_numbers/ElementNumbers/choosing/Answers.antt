use Rattle.std.proofs.Common.{arith, ◌≡◌, ◌+ℤ◌, ◌≤◌, ◌^◌, pos, to_z, of_z}
use Rattle.std.specs.Int.{w64}
use Rattle.std.proofs.lemmas.Int.{ints}
use Rattle.hidreport_fields.proofs.field.element_numbers.ElementNumbers.choosing.Goals as goal

pub returns-clause-some : goal.returns-clause-some
returns-clause-some c =
    let near : c.args.index ≤ 2 ^ 33 = omega (
      arith,
      ints,
      c.if-maximum-minimum.false,
      c.unsigned_abs.ensures.value,
      c.if-unsigned_abs-index.false,
    ) in
    let sum : to_z w64 (of_z w64 (to_z w64 (of_z w64 c.from-minimum.result) +ℤ to_z w64 c.args.index))
    ≡ c.args.self.now.minimum +ℤ pos c.args.index = omega (arith, ints, near) in (
      sum,
      omega (
        arith,
        ints,
        sum,
        c.if-maximum-minimum.false,
        c.unsigned_abs.ensures.value,
        c.if-unsigned_abs-index.false,
      ),
    )
