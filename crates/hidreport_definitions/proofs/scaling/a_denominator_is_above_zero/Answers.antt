use Rattle.std.proofs.Common.{arith, pos, refl}
use Rattle.std.proofs.lemmas.Int.{ints}
use Rattle.hidreport_definitions.proofs.scaling.a_denominator_is_above_zero.Goals as goal

pub returns : goal.returns
returns c = λ scale. omega (arith, ints, scale.positive (pos 0) _ refl)
