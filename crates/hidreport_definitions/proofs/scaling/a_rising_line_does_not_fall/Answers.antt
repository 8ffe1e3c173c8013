use Rattle.std.proofs.Common.{arith, pos, refl}
use Rattle.std.proofs.lemmas.Int.{ints}
use Rattle.hidreport_definitions.proofs.scaling.a_rising_line_does_not_fall.Goals as goal

pub returns : goal.returns
returns c = λ scale. omega (
  arith,
  ints,
  (scale.rising (pos 1) (pos 2) _ _
      (omega (arith, ints)) (omega (arith, ints)) refl refl).1,
)
