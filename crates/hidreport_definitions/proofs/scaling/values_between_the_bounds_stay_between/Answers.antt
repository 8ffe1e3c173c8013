use Rattle.std.proofs.Common.{arith, inl, inr, pos, refl}
use Rattle.std.proofs.lemmas.Int.{ints}
use Rattle.hidreport_definitions.proofs.scaling.values_between_the_bounds_stay_between.Goals as goal

pub returns-clause-above : goal.returns-clause-above
returns-clause-above c = λ scale.
    elim (scale.between (pos 1) _ (omega (arith, ints)) (omega (arith, ints)) refl)
    [ inl up ↦ omega (arith, ints, up.1) | inr down ↦ omega (arith, ints, down.1) ]

pub returns-clause-applied : goal.returns-clause-applied
returns-clause-applied c = λ scaled x scale e.
    scale.between (pos 1) x (omega (arith, ints)) (omega (arith, ints)) e
