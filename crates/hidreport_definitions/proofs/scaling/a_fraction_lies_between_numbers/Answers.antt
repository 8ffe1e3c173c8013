use Rattle.std.proofs.Common.{arith, inl, inr}
use Rattle.std.proofs.lemmas.Int.{ints}
use Rattle.hidreport_definitions.proofs.scaling.a_fraction_lies_between_numbers.Goals as goal

pub returns : goal.returns
returns c = record {
  up = inl (omega (arith, ints), omega (arith, ints));
  down = inr (omega (arith, ints), omega (arith, ints));
  above = λ between. elim between
      [ inl up ↦ omega (arith, ints, up.1) | inr down ↦ omega (arith, ints, down.0, down.1) ];
  below = λ between. elim between
      [ inl up ↦ omega (arith, ints, up.0) | inr down ↦ omega (arith, ints, down.0, down.1) ];
}
