use Rattle.std.proofs.Common.{◌≡◌, ℤ, pos, arith, refl}
use Rattle.std.proofs.lemmas.Int.{ints}
use Rattle.hidreport_definitions.proofs.scaling.fractions_are_compared_with_numbers.Goals as goal

abbrev number : ℤ → ℤ
number n = n

pub returns : goal.returns
returns c = record {
  is = refl;
  is_not = λ is. let same : number (pos 3) ≡ number (pos 4) = is in cc;
  from = omega (arith, ints);
  not_from = λ from. omega (arith, ints, from);
  up_to = omega (arith, ints);
  not_up_to = λ upto. omega (arith, ints, upto);
  not_above = (refl, omega (arith, ints));
  above = λ above. omega (arith, ints, above.1);
  over_others = λ above. let same : number (pos 2) ≡ number (pos 3) = above.0 in cc;
}
