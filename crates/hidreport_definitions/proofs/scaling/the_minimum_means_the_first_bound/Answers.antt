use Rattle.std.proofs.Common.{◌≡◌, ℤ, pos, refl}
use Rattle.hidreport_definitions.proofs.scaling.the_minimum_means_the_first_bound.Goals as goal

abbrev number : ℤ → ℤ
number n = n

pub returns : goal.returns
returns c = λ scale. let first : number (pos 1) ≡ number (pos 0) = scale.minimum _ refl in cc
