use Rattle.std.proofs.Common.{◌≡◌, ℤ, pos, refl}
use Rattle.hidreport_definitions.proofs.scaling.the_maximum_means_the_last_bound.Goals as goal

abbrev number : ℤ → ℤ
number n = n

pub returns : goal.returns
returns c = λ scale. let last : number (pos 0) ≡ number (pos 1) = scale.maximum _ refl in cc
