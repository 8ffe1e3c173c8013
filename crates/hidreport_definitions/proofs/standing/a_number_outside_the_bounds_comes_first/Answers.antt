use Rattle.std.proofs.Common.{◌≡◌, ℤ, Option, Some, None, refl}
use Rattle.std.specs.Prelude.{pos}
use Rattle.hidreport_definitions.proofs.StandingLemmas.{least}
use Rattle.hidreport_definitions.proofs.standing.a_number_outside_the_bounds_comes_first.Goals as goal

abbrev it : ℤ → Option ℤ
it number = Some number

abbrev nothing : Option ℤ
nothing = None

pub returns-clause-zero : goal.returns-clause-zero
returns-clause-zero c = refl

pub returns-clause-below : goal.returns-clause-below
returns-clause-below c = refl

pub returns-clause-above : goal.returns-clause-above
returns-clause-above c = refl

pub returns-clause-within : goal.returns-clause-within
returns-clause-within c = (refl, least)

pub returns-clause-not_above : goal.returns-clause-not_above
returns-clause-not_above c = λ law. let same : it (pos 9) ≡ it (pos 0) = law in cc

pub returns-clause-not_within : goal.returns-clause-not_within
returns-clause-not_within c = λ law. let same : it (pos 3) ≡ it (pos 0) = law in cc

pub returns-clause-none : goal.returns-clause-none
returns-clause-none c = λ law. let same : nothing ≡ it (pos 0) = law in cc
