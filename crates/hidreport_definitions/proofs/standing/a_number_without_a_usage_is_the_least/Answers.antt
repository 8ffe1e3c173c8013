use Rattle.std.proofs.Common.{◌≡◌, true, false, refl, arith}
use Rattle.std.specs.Prelude.{pos}
use Rattle.std.proofs.lemmas.Int.{ints}
use Rattle.hidreport_definitions.proofs.StandingLemmas.{least}
use Rattle.hidreport_definitions.proofs.standing.a_number_without_a_usage_is_the_least.Goals as goal

pub returns-clause-behind : goal.returns-clause-behind
returns-clause-behind c = (refl, least)

pub returns-clause-chosen : goal.returns-clause-chosen
returns-clause-chosen c = λ law. let stands : false ≡ true = law.0 in cc

pub returns-clause-too_wide : goal.returns-clause-too_wide
returns-clause-too_wide c = λ law. let stands : false ≡ true = law.0 in cc

pub returns-clause-later : goal.returns-clause-later
returns-clause-later c = λ law. omega (arith, ints, law.1 (pos 2) refl)

pub returns-clause-none : goal.returns-clause-none
returns-clause-none c = λ law. let stands : true ≡ false = law (pos 2) in cc

pub returns-clause-no_bits : goal.returns-clause-no_bits
returns-clause-no_bits c = λ other. refl
