use Rattle.std.proofs.Common.{refl, arith}
use Rattle.std.specs.Prelude.{pos}
use Rattle.std.proofs.lemmas.Int.{ints}
use Rattle.hidreport_definitions.proofs.standing.a_later_number_is_not_the_least.Goals as goal

pub returns : goal.returns
returns c = λ law. omega (arith, ints, law.1 (pos 0) refl)
