use Rattle.std.proofs.Common.{[], ◌∷◌, refl}
use Rattle.hidreport_definitions.proofs.AgreeLemmas.{agrees}
use Rattle.hidreport_definitions.proofs.bits.bits_left_over_are_not_covered.Goals as goal

pub returns-clause-left_over_differs : goal.returns-clause-left_over_differs
returns-clause-left_over_differs c = agrees 0 6 (0xf1 ∷ []) (0xb1 ∷ []) refl
