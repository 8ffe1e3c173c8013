use Rattle.std.proofs.Common.{[], ◌∷◌, refl, arith}
use Rattle.hidreport_definitions.proofs.ByteLemmas.{two}
use Rattle.hidreport_definitions.proofs.canonical.a_spelling_of_a_larger_number_is_not_canonical.Goals as goal

pub returns-clause-breaks : goal.returns-clause-breaks
returns-clause-breaks c = λ canonical.
    omega (arith, canonical.smallest (0x81 ∷ 0 ∷ []) (two 0x81 0 (omega arith) (omega arith), refl, refl) refl)
