use Rattle.std.proofs.Common.{[], ◌∷◌, refl, arith}
use Rattle.hidreport_definitions.proofs.ByteLemmas.{two}
use Rattle.hidreport_definitions.proofs.canonical.a_spelling_that_can_be_shorter_is_not_canonical.Goals as goal

pub returns-clause-breaks : goal.returns-clause-breaks
returns-clause-breaks c = λ canonical.
    omega (arith, canonical.shortest (0x25 ∷ 5 ∷ []) (two 0x25 5 (omega arith) (omega arith), refl, refl) (omega arith))
