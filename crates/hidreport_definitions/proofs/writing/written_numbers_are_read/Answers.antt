use Rattle.std.proofs.Common.{◌≡◌, [], ◌∷◌}
use Rattle.std.specs.Prelude.{pos, negsuc}
use Rattle.hidreport_definitions.proofs.ByteLemmas.{are}
use Rattle.hidreport_definitions.proofs.writing.written_numbers_are_read.Goals as goal

pub returns-clause-another : goal.returns-clause-another
returns-clause-another c = λ law.
    let read : are (pos 4 ∷ []) ≡ are (pos 5 ∷ []) = law.read in cc

pub returns-clause-no_sign : goal.returns-clause-no_sign
returns-clause-no_sign c = λ law.
    let read : are (pos 255 ∷ []) ≡ are (negsuc 0 ∷ []) = law.read in cc

pub returns-clause-one_of_two : goal.returns-clause-one_of_two
returns-clause-one_of_two c = λ law.
    let read : are (pos 1 ∷ pos 1 ∷ []) ≡ are (pos 1 ∷ pos 2 ∷ []) = law.read in cc

pub returns-clause-fewer : goal.returns-clause-fewer
returns-clause-fewer c = λ law.
    let read : are (pos 1 ∷ pos 2 ∷ []) ≡ are (pos 1 ∷ []) = law.read in cc
