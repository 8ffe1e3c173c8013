use Rattle.std.proofs.Common.{◌≡◌, ℕ, List, [], ◌∷◌}
use Rattle.hidreport_definitions.proofs.ChangeLemmas.{repair-made}
use Rattle.hidreport_definitions.proofs.repairs.bytes_that_no_change_names_stay.Goals as goal

abbrev then : ℕ → ℕ → List ℕ → List ℕ
then a b bytes = a ∷ b ∷ bytes

pub returns-clause-no_change : goal.returns-clause-no_change
returns-clause-no_change c = λ is.
    let same : then 0x81 3 [] ≡ then 0x81 2 [] = (repair-made _ _ is).written in cc

pub returns-clause-dropped : goal.returns-clause-dropped
returns-clause-dropped c = λ is.
    let same : then 5 1 [] ≡ then 5 1 (then 0x81 2 []) = (repair-made _ _ is).written in cc

pub returns-clause-another : goal.returns-clause-another
returns-clause-another c = λ is.
    let same : then 0x81 3 (then 0x91 3 []) ≡ then 0x81 3 (then 0x91 2 []) =
    (repair-made _ _ is).written in cc
