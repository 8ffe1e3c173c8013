use Rattle.std.proofs.Common.{◌≡◌, ℕ, List, [], ◌∷◌}
use Rattle.hidreport_definitions.proofs.building.other_bytes_are_not_built.Goals as goal

abbrev bytes : List ℕ → List ℕ
bytes all = all

pub returns-clause-more : goal.returns-clause-more
returns-clause-more c = λ writes.
    let same : bytes [] ≡ bytes (5 ∷ []) = (writes (λ e. cc)).whole in cc

pub returns-clause-another : goal.returns-clause-another
returns-clause-another c = λ writes.
    let same : bytes (5 ∷ 1 ∷ []) ≡ bytes (5 ∷ 2 ∷ []) = (writes (λ e. cc)).whole in cc
