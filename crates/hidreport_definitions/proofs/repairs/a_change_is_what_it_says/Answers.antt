use Rattle.std.proofs.Common.{◌≡◌, ◌≤◌, ℕ, List, [], ◌∷◌, arith}
use Rattle.hidreport_definitions.proofs.ChangeLemmas.{repair-made, repair-one}
use Rattle.hidreport_definitions.proofs.repairs.a_change_is_what_it_says.Goals as goal

abbrev then : ℕ → ℕ → List ℕ → List ℕ
then a b bytes = a ∷ b ∷ bytes

pub returns-clause-other_bytes : goal.returns-clause-other_bytes
returns-clause-other_bytes c = λ is.
    let same : then 0x81 2 [] ≡ then 0x81 0 [] = (repair-made _ _ is).stood.0 in cc

pub returns-clause-other_offset : goal.returns-clause-other_offset
returns-clause-other_offset c = λ is.
    let same : then 5 1 [] ≡ then 0x81 2 [] = (repair-made _ _ is).stood.0 in cc

pub returns-clause-not_written : goal.returns-clause-not_written
returns-clause-not_written c = λ is.
    let same : then 0x81 2 [] ≡ then 0x81 3 [] = (repair-made _ _ is).written in cc

pub returns-clause-reversed : goal.returns-clause-reversed
returns-clause-reversed c = λ is.
    let same : then 0x81 3 (then 0x91 3 []) ≡ then 0x81 2 (then 0x91 3 (then 0x81 3 [])) =
    (repair-made _ _ is).written in cc

pub returns-clause-all_at_once : goal.returns-clause-all_at_once
returns-clause-all_at_once c = λ is.
    let few : 3 ≤ 1 = (repair-one _ _ is).0 in absurd (omega (arith, few))
