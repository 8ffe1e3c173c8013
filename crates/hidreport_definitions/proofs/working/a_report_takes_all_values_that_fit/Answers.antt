use Rattle.std.proofs.Common.{◌≡◌, Bool, false, true, [], ◌∷◌, arith, refl}
use Rattle.std.specs.Prelude.{pos}
use Rattle.hidreport_definitions.proofs.FilledLemmas.{byte-filled}
use Rattle.hidreport_definitions.proofs.working.a_report_takes_all_values_that_fit.Goals as goal

abbrev is : Bool → Bool
is answer = answer

pub returns : goal.returns
returns c = λ takes.
    let taken : is false ≡ is true = takes (byte-filled 5) (omega arith, tt)
    ((pos 1 ∷ []) ∷ []) (refl, refl, tt) in cc
