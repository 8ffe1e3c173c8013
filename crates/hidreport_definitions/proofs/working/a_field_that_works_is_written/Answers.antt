use Rattle.std.proofs.Common.{◌≡◌, Bool, false, true, [], ◌∷◌, arith, refl}
use Rattle.std.specs.Prelude.{pos}
use Rattle.hidreport_definitions.proofs.working.a_field_that_works_is_written.Goals as goal

abbrev is : Bool → Bool
is answer = answer

pub returns : goal.returns
returns c = λ works.
    let taken : is false ≡ is true = works.writes (omega arith) (pos 5 ∷ []) refl refl in cc
