use Rattle.std.proofs.Common.{◌≡◌, Bool, false, true, arith, refl}
use Rattle.std.specs.Prelude.{pos}
use Rattle.hidreport_definitions.proofs.working.elements_of_a_field_that_works_are_written.Goals as
    goal

abbrev is : Bool → Bool
is answer = answer

pub returns : goal.returns
returns c = λ works.
    let taken : is false ≡ is true =
    works.writes_one (omega arith) 0 (pos 5) (omega arith) refl in cc
