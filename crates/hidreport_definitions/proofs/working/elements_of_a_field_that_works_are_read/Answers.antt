use Rattle.std.proofs.Common.{◌≡◌, Bool, false, true, arith}
use Rattle.hidreport_definitions.proofs.working.elements_of_a_field_that_works_are_read.Goals as goal

abbrev is : Bool → Bool
is answer = answer

pub returns : goal.returns
returns c = λ works.
    let read : is false ≡ is true = works.reads_one (omega arith) 1 (omega arith) in cc
