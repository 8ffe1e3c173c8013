use Rattle.std.proofs.Common.{◌≡◌, Bool, false, true, arith}
use Rattle.hidreport_definitions.proofs.working.a_field_that_works_is_read.Goals as goal

abbrev is : Bool → Bool
is answer = answer

pub returns : goal.returns
returns c = record {
  byte = λ works. let read : is false ≡ is true = works.reads (omega arith) in cc;
  widest = λ works. let read : is false ≡ is true = works.reads (omega arith) in cc;
}
