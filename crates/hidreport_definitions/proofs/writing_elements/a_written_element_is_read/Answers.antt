use Rattle.std.proofs.Common.{◌≡◌, Result, Err}
use Rattle.std.specs.Prelude.{ℤ, pos}
use Rattle.hidreport.specs.Answer.{OutOfBounds, Refusal}
use Rattle.hidreport_definitions.proofs.ByteLemmas.{is}
use Rattle.hidreport_definitions.proofs.writing_elements.a_written_element_is_read.Goals as goal

abbrev by : Refusal → Result ℤ Refusal
by refusal = Err refusal

pub returns-clause-another : goal.returns-clause-another
returns-clause-another c = λ law. let read : is (pos 2) ≡ is (pos 3) = law.read in cc

pub returns-clause-no_element : goal.returns-clause-no_element
returns-clause-no_element c = λ law. let read : by OutOfBounds ≡ is (pos 0) = law.read in cc
