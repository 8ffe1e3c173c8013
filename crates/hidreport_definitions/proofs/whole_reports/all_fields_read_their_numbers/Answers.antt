use Rattle.std.proofs.Common.{◌≡◌, List, [], ◌∷◌, Result, Ok, refl}
use Rattle.std.specs.Prelude.{ℤ, pos}
use Rattle.hidreport.specs.Answer.{Refusal}
use Rattle.hidreport_definitions.proofs.whole_reports.all_fields_read_their_numbers.Goals as goal

abbrev given : ℤ → Result (List ℤ) Refusal
given number = Ok (number ∷ [])

pub returns : goal.returns
returns c = record {
  two = (refl, (refl, tt));
  first = λ law. let same : given (pos 6) ≡ given (pos 5) = law.0 in cc;
  second = λ law. let same : given (pos 7) ≡ given (pos 6) = law.1.0 in cc;
  no_field = λ law. law;
  no_numbers = λ law. law;
}
