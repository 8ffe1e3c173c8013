use Rattle.std.proofs.Common.{◌≡◌, ℕ, Bool, false, true, refl}
use Rattle.hidreport_definitions.proofs.working.numbers_fit_all_fields.Goals as goal

abbrev is : Bool → Bool
is answer = answer

abbrev number : ℕ → ℕ
number n = n

pub returns : goal.returns
returns c = record {
  none = tt;
  all = (refl, refl, (refl, refl, tt));
  too_few = λ fit. let count : number 0 ≡ number 1 = fit.0 in cc;
  too_great = λ fit. let fits : is false ≡ is true = fit.1 in cc;
  later = λ fit. let fits : is false ≡ is true = fit.2.1 in cc;
  no_field = λ fit. fit;
  no_numbers = λ fit. fit;
}
