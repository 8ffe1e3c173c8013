use Rattle.std.proofs.Common.{◌≡◌, Bool, IsOk, List, Result, [], ◌∷◌, arith, false, refl, subst, sym, true, ℤ}
use Rattle.std.proofs.lemmas.Bool.Decides.{nat_tests}
use Rattle.hidreport.specs.Answer.{Refusal}
use Rattle.hidreport.proofs.RunReadLemmas.{all-read}
use Rattle.hidreport_definitions.specs.Summary.{one_run}
use Rattle.hidreport_definitions.proofs.FilledLemmas.{byte-filled}
use Rattle.hidreport_definitions.proofs.low_bits.reports_are_read_whole.Goals as goal

abbrev is : Bool → Bool
is answer = answer

pub returns : goal.returns
returns c = record {
  byte = λ filled bytes enough own.
      subst (λ (r : Result (List ℤ) Refusal). IsOk r)
      (sym (all-read (one_run 8 8 ∷ []) bytes
      (record { own = refl; inside = grind (arith, nat_tests, enough) }, tt))) refl;
  wide = λ whole. let read : is false ≡ is true =
      whole (byte-filled 5) (5 ∷ 0 ∷ []) (omega arith) refl in cc;
  behind = λ whole. let read : is false ≡ is true =
      whole (byte-filled 5) (5 ∷ 0 ∷ []) (omega arith) refl in cc;
}
