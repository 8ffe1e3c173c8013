use Rattle.std.proofs.Common.{◌≡◌, Bool, false, true, [], ◌∷◌, arith, refl}
use Rattle.std.specs.Prelude.{pos}
use Rattle.hidreport_definitions.proofs.working.all_fields_of_a_found_report_work.Goals as goal

abbrev is : Bool → Bool
is answer = answer

pub returns : goal.returns
returns c = record {
  first = λ work. let taken : is false ≡ is true =
      (work (omega arith)).0.writes (omega arith) (pos 5 ∷ []) refl refl in cc;
  second = λ work. let taken : is false ≡ is true =
      (work (omega arith)).1.0.writes (omega arith) (pos 5 ∷ []) refl refl in cc;
}
