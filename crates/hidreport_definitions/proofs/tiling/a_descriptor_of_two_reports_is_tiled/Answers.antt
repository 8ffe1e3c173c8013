use Rattle.std.proofs.Common.{◌≤◌, ℕ, inl, inr, refl, arith, count_by, Option, None, Some, [], ◌∷◌}
use Rattle.std.specs.Prelude.{◌==◌}
use Rattle.std.proofs.lemmas.Bool.Decides.{nat_tests}
use Rattle.std.proofs.lemmas.Grind.{common_steps}
use Rattle.hidreport.specs.Making.{same_key}
use Rattle.hidreport.specs.Records.{fields_in_all, place_of, reports_in_all}
use Rattle.hidreport.proofs.OwnCollectionsLemmas.{own-collections}
use Rattle.hidreport_definitions.specs.Tiled.{in_keyboard, two_reports}
use Rattle.hidreport_definitions.proofs.tiling.a_descriptor_of_two_reports_is_tiled.Goals as goal

once : (id : Option ℕ) → count_by (λ r. same_key r.id id) two_reports.input ≤ 1
once None = omega arith
once (Some id) = grind (arith, nat_tests, common_steps)

numbers : (n : ℕ)
    → count_by (λ f. (place_of f).id == n) (fields_in_all (reports_in_all two_reports)) ≤ 1
numbers n = grind (arith, nat_tests, common_steps)

pub returns-clause-tiled : goal.returns-clause-tiled
returns-clause-tiled c = record {
  filled = (
    record {
      some = λ e. cc;
      covers = (refl, omega arith, (refl, omega arith, refl));
      elements = (tt, (tt, tt));
      own = (inr refl, (inl refl, tt));
      ranges = (tt, (tt, tt));
    },
    (
      record {
        some = λ e. cc;
        covers = (refl, omega arith, refl);
        elements = (refl, tt);
        own = (inr refl, tt);
        ranges = (record { page = 7; low = 4; count = 4; is = refl }, tt);
      },
      tt,
    ),
  );
  input_ids = record { once = once; first = (λ e. cc, tt) };
  output_ids = record { once = λ id. omega arith; first = tt };
  feature_ids = record { once = λ id. omega arith; first = tt };
  numbers = numbers;
  collections = own-collections (in_keyboard.collections ∷ [])
      (fields_in_all (reports_in_all two_reports)) ((refl, tt), (tt, ((refl, tt), tt)));
}
