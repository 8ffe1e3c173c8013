use Rattle.std.proofs.Common.{[], ◌∷◌, Some, inr, refl, arith}
use Rattle.hidreport.proofs.BlankLemmas.{takes-all}
use Rattle.hidreport.proofs.WorkLemmas.{fields-work}
use Rattle.hidreport.specs.Tiling.{Each}
use Rattle.hidreport.specs.Working.{FieldWorks}
use Rattle.hidreport_definitions.specs.Tiled.{byte_field, byte_report}
use Rattle.hidreport_definitions.proofs.ByteLemmas.{two}
use Rattle.hidreport_definitions.proofs.working.a_byte_behind_its_id_works.Goals as goal

works : Each (FieldWorks (5 ∷ 0 ∷ [])) (byte_field 5 0 ∷ [])
works = fields-work (Some 5) 5 (0 ∷ []) 8 16 (byte_field 5 0 ∷ []) (λ f is. is) (omega arith)
    (omega arith) (refl, omega arith, refl) (tt, tt) (inr refl, tt)

pub returns : goal.returns
returns c = record {
  own = (λ e. cc, tt);
  field = works.0;
  report = λ enough. works;
  taken = takes-all (byte_report 5 0) (5 ∷ 0 ∷ [])
      (two 5 0 (omega arith) (omega arith)) refl;
}
