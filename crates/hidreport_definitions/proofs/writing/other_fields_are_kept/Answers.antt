use Rattle.std.proofs.Common.{[], ◌∷◌, None, Some, inl, inr, refl, arith}
use Rattle.std.specs.Prelude.{pos}
use Rattle.hidreport.specs.Tiling.{IsFilled}
use Rattle.hidreport_definitions.specs.Summary.{of_report, variable_at}
use Rattle.hidreport_definitions.specs.Tiled.{byte_field, report_with}
use Rattle.hidreport_definitions.proofs.FilledLemmas.{one-zero, two-filled, zero-one}
use Rattle.hidreport_definitions.proofs.writing.other_fields_are_kept.Goals as goal

plain : IsFilled (report_with None 16 (variable_at 0 8 (pos 0) ∷ variable_at 8 16 (pos 0) ∷ []))
plain =
    two-filled None 16 _ _ (refl, omega arith, (refl, omega arith, refl)) (tt, (tt, tt))
    (inl refl, (inl refl, tt)) (tt, (tt, tt))

with_id : IsFilled (report_with (Some 7) 24
    (byte_field 7 0 ∷ of_report 7 (variable_at 16 24 (pos 0)) ∷ []))
with_id =
    two-filled (Some 7) 24 _ _ (refl, omega arith, (refl, omega arith, refl)) (tt, (tt, tt))
    (inr refl, (inr refl, tt)) (tt, (tt, tt))

pub returns : goal.returns
returns c = record {
  behind = λ old new law. law.apart _ 0 1 _ plain refl refl zero-one;
  before = λ old new law. law.apart _ 1 0 _ with_id refl refl one-zero;
}
