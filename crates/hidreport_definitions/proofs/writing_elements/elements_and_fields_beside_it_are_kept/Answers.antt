use Rattle.std.proofs.Common.{[], ◌∷◌, None, inl, refl, arith}
use Rattle.std.specs.Prelude.{pos}
use Rattle.hidreport.specs.Tiling.{IsFilled}
use Rattle.hidreport_definitions.specs.Summary.{array_at, variable_at}
use Rattle.hidreport_definitions.specs.Tiled.{report_with}
use Rattle.hidreport_definitions.proofs.FilledLemmas.{two-filled, zero-one}
use Rattle.hidreport_definitions.proofs.writing_elements.elements_and_fields_beside_it_are_kept.Goals as goal

filled : IsFilled (report_with None 16 (array_at 0 8 2 (pos 0) ∷ variable_at 8 16 (pos 0) ∷ []))
filled =
    two-filled None 16 _ _ (refl, omega arith, (refl, omega arith, refl)) (refl, (tt, tt))
    (inl refl, (inl refl, tt)) (tt, (tt, tt))

pub returns : goal.returns
returns c = record {
  element = λ old new law. law.elements 0 zero-one;
  field = λ old new law. law.apart _ 0 1 _ filled refl refl zero-one;
}
