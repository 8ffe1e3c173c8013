use Rattle.std.proofs.Common.{◌≡◌, ℕ, List, [], ◌∷◌, None, Result, Ok, inl, refl, arith}
use Rattle.std.specs.Prelude.{pos}
use Rattle.hidreport.specs.Records.{ReportRecord}
use Rattle.hidreport.specs.Tiling.{IsFilled}
use Rattle.hidreport_fields.specs.declared.field.insert_error.InsertError.{InsertError}
use Rattle.hidreport_definitions.proofs.FilledLemmas.{two-filled}
use Rattle.hidreport_definitions.specs.Summary.{variable_at}
use Rattle.hidreport_definitions.specs.Tiled.{report_with}
use Rattle.hidreport_definitions.proofs.writing_whole.each_of_several_fields_is_written.Goals as goal

abbrev made : List ℕ → Result (List ℕ) InsertError
made bytes = Ok bytes

abbrev two_bytes : ReportRecord
two_bytes = report_with None 16 (variable_at 0 8 (pos 0) ∷ variable_at 8 16 (pos 0) ∷ [])

filled : IsFilled two_bytes
filled = two-filled None 16 _ _ (refl, omega arith, (refl, omega arith, refl)) (tt, (tt, tt))
    (inl refl, (inl refl, tt)) (tt, (tt, tt))

pub returns-clause-first : goal.returns-clause-first
returns-clause-first c = λ law. let same : made (1 ∷ 2 ∷ []) ≡ made (257 ∷ 2 ∷ []) =
    law.each two_bytes filled refl in cc

pub returns-clause-second : goal.returns-clause-second
returns-clause-second c = λ law. let same : made (1 ∷ 2 ∷ []) ≡ made (1 ∷ 258 ∷ []) =
    law.each two_bytes filled refl in cc
