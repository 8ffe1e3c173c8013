use Rattle.std.proofs.Common.{◌≡◌, ℕ, List, [], ◌∷◌, Some, Result, Err, inr, refl, arith}
use Rattle.std.specs.Prelude.{ℤ, pos}
use Rattle.hidreport.specs.Answer.{MismatchingReportId, Refusal}
use Rattle.hidreport.specs.Records.{ReportRecord}
use Rattle.hidreport.specs.Tiling.{IsFilled}
use Rattle.hidreport_definitions.proofs.ByteLemmas.{are}
use Rattle.hidreport_definitions.proofs.FilledLemmas.{two-filled}
use Rattle.hidreport_definitions.specs.Summary.{of_report, variable_at}
use Rattle.hidreport_definitions.specs.Tiled.{byte_field, report_with}
use Rattle.hidreport_definitions.proofs.writing_whole.each_of_several_fields_is_read_again.Goals as
    goal

abbrev by : Refusal → Result (List ℤ) Refusal
by refusal = Err refusal

abbrev two_bytes : ℕ → ReportRecord
two_bytes id = report_with (Some id) 24
    (byte_field id 0 ∷ of_report id (variable_at 16 24 (pos 0)) ∷ [])

filled : (id : ℕ) → IsFilled (two_bytes id)
filled id = two-filled (Some id) 24 _ _ (refl, omega arith, (refl, omega arith, refl))
    (tt, (tt, tt)) (inr refl, (inr refl, tt)) (tt, (tt, tt))

pub returns-clause-first : goal.returns-clause-first
returns-clause-first c = λ law. let read : by MismatchingReportId ≡ are (pos 1 ∷ pos 2 ∷ []) =
    law.read (two_bytes 261) (filled 261) refl in cc

pub returns-clause-second : goal.returns-clause-second
returns-clause-second c = λ law.
    let read : are (pos 1 ∷ pos 3 ∷ []) ≡ are (pos 1 ∷ pos 2 ∷ []) =
    law.read (two_bytes 5) (filled 5) refl in cc
