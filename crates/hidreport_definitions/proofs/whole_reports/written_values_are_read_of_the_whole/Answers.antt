use Rattle.std.proofs.Common.{◌≡◌, List, [], ◌∷◌, Result, Err, refl}
use Rattle.std.specs.Prelude.{ℤ, pos}
use Rattle.hidreport.specs.Answer.{MismatchingReportId, Refusal}
use Rattle.hidreport_definitions.proofs.ByteLemmas.{are}
use Rattle.hidreport_definitions.proofs.FilledLemmas.{byte-filled}
use Rattle.hidreport_definitions.proofs.whole_reports.written_values_are_read_of_the_whole.Goals as goal

abbrev by : Refusal → Result (List ℤ) Refusal
by refusal = Err refusal

pub returns : goal.returns
returns c = λ law.
    let read : by MismatchingReportId ≡ are (pos 0 ∷ []) =
    (law.values ((pos 0 ∷ []) ∷ []) (5 ∷ 0 ∷ []) (byte-filled 261) refl).0 in cc
