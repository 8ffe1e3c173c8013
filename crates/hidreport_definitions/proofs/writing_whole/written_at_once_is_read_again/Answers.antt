use Rattle.std.proofs.Common.{◌≡◌, List, [], ◌∷◌, Result, Err, refl}
use Rattle.std.specs.Prelude.{ℤ, pos}
use Rattle.hidreport.specs.Answer.{MismatchingReportId, Refusal}
use Rattle.hidreport_definitions.proofs.ByteLemmas.{are}
use Rattle.hidreport_definitions.proofs.FilledLemmas.{byte-filled}
use Rattle.hidreport_definitions.specs.Tiled.{byte_report}
use Rattle.hidreport_definitions.proofs.writing_whole.written_at_once_is_read_again.Goals as goal

abbrev by : Refusal → Result (List ℤ) Refusal
by refusal = Err refusal

pub returns : goal.returns
returns c = λ law.
    let read : by MismatchingReportId ≡ are (pos 0 ∷ []) =
    law.read (byte_report 261 0) (byte-filled 261) refl in cc
