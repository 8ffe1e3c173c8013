use Rattle.std.proofs.Common.{◌≡◌, ℕ, List, [], ◌∷◌, Result, Ok, refl}
use Rattle.hidreport_fields.specs.declared.field.insert_error.InsertError.{InsertError}
use Rattle.hidreport_definitions.proofs.FilledLemmas.{byte-filled}
use Rattle.hidreport_definitions.specs.Tiled.{byte_report}
use Rattle.hidreport_definitions.proofs.writing_whole.written_at_once_is_written_one_by_one.Goals as goal

abbrev made : List ℕ → Result (List ℕ) InsertError
made bytes = Ok bytes

pub returns : goal.returns
returns c = λ law.
    let other : made (5 ∷ 1 ∷ []) ≡ made (5 ∷ 257 ∷ []) =
    law.each (byte_report 5 0) (byte-filled 5) refl in cc
