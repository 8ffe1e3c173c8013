use Rattle.std.proofs.Common.{◌≡◌, ℕ, List, [], ◌∷◌, Result, Ok, Err, arith}
use Rattle.hidreport_fields.specs.declared.field.insert_error.InsertError.{InsertError}
use Rattle.hidreport_fields.specs.declared.field.insert_error.InsertError.TheVariants as refused
use Rattle.hidreport_definitions.proofs.ByteLemmas.{one}
use Rattle.hidreport_definitions.proofs.writing_whole.runs_stand_for_fields_that_are_written.Goals as goal

abbrev made : List ℕ → Result (List ℕ) InsertError
made bytes = Ok bytes

abbrev refusing : InsertError → Result (List ℕ) InsertError
refusing refusal = Err refusal

pub returns : goal.returns
returns c = λ stand.
    let other : refusing refused.OutOfBounds ≡ made (5 ∷ []) =
    stand.writes [] (5 ∷ []) (one 5 (omega arith)) in cc
