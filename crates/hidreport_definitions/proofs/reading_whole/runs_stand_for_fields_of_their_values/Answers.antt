use Rattle.std.proofs.Common.{◌≡◌, List, [], ◌∷◌, Result, Ok, ℤ, pos}
use Rattle.hidreport.specs.Answer.{Refusal}
use Rattle.hidreport_definitions.proofs.reading_whole.runs_stand_for_fields_of_their_values.Goals as goal

abbrev given : ℤ → Result (List ℤ) Refusal
given number = Ok (number ∷ [])

-- bits 1 to 8 of these two bytes are 128, and the first eight are 0
pub returns-clause-elsewhere : goal.returns-clause-elsewhere
returns-clause-elsewhere c = λ stand.
    let other : given (pos 128) ≡ given (pos 0) = stand.reads (0 ∷ 1 ∷ []) in cc
