use Rattle.std.proofs.Common.{◌≡◌, List, [], ◌∷◌, Result, Ok}
use Rattle.std.specs.Prelude.{ℤ, pos}
use Rattle.hidreport.specs.Answer.{Refusal}
use Rattle.hidreport_definitions.proofs.reading_whole.runs_stand_for_fields_that_are_cut.Goals as
    goal

abbrev given : List ℤ → Result (List ℤ) Refusal
given numbers = Ok numbers

pub returns : goal.returns
returns c = λ stand. let other : given (pos 5 ∷ []) ≡ given [] = stand.has (5 ∷ []) in cc
