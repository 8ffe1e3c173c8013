use Rattle.std.proofs.Common.{◌∙◌, List, Result, Ok, sym, ap}
use Rattle.std.specs.Prelude.{ℤ}
use Rattle.hidreport.specs.Answer.{Refusal}
use Rattle.hidreport_example.specs.Numbers.{each_number}
use Rattle.hidreport_example.proofs.values.number_of.Goals as goal

abbrev given : List ℤ → Result (List ℤ) Refusal
given ns = Ok ns

pub returns : goal.returns
returns c = ap each_number c.in_ok-value.ensures.answer ∙ ap given (sym c.in_ok-numbers.ensures)
