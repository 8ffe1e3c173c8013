-- Which refusals come of reading items.
use Rattle.std.proofs.Common.{ℕ, List, Result, Ok, Err}
use Rattle.hidreport_items.specs.Answer.{GrammarFault}
use Rattle.hidreport_lists.specs.Answer.{IsInvalidAt, IsOfItems, Refuses}
use Rattle.hidreport_lists.specs.Itemising.{as_refusal}
use Rattle.hidreport_lists.specs.declared.error.ParserError.{ParserError}
use Rattle.hidreport_lists.specs.declared.error.ParserError.TheVariants as errors

pub refused-of_items : {A : Type 0} (r : Result A (ℕ × GrammarFault)) (e : ParserError)
    → Refuses e (as_refusal r) → IsOfItems e
refused-of_items r (errors.InvalidData offset message) h = tt
refused-of_items (Ok x) errors.OutOfBounds h = cc
refused-of_items (Err f) errors.OutOfBounds h = cc
refused-of_items (Ok x) errors.MismatchingReportId h = cc
refused-of_items (Err f) errors.MismatchingReportId h = cc
refused-of_items r errors.OutOfMemory h = tt
refused-of_items (Ok x) (errors.BudgetExceeded offset) h = cc
refused-of_items (Err f) (errors.BudgetExceeded offset) h = cc

pub invalid-of_items : (e : ParserError) (offset : ℕ) (message : List ℕ)
    → IsInvalidAt e offset message → IsOfItems e
invalid-of_items (errors.InvalidData at text) offset message h = tt
invalid-of_items errors.OutOfBounds offset message h = absurd h
invalid-of_items errors.MismatchingReportId offset message h = absurd h
invalid-of_items errors.OutOfMemory offset message h = tt
invalid-of_items (errors.BudgetExceeded at) offset message h = absurd h
