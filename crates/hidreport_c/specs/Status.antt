-- Refusals as C has them: a number for each kind.
use Rattle.std.specs.Prelude.{ℕ, Result, Ok, Err}
use Rattle.hidreport.specs.Answer.{Refusal, InvalidData, OutOfBounds, MismatchingReportId, BudgetExceeded}

-- 0 is no refusal, 4 is want of memory, 6 an option that says nothing
abbrev pub status_of : Refusal → ℕ
status_of (InvalidData offset message) = 1
status_of OutOfBounds = 2
status_of MismatchingReportId = 3
status_of (BudgetExceeded offset) = 5

-- the number of the refusal in its place
abbrev pub by_status : {A : Type 0} → Result A Refusal → Result A ℕ
by_status (Ok x) = Ok x
by_status (Err refusal) = Err (status_of refusal)
