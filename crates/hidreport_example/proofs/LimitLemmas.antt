-- Errors that don't come.
use Rattle.std.proofs.Common.{◌≢◌, ℕ, Result, Ok, Err, IfErr, refl}
use Rattle.hidreport.specs.ParserError.{ParserError}
use Rattle.hidreport.specs.ParserError.TheVariants as errors
use Rattle.hidreport_example.specs.Refusals.{IsOfDescriptor}

pub of-descriptor : {A : Type 0} (r : Result A ParserError) → r ≢ Err errors.MismatchingReportId
    → ((offset : ℕ) → r ≢ Err (errors.BudgetExceeded offset)) → IfErr r IsOfDescriptor
of-descriptor (Ok x) own unlimited = tt
of-descriptor (Err (errors.InvalidData offset message)) own unlimited = tt
of-descriptor (Err errors.OutOfBounds) own unlimited = tt
of-descriptor (Err errors.MismatchingReportId) own unlimited = own refl
of-descriptor (Err errors.OutOfMemory) own unlimited = tt
of-descriptor (Err (errors.BudgetExceeded offset)) own unlimited = unlimited offset refl
