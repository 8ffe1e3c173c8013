-- What reading a descriptor is refused for, where no limit is set.
use Rattle.hidreport.specs.ParserError.{ParserError}
use Rattle.hidreport.specs.ParserError.TheVariants as errors

-- its bytes are refused at an offset, a report is too long, or memory is refused
abbrev pub IsOfDescriptor : ParserError → Type 0
IsOfDescriptor (errors.InvalidData offset message) = Unit {0}
IsOfDescriptor errors.OutOfBounds = Unit {0}
IsOfDescriptor errors.MismatchingReportId = ⊥
IsOfDescriptor errors.OutOfMemory = Unit {0}
IsOfDescriptor (errors.BudgetExceeded offset) = ⊥
