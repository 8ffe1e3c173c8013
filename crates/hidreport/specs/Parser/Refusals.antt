-- The parser's own faults and what they say, want of memory apart.
use Rattle.std.specs.Prelude.{◌≡◌, Option, None, Some, Result, Ok, Err, IfSome}
use Rattle.hidreport_lists.specs.Answer.{Refusal, Refuses}
use Rattle.hidreport_lists.specs.declared.error.ParserError.{ParserError}
use Rattle.hidreport.specs.MeaningFault.{MeaningFault, TooManyPops, TooManyEnds}
use Rattle.hidreport.specs.MeaningFault.{MissingUsageMaximum, MissingUsagePage, MissingUsages}
use Rattle.hidreport.specs.MeaningFault.{OutOfBounds, BudgetExceeded}
use Rattle.hidreport.specs.declared.parser.fault.Fault.{Fault}
use Rattle.hidreport.specs.declared.parser.fault.Fault.TheVariants as faults

-- the fault of meaning that it is; want of memory is none
abbrev pub fault_named : Fault → Option MeaningFault
fault_named faults.TooManyPops = Some TooManyPops
fault_named faults.TooManyEnds = Some TooManyEnds
fault_named faults.MissingUsageMaximum = Some MissingUsageMaximum
fault_named faults.MissingUsagePage = Some MissingUsagePage
fault_named faults.MissingUsages = Some MissingUsages
fault_named faults.OutOfBounds = Some OutOfBounds
fault_named faults.BudgetExceeded = Some BudgetExceeded
fault_named faults.OutOfMemory = None

-- the fault of an item is this one; want of memory says nothing
abbrev pub IsFaultOf : Fault → Option MeaningFault → Type 0
IsFaultOf fault o = IfSome (fault_named fault) (λ f. o ≡ Some f)

-- the answer, seen by `view`, is this one, or the fault is this one's; want of memory says nothing
abbrev pub Finds : {A B : Type 0} → (A → B) → Result A Fault → Result B MeaningFault → Type 0
Finds view (Ok x) answer = answer ≡ Ok (view x)
Finds view (Err e) answer = IfSome (fault_named e) (λ f. answer ≡ Err f)

-- the error says this refusal, or want of memory
abbrev pub IsRefusal : ParserError → Refusal → Type 0
IsRefusal e r = Refuses {A = Unit {0}} e (Err r)
