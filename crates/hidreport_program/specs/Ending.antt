-- What the program ends with.
use Rattle.std.specs.Prelude.{ℕ, List, Result, Ok, Err, codes}
use Rattle.hidreport_program.specs.declared.program.ending.Outcome.{Outcome}
use Rattle.hidreport_program.specs.declared.program.ending.Outcome.TheVariants.{Done, Refused}
use Rattle.hidreport_transfer.specs.declared.fault.RunFault.TheVariants.{Read, Write}
use Rattle.hidreport_transfer.specs.declared.fault.RunFault.TheVariants.{OutOfMemory}
use Rattle.hidreport_program.specs.declared.program.faults.Fault.{Fault}
use Rattle.hidreport_program.specs.declared.program.faults.Fault.TheVariants.{Arguments, Open, Run}

-- 0 where the command's text was written, 1 where a refusal was, 2 after a fault
abbrev pub status : Result Outcome Fault → ℕ
status (Ok Done) = 0
status (Ok Refused) = 1
status (Err fault) = 2

-- what is printed of a fault, before the newline
abbrev pub fault_line : Fault → List ℕ
fault_line Arguments =
    codes "usage: hidreport items FILE | values FILE REPORT | values-within LIMIT FILE REPORT | values-globals FILE REPORT | values-globals-within LIMIT FILE REPORT | rebuild FILE"
fault_line Open = codes "fault: open"
fault_line (Run Read) = codes "fault: read"
fault_line (Run Write) = codes "fault: write"
fault_line (Run OutOfMemory) = codes "fault: memory"
