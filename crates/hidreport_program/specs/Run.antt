-- How far a run came, by its answer.
use Rattle.std.specs.Prelude.{◌≡◌, ◌<◌, ℕ, List, length, take, Option, Some, None, Result, Ok, Err}
use Rattle.std.specs.Io.KnownBytes.{Appends}
use Rattle.hidreport_program.specs.declared.program.ending.Outcome.{Outcome}
use Rattle.hidreport_transfer.specs.declared.fault.RunFault.{RunFault}
use Rattle.hidreport_transfer.specs.declared.fault.RunFault.TheVariants.{Read, Write}
use Rattle.hidreport_transfer.specs.declared.fault.RunFault.TheVariants.{OutOfMemory}
use Rattle.hidreport_program.specs.Output.{Output}

-- both inputs were read and the text was begun
abbrev pub BeganWriting : Result Outcome RunFault → Type 0
BeganWriting (Ok outcome) = Unit {0}
BeganWriting (Err Write) = Unit {0}
BeganWriting (Err Read) = ⊥
BeganWriting (Err OutOfMemory) = ⊥

-- a beginning of the text, but not all of it, came after the bytes that were taken before
abbrev pub WroteBeginning : Option (List ℕ) → Option (List ℕ) → List ℕ → Type 0
WroteBeginning old new text = (count : ℕ) × (count < length text) × Appends old new
    (take count text)

-- after an outcome all of the output was written, after `Write` a beginning of it
abbrev pub Wrote : Result Outcome RunFault → Output → Option (List ℕ) → Option (List ℕ) → Type 0
Wrote (Ok outcome) output old new = (outcome ≡ output.outcome) × Appends old new output.text
Wrote (Err Write) output old new = WroteBeginning old new output.text
Wrote (Err Read) output old new = Unit {0}
Wrote (Err OutOfMemory) output old new = Unit {0}
