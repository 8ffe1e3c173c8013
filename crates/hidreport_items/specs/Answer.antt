-- What a reader's answer says, want of memory apart.
use Rattle.std.specs.Prelude.{◌≡◌, ℕ, List, Result, Ok, Err, string_bytes, Vec}
use Rattle.std.specs.Global.{Global}
use Rattle.hidreport_items.specs.declared.error.HidError.{HidError}
use Rattle.hidreport_items.specs.declared.error.HidError.TheVariants as errors

-- why bytes are no item: they are wrong, for the reason that the message gives, or too few
pub data GrammarFault : Type 0 where
  Invalid : List ℕ → GrammarFault
  Insufficient : GrammarFault

-- the error is this fault; want of memory says nothing
abbrev pub Fails : {A : Type 0} → HidError → Result A GrammarFault → Type 0
Fails (errors.InvalidData message) read = read ≡ Err (Invalid (string_bytes message))
Fails errors.InsufficientData read = read ≡ Err Insufficient
Fails errors.OutOfMemory read = Unit {0}

-- the answer is what reading gives
abbrev pub Gives : {A : Type 0} → Result A HidError → Result A GrammarFault → Type 0
Gives (Ok x) read = read ≡ Ok x
Gives (Err e) read = Fails e read

-- the refusal has a message
abbrev pub HasMessage : {A : Type 0} → Result A GrammarFault → Type 0
HasMessage (Ok x) = ⊥
HasMessage (Err (Invalid text)) = Unit {0}
HasMessage (Err Insufficient) = ⊥

-- the error is this fault; only a message takes memory
abbrev pub FailsWithoutMemory : {A : Type 0} → HidError → Result A GrammarFault → Type 0
FailsWithoutMemory (errors.InvalidData message) read = read ≡ Err (Invalid (string_bytes message))
FailsWithoutMemory errors.InsufficientData read = read ≡ Err Insufficient
FailsWithoutMemory errors.OutOfMemory read = HasMessage read

-- the answer is what reading gives; only a message takes memory
abbrev pub GivesWithoutMemory : {A : Type 0} → Result A HidError → Result A GrammarFault → Type 0
GivesWithoutMemory (Ok x) read = read ≡ Ok x
GivesWithoutMemory (Err e) read = FailsWithoutMemory e read

-- the answer, seen by `view`, is what reading gives
abbrev pub GivesBy : {A B : Type 0} → (A → B) → Result A HidError → Result B GrammarFault → Type 0
GivesBy view (Ok x) read = read ≡ Ok (view x)
GivesBy view (Err e) read = Fails e read

-- the answer is these bytes; only want of memory refuses it
abbrev pub Writes : Result (Vec ℕ Global) HidError → List ℕ → Type 0
Writes (Ok written) bytes = written.items ≡ bytes
Writes (Err e) bytes = e ≡ errors.OutOfMemory

-- the error is data refused with this message, or want of memory
abbrev pub IsFault : HidError → List ℕ → Type 0
IsFault (errors.InvalidData message) text = string_bytes message ≡ text
IsFault errors.InsufficientData text = ⊥
IsFault errors.OutOfMemory text = Unit {0}
