-- Lists as C gets them: into an array of the caller's, which may be too short.
use Rattle.std.specs.Prelude.{◌≡◌, ◌⊎◌, ℕ, List, [], ◌++◌, length, take, drop, Result, Ok, Err}
use Rattle.std.specs.Prelude.{Option, None, Some}
use Rattle.hidreport.specs.Answer.{Refusal, InvalidData, OutOfBounds, MismatchingReportId, BudgetExceeded}
use Rattle.hidreport.specs.Records.{DescriptorRecord}
use Rattle.hidreport.specs.ParserError.{ParserError}
use Rattle.hidreport.specs.ParserError.TheVariants as errors
use Rattle.hidreport.specs.Groups.{OutlineRecord, listed as with_fields}
use Rattle.hidreport_c.specs.Options.{outline_by, read_by, reading_of}
use Rattle.hidreport_c.specs.declared.options.Reading.{Reading}
use Rattle.hidreport_c.specs.Status.{status_of}
use Rattle.hidreport_c.specs.declared.structs.HidreportAnswer.{HidreportAnswer}
use Rattle.hidreport_c.specs.declared.structs.HidreportOptions.{HidreportOptions}

-- where the refused item stands in the descriptor, 0 for a refusal without a place
abbrev pub offset_of : Refusal → ℕ
offset_of (InvalidData offset message) = offset
offset_of OutOfBounds = 0
offset_of MismatchingReportId = 0
offset_of (BudgetExceeded offset) = offset

-- so many, and no refusal
abbrev pub counted : ℕ → HidreportAnswer
counted count = record { count = count; offset = 0; status = 0 }

-- none, for a reason without a place
abbrev pub refused : ℕ → HidreportAnswer
refused status = record { count = 0; offset = 0; status = status }

-- why there are none
abbrev pub refusal_as_c : Refusal → HidreportAnswer
refusal_as_c refusal =
    record { count = 0; offset = offset_of refusal; status = status_of refusal }

-- how many there are, or why there are none
abbrev pub as_answer : {A : Type 0} → Result (List A) Refusal → HidreportAnswer
as_answer (Ok xs) = counted (length xs)
as_answer (Err refusal) = refusal_as_c refusal

-- memory was refused
abbrev pub no_memory : HidreportAnswer
no_memory = refused 4

-- an option has a number that it does not know
abbrev pub unknown_option : HidreportAnswer
unknown_option = refused 6

-- what an array holds once these are written to it: as many as it has room for, and what stood
-- behind them
abbrev pub array_after : {A : Type 0} → List A → List A → List A
array_after xs old = take (length old) xs ++ drop (length xs) old

-- what there is to write: nothing where it is refused
abbrev pub list_or_nothing : {A : Type 0} → Result (List A) Refusal → List A
list_or_nothing (Ok xs) = xs
list_or_nothing (Err refusal) = []

-- the caller is told how many there are, or why there are none, and has what there was room for; or
-- memory was refused, and the array is as it was
abbrev pub Lists : {A : Type 0} → Result (List A) Refusal → List A → List A → HidreportAnswer
    → Type 0
Lists answer old new told =
    ((told ≡ as_answer answer) × (new ≡ array_after (list_or_nothing answer) old))
    ⊎ ((told ≡ no_memory) × (new ≡ old))

-- a list of what is there, unless it is refused
abbrev pub listed : {A B : Type 0} → (A → List B) → Result A Refusal → Result (List B) Refusal
listed parts (Ok x) = Ok (parts x)
listed parts (Err refusal) = Err refusal

-- the same of what options choose; where they choose nothing, the caller is told so, and the array
-- is as it was
abbrev pub ListsBy : {A O : Type 0} → (O → Result (List A) Refusal) → Option O → List A → List A
    → HidreportAnswer → Type 0
ListsBy answer None old new told = (told ≡ unknown_option) × (new ≡ old)
ListsBy answer (Some options) old new told = Lists (answer options) old new told

-- the caller is told of a list in the descriptor that these bytes are, read by these options
abbrev pub ListsOf : {A : Type 0} → (DescriptorRecord → List A) → HidreportOptions → List ℕ
    → List A → List A → HidreportAnswer → Type 0
ListsOf parts options bytes =
    ListsBy (λ chosen. listed parts (read_by chosen bytes)) (reading_of options)

-- the same of its groups
abbrev pub GroupsOf : {A : Type 0} → (OutlineRecord → List A) → HidreportOptions → List ℕ
    → List A → List A → HidreportAnswer → Type 0
GroupsOf parts options bytes =
    ListsBy (λ chosen. listed parts (outline_by chosen bytes)) (reading_of options)

-- an error as C has it
abbrev pub error_as_c : ParserError → HidreportAnswer
error_as_c (errors.InvalidData offset message) = record { count = 0; offset = offset; status = 1 }
error_as_c errors.OutOfBounds = refused 2
error_as_c errors.MismatchingReportId = refused 3
error_as_c errors.OutOfMemory = no_memory
error_as_c (errors.BudgetExceeded offset) = record { count = 0; offset = offset; status = 5 }

-- an answer that C is told is of this parse, want of memory apart
abbrev pub Tells : {A : Type 0} → HidreportAnswer → Result A Refusal → Type 0
Tells told (Ok descriptor) = told ≡ no_memory
Tells told (Err refusal) = (told ≡ no_memory) ⊎ (told ≡ refusal_as_c refusal)

-- what bytes are, read so, or what C is told
abbrev pub IsReadAs : {A : Type 0} → (Reading → List ℕ → Result A Refusal)
    → Result A HidreportAnswer → Option Reading → List ℕ → Type 0
IsReadAs read (Ok descriptor) None bytes = ⊥
IsReadAs read (Err told) None bytes = told ≡ unknown_option
IsReadAs read (Ok descriptor) (Some options) bytes = read options bytes ≡ Ok descriptor
IsReadAs read (Err told) (Some options) bytes = Tells told (read options bytes)

-- the descriptor that bytes are, or what C is told
abbrev pub IsRead : Result DescriptorRecord HidreportAnswer → Option Reading → List ℕ → Type 0
IsRead = IsReadAs read_by

-- the same of the descriptor that an outline is, its fields listed
abbrev pub IsReadListed : Result OutlineRecord HidreportAnswer → Option Reading → List ℕ → Type 0
IsReadListed (Ok outline) = IsRead (Ok (with_fields outline))
IsReadListed (Err told) = IsRead (Err told)
