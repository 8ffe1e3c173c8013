-- The words after the program's name, as the bytes of each, and the command that they ask for.
use Rattle.std.specs.Prelude.{◌≡◌, ◌<◌, ◌^◌, ℕ, Bool, true, false, List, [], length, slice_get}
use Rattle.std.specs.Prelude.{IsSomeAnd, Option, Some, None, codes}
use Rattle.std.specs.Str.Parse.{IsNumeral, digits_value}
use Rattle.hidreport_program.specs.declared.program.commands.Command.{Command}
use Rattle.hidreport_program.specs.declared.program.commands.Command.TheVariants.{Items, Values}
use Rattle.hidreport_program.specs.declared.program.commands.Command.TheVariants.{ValuesWithin}
use Rattle.hidreport_program.specs.declared.program.commands.Command.TheVariants.{ValuesGlobals}
use Rattle.hidreport_program.specs.declared.program.commands.Command.TheVariants.{ValuesGlobalsWithin}
use Rattle.hidreport_program.specs.declared.program.commands.Command.TheVariants.{Rebuild}

-- this many words, and the first is the name
abbrev pub HasForm : List (List ℕ) → List ℕ → ℕ → Type 0
HasForm words name count = (length words ≡ count) × (slice_get words 0 ≡ Some name)

-- one or more decimal digits, of a number that a `usize` holds
abbrev pub IsLimit : List ℕ → ℕ → Type 0
IsLimit word limit = IsNumeral 10 word × (digits_value 10 word ≡ limit) × (limit < 2 ^ 64)

-- `items FILE` asks for the items, `values FILE REPORT` for the values,
-- `values-within LIMIT FILE REPORT` for the values under a budget, `values-globals FILE REPORT` for
-- the values where a Push keeps globals alone, `values-globals-within LIMIT FILE REPORT` for those
-- under a budget, `rebuild FILE` for the canonical bytes
abbrev pub AsksFor : List (List ℕ) → Command → Type 0
AsksFor words Items = HasForm words (codes "items") 2
AsksFor words Values = HasForm words (codes "values") 3
AsksFor words (ValuesWithin limit) = HasForm words (codes "values-within") 4
    × IsSomeAnd (slice_get words 1) (λ word. IsLimit word limit)
AsksFor words ValuesGlobals = HasForm words (codes "values-globals") 3
AsksFor words (ValuesGlobalsWithin limit) = HasForm words (codes "values-globals-within") 4
    × IsSomeAnd (slice_get words 1) (λ word. IsLimit word limit)
AsksFor words Rebuild = HasForm words (codes "rebuild") 2

-- the command reads a report beside the descriptor
abbrev pub reads_report : Command → Bool
reads_report Items = false
reads_report Rebuild = false
reads_report command = true

-- the command has a limit of what may be listed
abbrev pub has_limit : Command → Bool
has_limit (ValuesWithin limit) = true
has_limit (ValuesGlobalsWithin limit) = true
has_limit command = false

-- the index of the word that names the descriptor's file; a report's is next
abbrev pub file_index : Command → ℕ
file_index Items = 1
file_index Values = 1
file_index (ValuesWithin limit) = 2
file_index ValuesGlobals = 1
file_index (ValuesGlobalsWithin limit) = 2
file_index Rebuild = 1

-- what a command takes for the report's bytes: nothing where it reads none
abbrev pub report_given : Command → Option (List ℕ) → Option (List ℕ)
report_given Items left = Some []
report_given Values left = left
report_given (ValuesWithin limit) left = left
report_given ValuesGlobals left = left
report_given (ValuesGlobalsWithin limit) left = left
report_given Rebuild left = Some []
