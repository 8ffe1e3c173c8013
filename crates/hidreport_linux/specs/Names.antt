-- What event codes are called (Linux 6.12, input-event-codes.h): the tables that data/events.txt
-- has.
use Rattle.std.specs.Prelude.{ℕ, ◌-◌, ◌==◌, nat_lt, if◌then◌else◌, List, [], Option, Some, None, length}
use Rattle.std.specs.Prelude.{map}
use Rattle.std.specs.List.{slice_index_or}
use Rattle.hidreport_linux.specs.declared.event_code.EventCode.{EventCode}
use Rattle.hidreport_linux.specs.declared.event_code.EventType.{EventType}
use Rattle.hidreport_linux.specs.declared.event_code.EventType.TheVariants.{Key, Relative, Absolute}
use Rattle.hidreport_linux.specs.declared.event_code.EventType.TheVariants.{Other, Led}
use Rattle.hidreport_linux.specs.declared.name_table.TheConstants.{AXES, HIGH_KEYS, LAMPS, LOW_KEYS}
use Rattle.hidreport_linux.specs.declared.name_table.TheConstants.{MIDDLE_KEYS, MOTIONS, OTHERS}

-- the text at a place of a table, empty past its end
abbrev pub text_at : List (List ℕ) → ℕ → List ℕ
text_at texts place = slice_index_or texts place []

-- three tables of 256 keys each
unfoldable pub key_text : ℕ → List ℕ
key_text number =
    if nat_lt number 256 then text_at (map (λ text. text.now) LOW_KEYS) number
    else if nat_lt number 512 then text_at (map (λ text. text.now) MIDDLE_KEYS) (number - 256)
    else text_at (map (λ text. text.now) HIGH_KEYS) (number - 512)

-- the text of a number of a type
unfoldable pub text_of : EventType → ℕ → List ℕ
text_of Key number = key_text number
text_of Relative number = text_at (map (λ text. text.now) MOTIONS) number
text_of Absolute number = text_at (map (λ text. text.now) AXES) number
text_of Other number = text_at (map (λ text. text.now) OTHERS) number
text_of Led number = text_at (map (λ text. text.now) LAMPS) number

-- an empty text is no name
abbrev pub name_in : List ℕ → Option (List ℕ)
name_in text = if length text == 0 then None else Some text

-- the name of a code, if it has one
abbrev pub code_name : EventCode → Option (List ℕ)
code_name code = name_in (text_of code.event_type code.number)
