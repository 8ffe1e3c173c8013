-- The lamps of a device, and what is written to it where one is set: the output report that has their
-- values (hidinput_input_event, hidinput_led_worker and hid_output_report of Linux 6.12; Sections 5.6
-- and 5.8).
use Rattle.std.specs.Prelude.{◌≡◌, ℕ, ℤ, Bool, true, false, ◌+◌, ◌*◌, ◌%◌, ◌==◌, ◌&&◌, ◌||◌, not, min, nat_le}
use Rattle.std.specs.Prelude.{if◌then◌else◌, List, [], ◌∷◌, ◌++◌, length, replicate, slice_get}
use Rattle.std.specs.Prelude.{Option, Some, None, is_some, Vec}
use Rattle.std.specs.Global.{Global}
use Rattle.std.specs.Int.{div_ceil}
use Rattle.std.specs.List.{position_from, slice_set}
use Rattle.hidreport_fields.specs.WritingValues.{fits, put}
use Rattle.hidreport_events.specs.Senders.{is_zero}
use Rattle.hidreport_events.specs.declared.input_event.InputEvent.{InputEvent}
use Rattle.hidreport_events.specs.declared.lamp.Lamp.{Lamp}
use Rattle.hidreport_linux.specs.declared.event_code.EventCode.{EventCode}
use Rattle.hidreport_linux.specs.declared.event_code.EventType.{EventType}
use Rattle.hidreport_linux.specs.declared.event_code.EventType.TheVariants.{Led}

-- Setting a lamp

-- so many bits hold a value with a sign: none hold 0 alone, and 32 or more each
unfoldable pub holds : ℕ → ℤ → Bool
holds size value =
    if size == 0 then is_zero value else nat_le 32 size || fits size true value

-- a lamp takes a value: it has a place, whose bits hold the value, if it has a sign
unfoldable pub takes : Lamp → ℤ → Bool
takes l value = l.has_place && (not l.is_signed || holds l.size value)

-- a lamp behind a value that is set
unfoldable pub with_value : ℤ → Lamp → Lamp
with_value value l = if takes l value then record l { value = value } else l

abbrev pub has_number : ℕ → Lamp → Bool
has_number number l = l.number == number

-- where the first lamp with a number stands
abbrev pub place_of : ℕ → List Lamp → Option ℕ
place_of number ls = position_from (has_number number) 0 ls

abbrev pub with_set_in : ℕ → Option Lamp → ℤ → List Lamp → List Lamp
with_set_in place None value ls = ls
with_set_in place (Some l) value ls = slice_set ls place (with_value value l)

abbrev pub with_set_at : Option ℕ → ℤ → List Lamp → List Lamp
with_set_at None value ls = ls
with_set_at (Some place) value ls = with_set_in place (slice_get ls place) value ls

-- the first lamp with a number is the one that is set
abbrev pub with_set : ℕ → ℤ → List Lamp → List Lamp
with_set number value ls = with_set_at (place_of number ls) value ls

-- the number of the lamp that an event of a type lights or puts out, if it does
abbrev pub lamp_by : EventType → ℕ → Option ℕ
lamp_by Led number = Some number
lamp_by _ number = None

abbrev pub lamp_of : Option EventCode → Option ℕ
lamp_of None = None
lamp_of (Some code) = lamp_by code.event_type code.number

abbrev pub with_set_if : Option ℕ → ℤ → List Lamp → List Lamp
with_set_if None value ls = ls
with_set_if (Some number) value ls = with_set number value ls

-- the lamps behind an event that was handed on
unfoldable pub behind_event : InputEvent → List Lamp → List Lamp
behind_event event ls = with_set_if (lamp_of event.code) event.value ls

abbrev pub behind_events : List InputEvent → List Lamp → List Lamp
behind_events [] ls = ls
behind_events (event ∷ events) ls = behind_events events (behind_event event ls)

-- What is written

-- at most 32 bits of a place have the value
abbrev pub width_of : Lamp → ℕ
width_of l = min l.size 32

unfoldable pub lies_in : Lamp → List ℕ → Bool
lies_in l bytes = l.has_place
    && (not (l.size == 0) && nat_le (l.first_bit + width_of l) (8 * length bytes))

-- a lamp's value in its place: the low bits of its two's complement
unfoldable pub with_lamp : Lamp → List ℕ → List ℕ
with_lamp l bytes =
    if lies_in l bytes then put l.first_bit (width_of l) (l.value ∷ []) bytes else bytes

unfoldable pub with_lamp_if : ℕ → Lamp → List ℕ → List ℕ
with_lamp_if id l bytes = if l.id == id then with_lamp l bytes else bytes

-- the values of the lamps of the report with an id
abbrev pub with_lamps : ℕ → List Lamp → List ℕ → List ℕ
with_lamps id [] bytes = bytes
with_lamps id (l ∷ ls) bytes = with_lamps id ls (with_lamp_if id l bytes)

abbrev pub id_bytes : ℕ → List ℕ
id_bytes id = if id == 0 then [] else id % 256 ∷ []

-- a report with so many bits, its id before them, if it has one; all but lamps is 0
unfoldable pub bytes_with : ℕ → ℕ → List Lamp → List ℕ
bytes_with id bits ls = id_bytes id ++ with_lamps id ls (replicate (div_ceil bits 8) 0)

-- the report of the first lamp
abbrev pub report_for : List Lamp → Option (List ℕ)
report_for [] = None
report_for (l ∷ ls) = Some (bytes_with l.id l.bits (l ∷ ls))

-- there is a lamp with this number
abbrev pub is_found : Option ℕ → List Lamp → Bool
is_found None ls = false
is_found (Some number) ls = is_some (place_of number ls)

-- one of the events lights one of the lamps or puts it out
abbrev pub sets_one : List InputEvent → List Lamp → Bool
sets_one [] ls = false
sets_one (event ∷ events) ls = is_found (lamp_of event.code) ls || sets_one events ls

-- what is written behind events that were handed on: the report of the first lamp, whichever was set
abbrev pub written_behind : List InputEvent → List Lamp → Option (List ℕ)
written_behind events ls = if sets_one events ls then report_for ls else None

-- these bytes are what is written
abbrev pub IsWritten : Option (List ℕ) → Option (Vec ℕ Global) → Type 0
IsWritten wanted None = wanted ≡ None
IsWritten wanted (Some bytes) = wanted ≡ Some bytes.items
