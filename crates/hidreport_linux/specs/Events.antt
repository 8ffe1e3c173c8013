-- What a usage asks for, whatever lies before it (Linux 6.12, hid-input).
use Rattle.std.specs.Prelude.{ℕ, Bool, true, false, ◌+◌, ◌-◌, ◌/◌, ◌%◌, ◌==◌, ◌||◌, ◌&&◌, nat_lt, not}
use Rattle.std.specs.Prelude.{if◌then◌else◌, Option, Some, None, Result, Ok, Err}
use Rattle.hidreport_fields.specs.declared.field.data_item.Direction.{Direction}
use Rattle.hidreport_fields.specs.declared.field.data_item.Direction.TheVariants.{Input, Output, Feature}
use Rattle.hidreport_linux.specs.Buttons.{button_code}
use Rattle.hidreport_linux.specs.Rows.{wanted_in}
use Rattle.hidreport_linux.specs.declared.code_table.TheConstants.{CODE_ROWS}
use Rattle.hidreport_linux.specs.declared.event_code.EventCode.{EventCode}
use Rattle.hidreport_linux.specs.declared.event_code.EventType.{EventType}
use Rattle.hidreport_linux.specs.declared.event_code.EventType.TheVariants.{Key, Relative, Absolute}
use Rattle.hidreport_linux.specs.declared.place.Place.{Place}
use Rattle.hidreport_linux.specs.declared.unmapped.Unmapped.{Unmapped}
use Rattle.hidreport_linux.specs.declared.unmapped.Unmapped.TheVariants as none
use Rattle.hidreport_linux.specs.declared.wanted.Role.{Role}
use Rattle.hidreport_linux.specs.declared.wanted.Role.TheVariants as role
use Rattle.hidreport_linux.specs.declared.wanted.Wanted.{Wanted}

abbrev pub code : EventType → ℕ → EventCode
code event_type number = record { event_type = event_type; number = number }

abbrev pub asks : EventCode → Bool → Role → Result Wanted Unmapped
asks code is_shared role = Ok (record { code = code; is_shared = is_shared; role = role })

-- a code that one usage may have
abbrev pub own : EventCode → Result Wanted Unmapped
own code = asks code false role.Plain

-- a code that several may have
abbrev pub shared : EventCode → Result Wanted Unmapped
shared code = asks code true role.Plain

-- for what hid-input doesn't know: BTN_MISC, REL_MISC or ABS_MISC
unfoldable pub other : Place → Result Wanted Unmapped
other place =
    if place.is_bit then own (code Key 0x100)
    else if place.is_relative then own (code Relative 0x09)
    else own (code Absolute 0x28)

-- what there is, or something else
abbrev pub there_or : Result Wanted Unmapped → Option Wanted → Result Wanted Unmapped
there_or rest (Some wanted) = Ok wanted
there_or rest None = rest

-- what the table has, or something else
unfoldable pub listed_or : Result Wanted Unmapped → ℕ → Result Wanted Unmapped
listed_or rest usage = there_or rest (wanted_in CODE_ROWS usage)

-- a button, counted from 1, where its code is none past the last
unfoldable pub button : ℕ → Place → Result Wanted Unmapped
button id place =
    if id == 0 || nat_lt 0xffff id then Err none.PastCodes
    else if nat_lt 0x2ff (button_code (id - 1) place) then Err none.PastCodes
    else own (code Key (button_code (id - 1) place))

-- 0 to 3
abbrev pub is_no_key : ℕ → Bool
is_no_key usage = usage / 4 == 0x1c000

-- 0 to FF
abbrev pub is_key_of_a_byte : ℕ → Bool
is_key_of_a_byte usage = usage / 256 == 0x700

-- those above FF don't share KEY_UNKNOWN
unfoldable pub keyboard : ℕ → Result Wanted Unmapped
keyboard usage =
    if is_no_key usage then Err none.Ignored
    else if is_key_of_a_byte usage then listed_or (shared (code Key 0xf0)) usage
    else own (code Key 0xf0)

unfoldable pub consumer : ℕ → Result Wanted Unmapped
consumer usage =
    if usage == 0xc0000 then Err none.Ignored
    else if usage == 0xc00e0 then asks (code Absolute 0x20) true role.Volume
    else if usage == 0xc0238 then asks (code Relative 0x0c) false role.SideWheel
    else listed_or (shared (code Key 0xf0)) usage

unfoldable pub battery_or_other : Bool → Place → Result Wanted Unmapped
battery_or_other is_battery place = if is_battery then Err none.Battery else other place

-- an axis: several usages may have it where it is absolute
abbrev pub axis : ℕ → Place → Result Wanted Unmapped
axis number place =
    if place.is_relative then own (code Relative number) else shared (code Absolute number)

-- a slider or a dial
abbrev pub own_axis : ℕ → Place → Result Wanted Unmapped
own_axis number place =
    if place.is_relative then own (code Relative number) else own (code Absolute number)

-- in an application of pens, or for a pen or a stylus
abbrev pub is_of_pen : Place → Bool
is_of_pen place =
    place.application == 0xd0001 || place.application == 0xd0002 || place.physical == 0xd0002
    || place.physical == 0xd0020 || place.logical == 0xd0020

-- Z, which is ABS_DISTANCE for a pen
abbrev pub depth : Place → Result Wanted Unmapped
depth place =
    if not place.is_relative && is_of_pen place then shared (code Absolute 0x19)
    else axis 2 place

abbrev pub wheel : Place → Result Wanted Unmapped
wheel place =
    if place.is_relative then asks (code Relative 0x0b) false role.Wheel
    else own (code Absolute 0x08)

-- 90 to 93, those of a D-pad
abbrev pub is_direction : ℕ → Bool
is_direction usage = usage / 4 == 0x4024

unfoldable pub direction : ℕ → Place → Result Wanted Unmapped
direction usage place =
    if is_direction usage then asks (code Absolute 0x10) false role.Direction
    else if usage == 0x1009b then listed_or (Err none.Ignored) usage
    else other place

abbrev pub is_start_or_select : ℕ → Bool
is_start_or_select usage = usage == 0x1003d || usage == 0x1003e

-- the button of wireless radio controls
abbrev pub is_of_radios : ℕ → Place → Bool
is_of_radios usage place = usage == 0x100c6 && place.application == 0x1000c

unfoldable pub rarer_control : ℕ → Place → Result Wanted Unmapped
rarer_control usage place =
    if is_start_or_select usage then listed_or (Err none.Ignored) usage
    else if is_of_radios usage place then asks (code Key 0xf7) true role.Radio
    else other place

unfoldable pub control : ℕ → Place → Result Wanted Unmapped
control usage place =
    if usage == 0x10030 then axis 0 place
    else if usage == 0x10031 then axis 1 place
    else if usage == 0x10032 then depth place
    else if usage == 0x10033 then axis 3 place
    else if usage == 0x10034 then axis 4 place
    else if usage == 0x10035 then axis 5 place
    else if usage == 0x10036 then own_axis 6 place
    else if usage == 0x10037 then own_axis 7 place
    else if usage == 0x10038 then wheel place
    else if usage == 0x10039 then asks (code Absolute 0x10) false role.Hat
    else rarer_control usage place

abbrev pub is_system_row : ℕ → Bool
is_system_row row = row == 8 || row == 10 || row == 11

-- in a System Control there are no controls of a device
unfoldable pub of_device : ℕ → Place → Result Wanted Unmapped
of_device usage place =
    if place.application == 0x10080 then Err none.SystemControl else control usage place

-- 80 to BF go by the last two digits, but for 90 to 9F
unfoldable pub by_row : ℕ → ℕ → ℕ → Place → Result Wanted Unmapped
by_row row low usage place =
    if low == 0x80 then other place
    else if is_system_row row then listed_or (Err none.Ignored) (0x10000 + low)
    else if row == 9 then direction usage place
    else of_device usage place

unfoldable pub desktop : ℕ → Place → Result Wanted Unmapped
desktop usage place = by_row (usage % 256 / 16) (usage % 256) usage place

-- a finger on a touch screen or pad, else a pen
abbrev pub tool_of : ℕ → ℕ
tool_of application = if application == 0xd0004 || application == 0xd0005 then 0x145 else 0x140

unfoldable pub in_range : Place → Result Wanted Unmapped
in_range place =
    if place.physical == 0xd0021 then own (code Key 0x146)
    else if place.physical == 0xd0022 then own (code Key 0x145)
    else if place.physical == 0 then shared (code Key (tool_of place.application))
    else own (code Key 0x140)

-- Digitizers: by the last two digits
unfoldable pub digitizer : ℕ → Place → Result Wanted Unmapped
digitizer low place =
    if low == 0x00 then Err none.Ignored
    else if low == 0x30 then asks (code Absolute 0x18) true role.Pressure
    else if low == 0x32 then in_range place
    else if low == 0x3b then Err none.Battery
    else if low == 0x45 then asks (code Key 0x14a) true role.Eraser
    else listed_or (other place) (0xd0000 + low)

abbrev pub is_of_battery : ℕ → Bool
is_of_battery id = id == 0x44 || id == 0x65

-- pages of which hid-input knows what the table has
abbrev pub is_listed : ℕ → Bool
is_listed page =
    page == 0x02 || page == 0x08 || page == 0x0b || page == 0x0f || page == 0x90
    || page == 0xff01 || page == 0xff7f

-- pages of which it ignores all
abbrev pub is_ignored : ℕ → Bool
is_ignored page =
    page == 0x00 || page == 0xff || page == 0xff00 || page == 0xff09 || page == 0xff43
    || page == 0xffbc

unfoldable pub on_other_page : ℕ → ℕ → Place → Result Wanted Unmapped
on_other_page page usage place =
    if is_listed page then listed_or (Err none.Ignored) usage
    else if is_ignored page then Err none.Ignored
    else other place

abbrev pub on_page : ℕ → ℕ → Place → Result Wanted Unmapped
on_page page usage place =
    if page == 0x01 then desktop usage place
    else if page == 0x06 then battery_or_other (usage % 65536 == 0x20) place
    else if page == 0x07 then keyboard usage
    else if page == 0x09 then button (usage % 65536) place
    else if page == 0x0c then consumer usage
    else if page == 0x0d then digitizer (usage % 256) place
    else if page == 0x85 then battery_or_other (is_of_battery (usage % 65536)) place
    else on_other_page page usage place

-- by the item first, then by the usage
-- of an output report only what is of LED
abbrev pub in_output : ℕ → ℕ → Place → Result Wanted Unmapped
in_output page usage place =
    if page == 0x08 then on_page 0x08 usage place else Err none.Output

abbrev pub in_report : Direction → ℕ → ℕ → Place → Result Wanted Unmapped
in_report Input page usage place = on_page page usage place
in_report Output page usage place = in_output page usage place
in_report Feature page usage place = Err none.Feature

-- by the item first, then by the usage
abbrev pub wanted : ℕ → Place → Result Wanted Unmapped
wanted usage place =
    if place.is_constant then Err none.Constant
    else in_report place.direction (usage / 65536) usage place
