-- What hid-multitouch makes of the usages of touch reports (Linux 6.12).
use Rattle.std.specs.Prelude.{ℕ, Bool, true, false, ◌+◌, ◌/◌, ◌%◌, ◌==◌, ◌&&◌, ◌||◌, not, nat_lt}
use Rattle.std.specs.Prelude.{if◌then◌else◌, Option, Some, None}
use Rattle.hidreport_linux.specs.Events.{code}
use Rattle.hidreport_linux.specs.declared.event_code.EventCode.{EventCode}
use Rattle.hidreport_linux.specs.declared.event_code.EventType.TheVariants.{Key, Absolute, Other}
use Rattle.hidreport_multitouch.specs.declared.touch_class.TouchClass.{TouchClass}
use Rattle.hidreport_multitouch.specs.declared.touch_class.TouchClass.TheVariants.{Plain, Windows8}
use Rattle.hidreport_multitouch.specs.declared.contact_code.TouchAnswer.{TouchAnswer}
use Rattle.hidreport_multitouch.specs.declared.contact_code.TouchAnswer.TheVariants as touch
use Rattle.hidreport_multitouch.specs.declared.contact_code.TouchPlace.{TouchPlace}

abbrev pub is_windows_8 : TouchClass → Bool
is_windows_8 Plain = false
is_windows_8 Windows8 = true

-- Keyboard, Wireless Radio Controls, System Multi-Axis Controller and System Control; Consumer
-- Control; Pen, Touch Screen and Touch Pad
abbrev pub is_of_touch : ℕ → Bool
is_of_touch application =
    application == 0x10006 || (application == 0x1000c || (application == 0x1000e
    || (application == 0x10080 || (application == 0xc0001 || (application == 0xd0002
    || (application == 0xd0004 || application == 0xd0005))))))

-- all applications of a device made for Windows 8, else these
abbrev pub takes_application : TouchClass → ℕ → Bool
takes_application class application = is_of_touch application || is_windows_8 class

abbrev pub axis : ℕ → TouchAnswer
axis number = touch.Code (code Absolute number)

abbrev pub timestamp : EventCode
timestamp = code Other 0x05

-- a code where something holds, else its values are only read
abbrev pub when : Bool → EventCode → TouchAnswer
when holds given = if holds then touch.Code given else touch.Read

-- ABS_MT_TOOL_X or Y at the second of two in a row, else ABS_MT_POSITION_X or Y
abbrev pub position : Bool → ℕ → ℕ → TouchAnswer
position is_again middle first = if is_again then axis middle else axis first

unfoldable pub position_answer : ℕ → Bool → TouchAnswer
position_answer id is_again =
    if id == 0x30 then position is_again 0x3c 0x35
    else if id == 0x31 then position is_again 0x3d 0x36
    else touch.Left

-- ABS_MT_PRESSURE, DISTANCE, ORIENTATION, BTN_TOUCH, ABS_MT_TOOL_TYPE, TOUCH_MAJOR, TOUCH_MINOR,
-- SLOT and MSC_TIMESTAMP; Touch Valid and Contact Count Maximum are ignored, Contact Count is read
unfoldable pub digitizer_answer : TouchPlace → ℕ → TouchAnswer
digitizer_answer place id =
    if id == 0x30 then axis 0x3a
    else if id == 0x32 then when (is_windows_8 place.class) (code Absolute 0x3b)
    else if id == 0x33 || id == 0x55 then touch.Ignored
    else if id == 0x3f then axis 0x34
    else if id == 0x42 then when (not (place.application == 0x1000e)) (code Key 0x14a)
    else if id == 0x47 then when place.tells_palms (code Absolute 0x37)
    else if id == 0x48 then axis 0x30
    else if id == 0x49 then axis 0x31
    else if id == 0x51 then axis 0x2f
    else if id == 0x54 then touch.Read
    else if id == 0x56 then touch.Code timestamp
    else touch.Left

-- one of a Touch Pad made for Windows 8, but its first
unfoldable pub is_pad_button : TouchPlace → ℕ → Bool
is_pad_button place id =
    is_windows_8 place.class && (place.application == 0xd0005 && nat_lt 1 id)

-- from BTN_0 on in a System Multi-Axis Controller, else from BTN_LEFT on
unfoldable pub button_number : TouchPlace → ℕ → ℕ
button_number place id =
    if place.application == 0x1000e then id + 0xff
    else if is_pad_button place id then id + 0x10e
    else id + 0x10f

-- no button is 0, and none is past the last key
unfoldable pub button_answer : TouchPlace → ℕ → TouchAnswer
button_answer place id =
    if id == 0 || nat_lt 0x2ff (button_number place id) then touch.PastCodes
    else touch.Code (code Key (button_number place id))

-- a usage is the same as the one before it
abbrev pub is_again : Option ℕ → ℕ → Bool
is_again None usage = false
is_again (Some before) usage = before == usage

-- what the usages of a page are given, by their ids
abbrev pub on_page : ℕ → TouchPlace → Bool → ℕ → TouchAnswer
on_page page place is_again id =
    if page == 0x01 then position_answer id is_again
    else if page == 0x09 then button_answer place id
    else if page == 0x0d then digitizer_answer place id
    else if page == 0xff00 then touch.Ignored
    else touch.Left

unfoldable pub touch_answer : TouchPlace → Option ℕ → ℕ → TouchAnswer
touch_answer place before usage =
    on_page (usage / 65536) place (is_again before usage) (usage % 65536)
