-- The codes of buttons, counted from 0.
use Rattle.std.specs.Prelude.{ℕ, Bool, ◌+◌, ◌-◌, ◌==◌, ◌||◌, ◌&&◌, nat_lt, if◌then◌else◌}
use Rattle.hidreport_linux.specs.declared.place.Place.{Place}

-- a pointer or a mouse
abbrev pub is_pointer : ℕ → Bool
is_pointer usage = usage == 0x10001 || usage == 0x10002

-- sixteen of a joystick or gamepad, then BTN_TRIGGER_HAPPY1 and so on
abbrev pub stick_code : ℕ → ℕ → ℕ
stick_code number first = if nat_lt number 16 then number + first else number - 16 + 0x2c0

-- KEY_MACRO1 to KEY_MACRO30, then BTN_TRIGGER_HAPPY1 and so on
abbrev pub macro_code : ℕ → ℕ
macro_code number = if nat_lt number 30 then number + 0x290 else number - 30 + 0x2c0

-- BTN_MOUSE, BTN_JOYSTICK, BTN_GAMEPAD or BTN_MISC, by the physical collection
abbrev pub first_by_physical : ℕ → ℕ
first_by_physical physical =
    if is_pointer physical then 0x110
    else if physical == 0x10004 then 0x120
    else if physical == 0x10005 then 0x130
    else 0x100

-- by the application, and by the physical collection for all others
abbrev pub button_code : ℕ → Place → ℕ
button_code number place =
    if is_pointer place.application then number + 0x110
    else if place.application == 0x10004 then stick_code number 0x120
    else if place.application == 0x10005 then stick_code number 0x130
    else if place.application == 0xc0001 && place.has_macros then macro_code number
    else number + first_by_physical place.physical
