-- Wheels and volumes (hid-input of Linux 6.12; Resolution Multiplier of the HID Usage Tables).
use Rattle.std.specs.Prelude.{ℕ, zero, suc, ℤ, pos, negsuc, neg_ℤ, Bool, ◌^◌, ◌||◌, not, int_div, int_rem, int_lt}
use Rattle.std.specs.Prelude.{if◌then◌else◌, unsigned_abs}
use Rattle.std.specs.Int.{w32, int_wrapping_add, int_wrapping_mul, int_wrapping_neg}
use Rattle.std.specs.Ordering.{int_eq}
use Rattle.hidreport_events.specs.Senders.{SenderRecord, is_zero, sends, synced}
use Rattle.hidreport_linux.specs.Asking.{low_half}
use Rattle.hidreport_linux.specs.Events.{code}
use Rattle.hidreport_linux.specs.declared.event_code.EventCode.{EventCode}
use Rattle.hidreport_linux.specs.declared.event_code.EventType.TheVariants.{Key, Relative}

-- parts of 120 of a click
unfoldable pub fine_steps : ℤ → ℤ → ℤ
fine_steps multiplier value =
    if is_zero multiplier then int_wrapping_mul w32 value (pos 120)
    else if int_eq multiplier (negsuc 0) then
    int_wrapping_neg w32 (int_wrapping_mul w32 value (pos 120))
    else int_div (int_wrapping_mul w32 value (pos 120)) multiplier

-- by how much a wheel is turned behind its last click, in 16 bits
unfoldable pub turned : ℤ → ℤ → ℤ
turned before fine = low_half (int_wrapping_add w32 before fine)

-- how many clicks are whole, and how far it is turned behind the last
unfoldable pub whole_clicks : ℤ → ℤ
whole_clicks all = int_div all (pos 120)

unfoldable pub behind_click : ℤ → ℤ
behind_click all = int_rem all (pos 120)

-- whole clicks, then the fine steps
abbrev pub clicked : ℕ → ℕ → ℤ → ℤ → SenderRecord → SenderRecord
clicked coarse_code fine_code all fine s = sends (code Relative fine_code) fine
    (sends (code Relative coarse_code) (whole_clicks all) s)

abbrev pub turned_wheel : ℤ → ℤ → SenderRecord → SenderRecord
turned_wheel all fine s =
    clicked 0x08 0x0b all fine (record s { wheel = behind_click all })

abbrev pub turned_side_wheel : ℤ → ℤ → SenderRecord → SenderRecord
turned_side_wheel all fine s =
    clicked 0x06 0x0c all fine (record s { side_wheel = behind_click all })

-- behind a value of a wheel with so many steps to a click
unfoldable pub behind_wheel : ℤ → ℤ → SenderRecord → SenderRecord
behind_wheel multiplier value s =
    if is_zero value then s
    else turned_wheel (turned s.wheel (fine_steps multiplier value)) (fine_steps multiplier value) s

unfoldable pub behind_side_wheel : ℤ → ℤ → SenderRecord → SenderRecord
behind_side_wheel multiplier value s =
    if is_zero value then s
    else turned_side_wheel (turned s.side_wheel (fine_steps multiplier value))
    (fine_steps multiplier value) s

-- KEY_VOLUMEUP or KEY_VOLUMEDOWN
unfoldable pub volume_key : ℤ → EventCode
volume_key value = code Key (if int_lt (pos 0) value then 0x73 else 0x72)

-- a key is pressed and let go
unfoldable pub pressed_once : EventCode → SenderRecord → SenderRecord
pressed_once key s = synced (sends key (pos 0) (synced (sends key (pos 1) s)))

-- so many times
abbrev pub pressed_often : ℕ → EventCode → SenderRecord → SenderRecord
pressed_often zero key s = s
pressed_often (suc n) key s = pressed_often n key (pressed_once key s)

-- behind a value of a volume that turns: a press for each step; of the least number of 32 bits
-- there are none
unfoldable pub behind_volume : ℤ → SenderRecord → SenderRecord
behind_volume value s =
    if not s.has_keys || int_eq value (neg_ℤ (pos (2 ^ 31))) then s
    else pressed_often (unsigned_abs value) (volume_key value) s
