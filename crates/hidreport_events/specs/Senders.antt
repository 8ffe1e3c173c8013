-- What an input device holds, and what it hands on (the input core of Linux 6.12).
use Rattle.std.specs.Prelude.{ℕ, ℤ, pos, Bool, true, false, ◌+◌, ◌^◌, ◌==◌, ◌&&◌, not, min, nat_le, nat_lt, ◌-◌, replicate}
use Rattle.std.specs.Prelude.{int_div, int_lt, if◌then◌else◌, List, [], ◌∷◌, ◌++◌, Some, None}
use Rattle.std.specs.Int.{w32, int_wrapping_add, int_wrapping_mul, int_wrapping_sub}
use Rattle.std.specs.List.{slice_index_or, slice_set}
use Rattle.std.specs.Ordering.{int_eq}
use Rattle.hidreport_events.specs.declared.input_event.InputEvent.{InputEvent}
use Rattle.hidreport_events.specs.declared.sender.Tool.{Tool}
use Rattle.hidreport_linux.specs.declared.event_code.EventCode.{EventCode}
use Rattle.hidreport_linux.specs.declared.event_code.EventType.{EventType}
use Rattle.hidreport_linux.specs.declared.event_code.EventType.TheVariants.{Key, Relative, Absolute}
use Rattle.hidreport_linux.specs.declared.event_code.EventType.TheVariants.{Other, Led}

-- Which keys are down and which lamps are lit, where each axis is, and by how much it may tremble;
-- whether there are keys, whether pressures say BTN_TOUCH, and whether an eraser alone says that
-- the pen is turned; whether it has the code of a turned pen, and which axes, movements and lamps;
-- how many events go together, and how many wait; the tool that is near, and whether a part of the
-- report says so; how far the wheels are behind their last clicks; what was handed on.
pub record SenderRecord : Type 0 where
  pub keys : List Bool
  pub lamps : List Bool
  pub axes : List ℤ
  pub fuzz : List ℤ
  pub has_keys : Bool
  pub says_touch : Bool
  pub lacks_invert : Bool
  pub has_rubber : Bool
  pub has_axes : List Bool
  pub has_motions : List Bool
  pub has_lamps : List Bool
  pub room : ℕ
  pub waiting : ℕ
  pub tool : ℕ
  pub is_near : Bool
  pub wheel : ℤ
  pub side_wheel : ℤ
  pub sent : List InputEvent

-- without codes, with all keys up and all axes at 0
abbrev pub new_sender : SenderRecord
new_sender = record {
  keys = replicate 0x300 false;
  lamps = replicate 0x10 false;
  axes = replicate 0x40 (pos 0);
  fuzz = replicate 0x40 (pos 0);
  has_keys = false;
  says_touch = false;
  lacks_invert = false;
  has_rubber = false;
  has_axes = replicate 0x40 false;
  has_motions = replicate 0x10 false;
  has_lamps = replicate 0x10 false;
  room = 8;
  waiting = 0;
  tool = 0;
  is_near = false;
  wheel = pos 0;
  side_wheel = pos 0;
  sent = [];
}

-- room for one event more
abbrev pub one_more : ℕ → ℕ
one_more room = min (room + 1) (2 ^ 64 - 1)

abbrev pub with_axis_code : ℕ → SenderRecord → SenderRecord
with_axis_code number s =
    if nat_lt number 0x40 && not (slice_index_or s.has_axes number false) then record s {
      has_axes = slice_set s.has_axes number true;
      room = one_more s.room;
    } else s

abbrev pub with_motion_code : ℕ → SenderRecord → SenderRecord
with_motion_code number s =
    if nat_lt number 0x10 && not (slice_index_or s.has_motions number false) then record s {
      has_motions = slice_set s.has_motions number true;
      room = one_more s.room;
    } else s

abbrev pub with_lamp_code : ℕ → SenderRecord → SenderRecord
with_lamp_code number s =
    if nat_lt number 0x10 then record s { has_lamps = slice_set s.has_lamps number true } else s

abbrev pub has_lamp : ℕ → SenderRecord → Bool
has_lamp number s = nat_lt number 0x10 && slice_index_or s.has_lamps number false

-- one code more, by its type
abbrev pub with_code_of : EventType → ℕ → SenderRecord → SenderRecord
with_code_of Absolute number s = with_axis_code number s
with_code_of Relative number s = with_motion_code number s
with_code_of Key number s = record s { has_keys = true }
with_code_of Led number s = with_lamp_code number s
with_code_of Other number s = s

abbrev pub with_code : EventCode → SenderRecord → SenderRecord
with_code code s = with_code_of code.event_type code.number s

abbrev pub with_fuzz : ℕ → ℤ → SenderRecord → SenderRecord
with_fuzz number fuzz s =
    if nat_lt number 0x40 then record s { fuzz = slice_set s.fuzz number fuzz } else s

abbrev pub is_down : ℕ → SenderRecord → Bool
is_down number s = nat_lt number 0x300 && slice_index_or s.keys number false

abbrev pub with_key : ℕ → Bool → SenderRecord → SenderRecord
with_key number down s =
    if nat_lt number 0x300 then record s { keys = slice_set s.keys number down } else s

abbrev pub is_lit : ℕ → SenderRecord → Bool
is_lit number s = nat_lt number 0x10 && slice_index_or s.lamps number false

abbrev pub with_lamp : ℕ → Bool → SenderRecord → SenderRecord
with_lamp number lit s =
    if nat_lt number 0x10 then record s { lamps = slice_set s.lamps number lit } else s

abbrev pub axis_at : ℕ → SenderRecord → ℤ
axis_at number s = if nat_lt number 0x40 then slice_index_or s.axes number (pos 0) else pos 0

abbrev pub fuzz_at : ℕ → SenderRecord → ℤ
fuzz_at number s = if nat_lt number 0x40 then slice_index_or s.fuzz number (pos 0) else pos 0

abbrev pub with_axis : ℕ → ℤ → SenderRecord → SenderRecord
with_axis number value s =
    if nat_lt number 0x40 then record s { axes = slice_set s.axes number value } else s

-- the end of the events that belong together
abbrev pub ended : ℤ → SenderRecord → SenderRecord
ended value s = record s {
  sent = s.sent ++ (record { code = None; value = value }) ∷ [];
  waiting = 0;
}

abbrev pub no_tool_near : Tool
no_tool_near = record { code = 0; is_near = false }

-- the tool that is near
abbrev pub tool_in : SenderRecord → Tool
tool_in s = record { code = s.tool; is_near = s.is_near }

abbrev pub holding : Tool → SenderRecord → SenderRecord
holding tool s = record s { tool = tool.code; is_near = tool.is_near }

-- what was handed on is forgotten
abbrev pub without_sent : SenderRecord → SenderRecord
without_sent s = record s { sent = [] }

-- one event more
abbrev pub with_event : EventCode → ℤ → SenderRecord → SenderRecord
with_event code value s = record s {
  sent = s.sent ++ (record { code = Some code; value = value }) ∷ [];
  waiting = min (s.waiting + 1) (2 ^ 64 - 1);
}

-- where no more go together, they end
abbrev pub if_full : SenderRecord → SenderRecord
if_full s = if nat_le s.room s.waiting then ended (pos 1) s else s

-- an event is handed on
abbrev pub put : EventCode → ℤ → SenderRecord → SenderRecord
put code value s = if_full (with_event code value s)

-- where no events wait, none end
unfoldable pub synced : SenderRecord → SenderRecord
synced s = if s.waiting == 0 then s else ended (pos 0) s

abbrev pub is_zero : ℤ → Bool
is_zero value = int_eq value (pos 0)

-- a flag says what a number says: 0 for no
abbrev pub says : Bool → ℤ → Bool
says true value = not (is_zero value)
says false value = is_zero value

-- a key is pressed or let go, where it wasn't; by 2 it is held, which changes nothing
abbrev pub behind_key : EventCode → ℤ → SenderRecord → SenderRecord
behind_key code value s =
    if int_eq value (pos 2) then put code value s
    else if says (is_down code.number s) value then s
    else put code value (with_key code.number (not (is_zero value)) s)

-- something moved
abbrev pub behind_motion : EventCode → ℤ → SenderRecord → SenderRecord
behind_motion code value s = if is_zero value then s else put code value s

-- both are nearer to each other than this
unfoldable pub is_near_by : ℤ → ℤ → ℤ → Bool
is_near_by value other by =
    int_lt (int_wrapping_sub w32 other by) value && int_lt value (int_wrapping_add w32 other by)

-- three parts of a place and one of another, and the middle of two, in 32 bits
unfoldable pub mostly : ℤ → ℤ → ℤ
mostly one other = int_div (int_wrapping_add w32 (int_wrapping_mul w32 one (pos 3)) other) (pos 4)

unfoldable pub middle : ℤ → ℤ → ℤ
middle one other = int_div (int_wrapping_add w32 one other) (pos 2)

-- a place that is drawn to the last one, the nearer the more
unfoldable pub drawn : ℤ → ℤ → ℤ → ℤ
drawn value before fuzz =
    if is_near_by value before fuzz then mostly before value
    else if is_near_by value before (int_wrapping_mul w32 fuzz (pos 2)) then middle before value
    else value

-- a place behind the last one, by how much its axis may tremble: close to it, it is the last one
unfoldable pub steadied : ℤ → ℤ → ℤ → ℤ
steadied value before fuzz =
    if is_zero fuzz then value
    else if is_near_by value before (int_div fuzz (pos 2)) then before
    else drawn value before fuzz

-- an axis is at this place
abbrev pub at_place : EventCode → ℤ → SenderRecord → SenderRecord
at_place code value s =
    if int_eq value (axis_at code.number s) then s
    else put code value (with_axis code.number value s)

abbrev pub behind_axis : EventCode → ℤ → SenderRecord → SenderRecord
behind_axis code value s =
    at_place code (steadied value (axis_at code.number s) (fuzz_at code.number s)) s

-- a lamp is lit or put out, where it wasn't
abbrev pub behind_lamp : EventCode → ℤ → SenderRecord → SenderRecord
behind_lamp code value s =
    if says (is_lit code.number s) value then s
    else put code value (with_lamp code.number (not (is_zero value)) s)

-- an event is handed on where it says something new
abbrev pub sends_by : EventType → EventCode → ℤ → SenderRecord → SenderRecord
sends_by Key code value s = behind_key code value s
sends_by Relative code value s = behind_motion code value s
sends_by Absolute code value s = behind_axis code value s
sends_by Other code value s = put code value s
sends_by Led code value s = behind_lamp code value s

unfoldable pub sends : EventCode → ℤ → SenderRecord → SenderRecord
sends code value s = sends_by code.event_type code value s
