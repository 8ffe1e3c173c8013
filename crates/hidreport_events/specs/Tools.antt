-- The tool of a pen: whether it is near, turned, and touches (Section 16 of the HID Usage Tables;
-- hid-input of Linux 6.12).
use Rattle.std.specs.Prelude.{ℕ, ℤ, pos, Bool, true, false, ◌==◌, ◌&&◌, ◌||◌, not, int_lt, if◌then◌else◌}
use Rattle.std.specs.Int.{w32, int_shr, int_wrapping_add, int_wrapping_sub}
use Rattle.hidreport_events.specs.Senders.{SenderRecord, is_down, is_zero, sends, synced}
use Rattle.hidreport_events.specs.declared.event_field.EventField.{EventField}
use Rattle.hidreport_linux.specs.Events.{code}
use Rattle.hidreport_linux.specs.declared.event_code.EventCode.{EventCode}
use Rattle.hidreport_linux.specs.declared.event_code.EventType.TheVariants.{Key}

-- a key is pressed (1) or let go (0)
abbrev pub sends_key : ℕ → ℤ → SenderRecord → SenderRecord
sends_key number value s = sends (code Key number) value s

-- no tool is near
abbrev pub no_tool : SenderRecord → SenderRecord
no_tool s = record s { tool = 0 }

-- a tool (its code) is near no more, if it was: it touches no more either
unfoldable pub without_tool : ℕ → SenderRecord → SenderRecord
without_tool tool s =
    if not (is_down tool s) then s
    else no_tool (synced (sends_key tool (pos 0) (sends_key 0x14a (pos 0) s)))

abbrev pub if_other_tool : ℕ → SenderRecord → SenderRecord
if_other_tool tool s = if s.tool == tool then s else without_tool s.tool s

abbrev pub named_tool : ℕ → SenderRecord → SenderRecord
named_tool tool s = record s { tool = tool }

-- another tool is near
unfoldable pub with_tool : ℕ → SenderRecord → SenderRecord
with_tool tool s = named_tool tool (sends_key tool (pos 1) (if_other_tool tool s))

-- a part of the report says that the tool is near, or doesn't
unfoldable pub near_if : ℤ → SenderRecord → SenderRecord
near_if value s = record s { is_near = s.is_near || not (is_zero value) }

-- the pen isn't turned
abbrev pub taking : SenderRecord → Bool
taking s = not (s.tool == 0x141)

-- an eraser that touches no more ends the turn by itself, where no Invert says it
abbrev pub ends_turn : SenderRecord → Bool
ends_turn s = s.lacks_invert && not (is_down 0x14a s)

abbrev pub behind_untouched : SenderRecord → SenderRecord
behind_untouched s =
    if taking s then s else if ends_turn s then without_tool 0x141 s else s

-- behind an Eraser, whose touch is that of a turned pen
unfoldable pub behind_eraser : ℤ → SenderRecord → SenderRecord
behind_eraser value s =
    if is_zero value then behind_untouched (near_if value s)
    else with_tool 0x141 (near_if value s)

-- its event is sent, too
unfoldable pub passes_eraser : ℤ → SenderRecord → Bool
passes_eraser value s = if is_zero value then not (taking s) && not (ends_turn s) else true

-- behind an Invert
abbrev pub unturned : SenderRecord → SenderRecord
unturned s = if s.is_near then s else without_tool 0x141 s

unfoldable pub behind_invert : ℤ → SenderRecord → SenderRecord
behind_invert value s =
    if is_zero value then unturned (near_if value s) else with_tool 0x141 (near_if value s)

-- the tool that the report said, or that of an In Range
abbrev pub tool_or : ℕ → SenderRecord → ℕ
tool_or number s = if s.tool == 0 then number else s.tool

abbrev pub behind_near : ℕ → SenderRecord → SenderRecord
behind_near number s =
    if s.is_near then with_tool (tool_or number s) (named_tool (tool_or number s) s)
    else without_tool number s

-- behind an In Range, which comes behind what else says that the tool is near
unfoldable pub behind_in_range : EventCode → ℤ → SenderRecord → SenderRecord
behind_in_range code value s =
    record (behind_near code.number (near_if value s)) { is_near = false }

-- behind a Tip Switch
unfoldable pub behind_tip : ℤ → SenderRecord → SenderRecord
behind_tip value s = near_if value s

-- the value above which a pressure touches: an eighth of what there is
unfoldable pub pressed_from : EventField → ℤ
pressed_from f =
    int_wrapping_add w32 f.minimum (int_shr (int_wrapping_sub w32 f.maximum f.minimum) 3)

-- behind a Tip Pressure, which touches by itself where no switch says it
unfoldable pub behind_pressure : EventField → ℤ → SenderRecord → SenderRecord
behind_pressure f value s =
    if s.says_touch && int_lt (pressed_from f) value
    then record (sends_key 0x14a (pos 1) s) { is_near = true }
    else s

-- behind a value of a usage, by whether it is Eraser, Invert, In Range, Tip Switch or Tip Pressure
unfoldable pub behind_tool : ℕ → EventCode → EventField → ℤ → SenderRecord → SenderRecord
behind_tool usage code f value s =
    if usage == 0xd0045 then behind_eraser value s
    else if usage == 0xd003c then behind_invert value s
    else if usage == 0xd0032 then behind_in_range code value s
    else if usage == 0xd0042 then behind_tip value s
    else if usage == 0xd0030 then behind_pressure f value s
    else s

-- the event of the usage is sent, too
unfoldable pub goes_on : ℕ → ℤ → SenderRecord → Bool
goes_on usage value s =
    if usage == 0xd0045 then passes_eraser value s
    else if usage == 0xd003c then false
    else if usage == 0xd0032 then false
    else if usage == 0xd0042 then taking s
    else true
