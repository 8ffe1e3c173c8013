-- What a value of a usage sends (hidinput_hid_event of Linux 6.12).
use Rattle.std.specs.Prelude.{ℕ, ℤ, pos, negsuc, Bool, true, false, ◌==◌, ◌&&◌, ◌||◌, int_le, not}
use Rattle.std.specs.Prelude.{if◌then◌else◌, Option, Some, None}
use Rattle.std.specs.Int.{w32, cast_signed}
use Rattle.std.specs.Ordering.{int_eq}
use Rattle.hidreport_events.specs.Fields.{hat_direction, kept_value, stays}
use Rattle.hidreport_events.specs.Senders.{SenderRecord, is_down, is_zero, sends, synced}
use Rattle.hidreport_events.specs.Tools.{behind_tool, goes_on}
use Rattle.hidreport_events.specs.Turning.{behind_side_wheel, behind_volume, behind_wheel}
use Rattle.hidreport_events.specs.declared.event_field.EventField.{EventField}
use Rattle.hidreport_events.specs.declared.source.Source.{Source}
use Rattle.hidreport_linux.specs.Events.{code}
use Rattle.hidreport_linux.specs.declared.event.Event.{Event}
use Rattle.hidreport_linux.specs.declared.event_code.EventCode.{EventCode}
use Rattle.hidreport_linux.specs.declared.event_code.EventType.{EventType}
use Rattle.hidreport_linux.specs.declared.event_code.EventType.TheVariants.{Key, Absolute, Other}
use Rattle.hidreport_linux.specs.declared.wanted.Role.{Role}
use Rattle.hidreport_linux.specs.declared.wanted.Role.TheVariants as role

abbrev pub is_key_type : EventType → Bool
is_key_type Key = true
is_key_type _ = false

abbrev pub is_key : EventCode → Bool
is_key code = is_key_type code.event_type

-- a direction of a D-pad: up, down, right or left, as one of eight from up on
unfoldable pub pad_direction : ℕ → ℤ
pad_direction usage =
    if usage == 0x10090 then pos 1
    else if usage == 0x10091 then pos 5
    else if usage == 0x10092 then pos 3
    else pos 7

abbrev pub is_between : ℤ → ℤ → ℤ → Bool
is_between low high d = int_le low d && int_le d high

-- how far one of eight directions goes to the right, and how far down
unfoldable pub across : ℤ → ℤ
across d =
    if is_between (pos 2) (pos 4) d then pos 1
    else if is_between (pos 6) (pos 8) d then negsuc 0
    else pos 0

unfoldable pub down : ℤ → ℤ
down d =
    if is_between (pos 4) (pos 6) d then pos 1
    else if is_between (pos 1) (pos 2) d || int_eq d (pos 8) then negsuc 0
    else pos 0

-- both axes of a hat
unfoldable pub behind_hat : EventCode → ℤ → SenderRecord → SenderRecord
behind_hat axis direction s =
    sends (code Absolute 0x11) (down direction) (sends axis (across direction) s)

-- what a key's value is that isn't as it is
abbrev pub other_value : Bool → ℤ
other_value true = pos 0
other_value false = pos 1

-- MSC_SCAN: the usage of a key that is pressed or let go
unfoldable pub behind_scan : ℕ → EventCode → ℤ → SenderRecord → SenderRecord
behind_scan usage key value s =
    if is_key key && int_eq value (other_value (is_down key.number s))
    then sends (code Other 0x04) (cast_signed w32 usage) s
    else s

-- a key that tells of its press alone is let go at once
abbrev pub if_let_go : EventField → EventCode → ℤ → SenderRecord → SenderRecord
if_let_go f code value s =
    if (f.is_relative && is_key code) && not (is_zero value)
    then sends code (pos 0) (synced s)
    else s

-- a value, if it is new
unfoldable pub behind_new : EventField → ℕ → EventCode → ℤ → ℤ → SenderRecord → SenderRecord
behind_new f usage code before value s =
    if stays f before value then s
    else if_let_go f code value (sends code value (behind_scan usage code value s))

-- a value that is kept, by what its usage does
abbrev pub tells_by : Role → EventField → Source → Event → ℤ → ℤ → SenderRecord → SenderRecord
tells_by role.Wheel f source event before value s = behind_wheel source.multiplier value s
tells_by role.SideWheel f source event before value s =
    behind_side_wheel source.multiplier value s
tells_by role.Volume f source event before value s = behind_volume value s
tells_by _ f source event before value s =
    behind_new f source.usage event.code before value s

unfoldable pub tells : EventField → Source → Event → ℤ → ℤ → SenderRecord → SenderRecord
tells f source event before value s = tells_by event.role f source event before value s

-- behind the tool of a pen
abbrev pub unless_tool : EventField → Source → Event → ℤ → ℤ → SenderRecord → SenderRecord
unless_tool f source event before value s =
    if goes_on source.usage value s then
    tells f source event before value (behind_tool source.usage event.code f value s)
    else behind_tool source.usage event.code f value s

-- a value outside of the bounds may say nothing
abbrev pub if_kept : Option ℤ → EventField → Source → Event → ℤ → SenderRecord → SenderRecord
if_kept None f source event before s = s
if_kept (Some value) f source event before s = unless_tool f source event before value s

unfoldable pub behind_number : EventField → Source → Event → ℤ → ℤ → SenderRecord → SenderRecord
behind_number f source event before value s =
    if_kept (kept_value f value) f source event before s

-- a value of a usage that has an event: of a hat and of a D-pad both axes
abbrev pub event_by : Role → EventField → Source → Event → ℤ → ℤ → SenderRecord → SenderRecord
event_by role.Hat f source event before value s =
    behind_hat event.code (hat_direction f value) s
event_by role.Direction f source event before value s =
    behind_hat event.code (pad_direction source.usage) s
event_by _ f source event before value s = behind_number f source event before value s

unfoldable pub behind_event : EventField → Source → Event → ℤ → ℤ → SenderRecord → SenderRecord
behind_event f source event before value s = event_by event.role f source event before value s

-- a value of a source, behind the one before it
abbrev pub value_by : Option Event → EventField → Source → ℤ → ℤ → SenderRecord → SenderRecord
value_by None f source before value s = s
value_by (Some event) f source before value s = behind_event f source event before value s

unfoldable pub behind_value : EventField → Source → ℤ → ℤ → SenderRecord → SenderRecord
behind_value f source before value s = value_by source.event f source before value s
