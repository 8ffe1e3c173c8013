-- The codes that hid-multitouch has registered for an input device.
use Rattle.std.specs.Prelude.{ℕ, ◌+◌, Bool, true, false, nat_lt, if◌then◌else◌, Option, None}
use Rattle.std.specs.Prelude.{is_some, slice_index_or, slice_set}
use Rattle.hidreport_linux.specs.declared.axis.Axis.{Axis}
use Rattle.hidreport_linux.specs.declared.event_code.EventCode.{EventCode}
use Rattle.hidreport_linux.specs.declared.event_code.EventType.{EventType}
use Rattle.hidreport_linux.specs.declared.event_code.EventType.TheVariants.{Key, Relative, Absolute, Other, Led}
use Rattle.hidreport_multitouch.specs.declared.touched.Touched.{Touched}

-- where a code stands that is neither a key nor an axis: 16 movements, 8 others, 16 lamps
abbrev pub other_place : EventType → ℕ → ℕ
other_place Relative number = if nat_lt number 16 then number else 40
other_place Other number = if nat_lt number 8 then number + 16 else 40
other_place Led number = if nat_lt number 16 then number + 24 else 40
other_place Key number = 40
other_place Absolute number = 40

abbrev pub place_of_other : EventCode → ℕ
place_of_other code = other_place code.event_type code.number

-- what the axis of a number says of itself, if it is registered
abbrev pub axis_of : Touched → ℕ → Option Axis
axis_of t number = slice_index_or t.axes number None

abbrev pub has_code_by : EventType → Touched → EventCode → Bool
has_code_by Key t code = slice_index_or t.keys code.number false
has_code_by Absolute t code = is_some (axis_of t code.number)
has_code_by Relative t code = slice_index_or t.others (place_of_other code) false
has_code_by Other t code = slice_index_or t.others (place_of_other code) false
has_code_by Led t code = slice_index_or t.others (place_of_other code) false

abbrev pub has_code : Touched → EventCode → Bool
has_code t code = has_code_by code.event_type t code

abbrev pub with_other : EventCode → Touched → Touched
with_other code t = record t { others = slice_set t.others (place_of_other code) true }

abbrev pub with_code_by : EventType → EventCode → Option Axis → Touched → Touched
with_code_by Key code axis t = record t { keys = slice_set t.keys code.number true }
with_code_by Absolute code axis t = record t { axes = slice_set t.axes code.number axis }
with_code_by Relative code axis t = with_other code t
with_code_by Other code axis t = with_other code t
with_code_by Led code axis t = with_other code t

-- one code more, whose axis says this of itself
abbrev pub with_code : EventCode → Option Axis → Touched → Touched
with_code code axis t = with_code_by code.event_type code axis t
