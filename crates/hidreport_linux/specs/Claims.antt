-- Which usages have which codes of an input device (hid-input of Linux 6.12).
use Rattle.std.specs.Prelude.{◌≡◌, ℕ, Bool, true, false, ◌+◌, ◌==◌, ◌&&◌, not, nat_lt, ◌++◌, IsTrue}
use Rattle.std.specs.Prelude.{List, [], ◌∷◌, length, if◌then◌else◌, Result, Ok, Err}
use Rattle.std.specs.List.{list_any, slice_index_or, slice_set}
use Rattle.hidreport_linux.specs.Events.{code}
use Rattle.hidreport_linux.specs.Types.{type_number}
use Rattle.hidreport_linux.specs.declared.event_code.EventCode.{EventCode}
use Rattle.hidreport_linux.specs.declared.event_code.EventType.{EventType}
use Rattle.hidreport_linux.specs.declared.event_code.EventType.TheVariants.{Key, Relative, Absolute}
use Rattle.hidreport_linux.specs.declared.event_code.EventType.TheVariants.{Other, Led}
use Rattle.hidreport_linux.specs.declared.input_device.InputDevice.{InputDevice}
use Rattle.hidreport_linux.specs.declared.unmapped.Unmapped.{Unmapped}
use Rattle.hidreport_linux.specs.declared.unmapped.Unmapped.TheVariants as none
use Rattle.hidreport_linux.specs.declared.wanted.Role.{Role}
use Rattle.hidreport_linux.specs.declared.wanted.Role.TheVariants as role
use Rattle.hidreport_linux.specs.declared.wanted.Wanted.{Wanted}

-- the codes that a usage has beside its own: REL_WHEEL, REL_HWHEEL, ABS_HAT0Y, BTN_TOUCH,
-- BTN_TOOL_RUBBER, and the two keys of the volume
abbrev pub beside : Role → List EventCode
beside role.Plain = []
beside role.Wheel = code Relative 0x08 ∷ []
beside role.SideWheel = code Relative 0x06 ∷ []
beside role.Hat = code Absolute 0x11 ∷ []
beside role.Direction = code Absolute 0x11 ∷ []
beside role.Pressure = code Key 0x14a ∷ []
beside role.Eraser = code Key 0x141 ∷ []
beside role.Volume = code Key 0x72 ∷ code Key 0x73 ∷ []
beside role.Radio = []

-- the codes that a usage claims: the one that it asks for, and those beside it
abbrev pub claims : Wanted → List EventCode
claims wanted = wanted.code ∷ beside wanted.role

abbrev pub same_code : EventCode → EventCode → Bool
same_code a b = type_number a.event_type == type_number b.event_type && a.number == b.number

-- one of these usages claims the code
abbrev pub is_claimed : List Wanted → EventCode → Bool
is_claimed before code = list_any (λ wanted. list_any (same_code code) (claims wanted)) before

-- how many codes of a type there are
abbrev pub code_count : EventType → ℕ
code_count Key = 0x300
code_count Relative = 0x10
code_count Absolute = 0x40
code_count Other = 0x08
code_count Led = 0x10

abbrev pub is_code : EventCode → Bool
is_code code = nat_lt code.number (code_count code.event_type)

-- whether a usage gets the code that it asks for, by whether one before it claims the code: the
-- first has it, and others have it, too, where it may be shared
abbrev pub given_if : Bool → Wanted → Result Wanted Unmapped
given_if is_claimed wanted =
    if not (is_code wanted.code) then Err none.PastCodes
    else if is_claimed && not wanted.is_shared then Err none.Taken
    else Ok wanted

-- what a usage gets behind those of the same input device that ask before it
abbrev pub given : List Wanted → Wanted → Result Wanted Unmapped
given before wanted = given_if (is_claimed before wanted.code) wanted

-- where a code stands among those of all types
abbrev pub first_place : EventType → ℕ
first_place Key = 0
first_place Relative = 768
first_place Absolute = 784
first_place Other = 848
first_place Led = 856

abbrev pub place : EventCode → ℕ
place code = first_place code.event_type + code.number

-- an input device keeps that a code is claimed
abbrev pub has : InputDevice → EventCode → Bool
has device code = is_code code && slice_index_or device.claimed (place code) false

-- one code more
abbrev pub with_claim : EventCode → InputDevice → InputDevice
with_claim code device =
    if is_code code then record device { claimed = slice_set device.claimed (place code) true }
    else device

-- several more
abbrev pub with_claims : List EventCode → InputDevice → InputDevice
with_claims [] device = device
with_claims (code ∷ codes) device = with_claims codes (with_claim code device)

-- the device keeps what these usages claim, and nothing else
pub record StandsFor (device : InputDevice) (before : List Wanted) : Type 0 where
  pub room : length device.claimed ≡ 872
  pub claimed : (code : EventCode) → IsTrue (is_code code)
      → has device code ≡ is_claimed before code

-- a usage behind these of its device gets what it gets by their claims, and the device stands for
-- it, too, from now on
pub record GetsBehind (before : List Wanted) (wanted : Wanted)
    (result : Result Wanted Unmapped) (new : InputDevice) : Type 0 where
  pub gets : result ≡ given before wanted
  pub stands : StandsFor new (before ++ wanted ∷ [])
