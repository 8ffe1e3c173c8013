-- What is held of the input devices of a descriptor.
use Rattle.std.specs.Prelude.{ℕ, Bool, List, Option}
use Rattle.hidreport_linux.specs.declared.input_device.InputDevice.{InputDevice}
use Rattle.hidreport_linux.specs.declared.unmapped.Unmapped.{Unmapped}

-- the devices so far and the one that the report goes to; how many items of the report are kept so
-- far; whether each application has its own device; what is the matter with the descriptor; whether
-- pressures say BTN_TOUCH, since no switch does
pub record DevicesRecord : Type 0 where
  pub devices : List InputDevice
  pub current : ℕ
  pub items : ℕ
  pub is_by_application : Bool
  pub unmapped : Option Unmapped
  pub says_touch : Bool
