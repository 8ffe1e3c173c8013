-- Types of events, drivers, and which applications are input devices (Linux 6.12,
-- input-event-codes.h and hid-input).
use Rattle.std.specs.Prelude.{ℕ, ◌==◌, ◌||◌, ◌&&◌, nat_le, Bool, List, codes}
use Rattle.hidreport_linux.specs.declared.driver.Driver.{Driver}
use Rattle.hidreport_linux.specs.declared.driver.Driver.TheVariants.{Multitouch, SensorHub}
use Rattle.hidreport_linux.specs.declared.event_code.EventType.{EventType}
use Rattle.hidreport_linux.specs.declared.event_code.EventType.TheVariants.{Key, Relative, Absolute}
use Rattle.hidreport_linux.specs.declared.event_code.EventType.TheVariants.{Other, Led}

-- the number and the name of a type
abbrev pub type_row : EventType → ℕ × List ℕ
type_row Key = (0x01, codes "EV_KEY")
type_row Relative = (0x02, codes "EV_REL")
type_row Absolute = (0x03, codes "EV_ABS")
type_row Other = (0x04, codes "EV_MSC")
type_row Led = (0x11, codes "EV_LED")

abbrev pub type_number : EventType → ℕ
type_number event_type = (type_row event_type).0

abbrev pub type_name : EventType → List ℕ
type_name event_type = (type_row event_type).1

-- the name of a driver
abbrev pub driver_name : Driver → List ℕ
driver_name Multitouch = codes "hid-multitouch"
driver_name SensorHub = codes "hid-sensor-hub"

-- the usage of an application that makes a device one of input: of Generic Desktop 00 to 08, 0C and
-- 80, Consumer Control, of Digitizers 01 to 06
abbrev pub is_input_application : ℕ → Bool
is_input_application usage =
    (nat_le 0x10000 usage && nat_le usage 0x10008)
    || (usage == 0x1000c || (usage == 0x10080 || (usage == 0xc0001
    || (nat_le 0xd0001 usage && nat_le usage 0xd0006))))
