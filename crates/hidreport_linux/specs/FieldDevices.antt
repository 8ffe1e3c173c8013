-- The input devices of a descriptor, field by field (hidinput_connect of Linux 6.12).
use Rattle.std.specs.Prelude.{◌≡◌, ℕ, Bool, true, false, List, [], ◌∷◌, Result, Some}
use Rattle.hidreport.specs.UsageNumber.{usage_number}
use Rattle.hidreport_fields.specs.declared.field.usage.Usage.{Usage}
use Rattle.hidreport_linux.specs.Asking.{asked}
use Rattle.hidreport_linux.specs.CoreKept.{ReadingRecord}
use Rattle.hidreport_linux.specs.Devices.{answered, axis_behind, axis_in, behind, Enters, GoesBehind}
use Rattle.hidreport_linux.specs.Devices.{Stands, StaysAt, touch_after}
use Rattle.hidreport_linux.specs.DevicesRecord.{DevicesRecord}
use Rattle.hidreport_linux.specs.FieldOrder.{usages_of}
use Rattle.hidreport_linux.specs.declared.event.Event.{Event}
use Rattle.hidreport_linux.specs.declared.item.Item.{Item}
use Rattle.hidreport_linux.specs.declared.linux_field.LinuxField.{LinuxField}
use Rattle.hidreport_linux.specs.declared.unmapped.Unmapped.{Unmapped}
use Rattle.hidreport_linux.specs.declared.wanted.Wanted.{Wanted}

-- a field before its first usage
abbrev pub item_at : LinuxField → Item
item_at f = record {
  place = f.place;
  measures = f.measures;
  is_past = f.is_past;
  usages = 0;
  has_direction = false;
}

-- at the first field of a report of an application, or at another
abbrev pub EntersIf : Bool → ℕ → DevicesRecord → DevicesRecord → Type 0
EntersIf true application old new = Enters (Some application) old new
EntersIf false application old new = new ≡ old

-- a usage of an item is answered, and the devices go on behind it
pub record GoesOn (item : Item) (usage : ℕ) (result : Result Event Unmapped)
    (old new : DevicesRecord) : Type 0 where
  pub answer : result ≡ answered old (asked item old.unmapped usage)
  pub behind : (before : List Wanted) → Stands old before
      → GoesBehind before (asked item old.unmapped usage) result old new
  pub stays : StaysAt old new
  pub touch : new.says_touch ≡ touch_after usage (asked item old.unmapped usage) old
  pub axes : (event : Event) → axis_in new event ≡ axis_behind item result old event

-- all of these usages of an item, one after the other
abbrev pub GoesOver : Item → List Usage → DevicesRecord → DevicesRecord → Type 0
GoesOver item [] old new = new ≡ old
GoesOver item (usage ∷ usages) old new =
    (result : Result Event Unmapped) × ((next : DevicesRecord)
    × (GoesOn item (usage_number usage) result old next
    × GoesOver (behind result item) usages next new))

-- all usages of a field
abbrev pub PassesField : ReadingRecord → LinuxField → DevicesRecord → DevicesRecord → Type 0
PassesField r f old new =
    (entered : DevicesRecord) × (EntersIf f.is_first f.report.application old entered
    × GoesOver (item_at f) (usages_of f r) entered new)

-- those of all these fields, one after the other
abbrev pub PassesFields : ReadingRecord → List LinuxField → DevicesRecord → DevicesRecord → Type 0
PassesFields r [] old new = new ≡ old
PassesFields r (f ∷ fs) old new =
    (next : DevicesRecord) × (PassesField r f old next × PassesFields r fs next new)
