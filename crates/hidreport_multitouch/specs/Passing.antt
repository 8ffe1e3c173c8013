-- What a usage leaves behind in the input devices of a descriptor, and all usages of a field
-- (hid-multitouch and hid-input of Linux 6.12).
use Rattle.std.specs.Prelude.{◌≡◌, ◌≢◌, ℕ, ◌-◌, ◌/◌, ◌==◌, Bool, true, false, ◌&&◌, ◌||◌}
use Rattle.std.specs.Prelude.{if◌then◌else◌, List, [], ◌∷◌, ◌++◌, map, replicate, slice_get, slice_set}
use Rattle.std.specs.Prelude.{Option, None, Some, is_none, is_some, Result, Ok, Err}
use Rattle.hidreport_fields.specs.UsageNumber.{usage_number}
use Rattle.hidreport_linux.specs.Asking.{asked}
use Rattle.hidreport_linux.specs.Claims.{beside}
use Rattle.hidreport_linux.specs.CoreKept.{ReadingRecord}
use Rattle.hidreport_linux.specs.Devices.{answered, behind}
use Rattle.hidreport_linux.specs.DevicesRecord.{DevicesRecord}
use Rattle.hidreport_linux.specs.FieldDevices.{GoesOn, item_at}
use Rattle.hidreport_linux.specs.FieldOrder.{fields_in_order, usages_of}
use Rattle.hidreport_linux.specs.declared.axis.Axis.{Axis}
use Rattle.hidreport_linux.specs.declared.event.Event.{Event}
use Rattle.hidreport_linux.specs.declared.event_code.EventCode.{EventCode}
use Rattle.hidreport_linux.specs.declared.item.Item.{Item}
use Rattle.hidreport_linux.specs.declared.linux_field.LinuxField.{LinuxField}
use Rattle.hidreport_linux.specs.declared.unmapped.Unmapped.{Unmapped}
use Rattle.hidreport_multitouch.specs.Driven.{class_of, driven_answer, inputs_at, tells_palms, unasked}
use Rattle.hidreport_multitouch.specs.Fields.{behind_usage, BeginsField, IsBefore, touch_item_for}
use Rattle.hidreport_multitouch.specs.Settled.{axis_for}
use Rattle.hidreport_multitouch.specs.Touched.{with_code}
use Rattle.hidreport_multitouch.specs.TouchAxes.{touch_axis}
use Rattle.hidreport_multitouch.specs.Touching.{takes_application}
use Rattle.hidreport_multitouch.specs.declared.driven_devices.DrivenDevices.{DrivenDevices}
use Rattle.hidreport_multitouch.specs.declared.driven_event.DrivenEvent.{DrivenEvent}
use Rattle.hidreport_multitouch.specs.declared.driven_event.Giver.{Giver}
use Rattle.hidreport_multitouch.specs.declared.driven_event.Giver.TheVariants as by
use Rattle.hidreport_multitouch.specs.declared.driven_item.DrivenItem.{DrivenItem}
use Rattle.hidreport_multitouch.specs.declared.driven_item.TouchItem.{TouchItem}
use Rattle.hidreport_multitouch.specs.declared.silent.Silent.{Silent}
use Rattle.hidreport_multitouch.specs.declared.touch_class.TouchClass.{TouchClass}
use Rattle.hidreport_multitouch.specs.declared.touch_facts.TouchFacts.{TouchFacts}
use Rattle.hidreport_multitouch.specs.declared.touched.Touched.{Touched}
use Rattle.hidreport_multitouch.specs.declared.touched.TouchApplication.{TouchApplication}

-- a usage is asked of hid-multitouch
abbrev pub is_asked : DrivenDevices → TouchItem → ℕ → Bool
is_asked d t usage =
    is_none (unasked t usage) && takes_application (class_of d.facts) t.place.application

-- hid-input gives a usage its code, where it may have one: of a report that is no touch report
abbrev pub asks_inputs : DrivenDevices → Option TouchItem → ℕ → Bool
asks_inputs d None usage = true
asks_inputs d (Some t) usage = is_asked d t usage && is_none t.application

-- hid-input's item behind a usage that its devices answered
abbrev pub input_behind : Option DevicesRecord → Item → ℕ → Item
input_behind None item usage = item
input_behind (Some inputs) item usage =
    behind (answered inputs (asked item inputs.unmapped usage)) item

abbrev pub input_item_behind : DrivenDevices → DrivenItem → ℕ → Item
input_item_behind d item usage =
    if asks_inputs d item.touch usage
    then input_behind (slice_get d.inputs.items (inputs_at d)) item.item usage
    else item.item

abbrev pub touch_behind : Option TouchItem → ℕ → Option TouchItem
touch_behind None usage = None
touch_behind (Some t) usage = Some (behind_usage usage t)

-- the item behind a usage
abbrev pub item_behind : DrivenDevices → DrivenItem → ℕ → DrivenItem
item_behind d item usage = record {
  item = input_item_behind d item usage;
  touch = touch_behind item.touch usage;
}

-- the devices of hid-input that the report goes to go over a usage, if there are some
abbrev pub GoesOnFrom : Item → ℕ → Option DevicesRecord → Option DevicesRecord → Type 0
GoesOnFrom item usage None new = new ≡ None
GoesOnFrom item usage (Some old) None = true ≡ false
GoesOnFrom item usage (Some old) (Some new) =
    (result : Result Event Unmapped) × GoesOn item usage result old new

-- and no others do
pub record GoesOnAt (item : Item) (usage index : ℕ) (old new : List DevicesRecord) : Type 0 where
  pub gone : GoesOnFrom item usage (slice_get old index) (slice_get new index)
  pub others : (k : ℕ) → k ≢ index → slice_get new k ≡ slice_get old k

abbrev pub GoesOnIf : Bool → Item → ℕ → ℕ → List DevicesRecord → List DevicesRecord → Type 0
GoesOnIf true item usage index old new = GoesOnAt item usage index old new
GoesOnIf false item usage index old new = new ≡ old

-- a stylus names the input device of its reports
abbrev pub named_by : TouchItem → DrivenDevices → List ℕ
named_by t d =
    if t.place.physical == 0xd0020 then slice_set d.names.items d.current 0xd0020
    else d.names.items

abbrev pub named_behind : DrivenDevices → Option TouchItem → ℕ → List ℕ
named_behind d None usage = d.names.items
named_behind d (Some t) usage =
    if asks_inputs d (Some t) usage then named_by t d else d.names.items

-- what a usage of a touch report says of its application: buttons of a touch screen make a pointer
abbrev pub noted : TouchClass → TouchItem → ℕ → TouchApplication → TouchApplication
noted class t usage one = record one {
  points = one.points || (t.place.application == 0xd0004 && usage / 65536 == 0x09);
  tells_palms = one.tells_palms || tells_palms class t.place.application usage;
}

abbrev pub noted_at : TouchClass → TouchItem → ℕ → ℕ → Option TouchApplication
    → List TouchApplication → List TouchApplication
noted_at class t usage index None all = all
noted_at class t usage index (Some one) all = slice_set all index (noted class t usage one)

abbrev pub noted_in : DrivenDevices → TouchItem → ℕ → Option ℕ → List TouchApplication
noted_in d t usage None = d.applications.items
noted_in d t usage (Some index) =
    noted_at (class_of d.facts) t usage index (slice_get d.applications.items index)
    d.applications.items

abbrev pub applications_behind : DrivenDevices → Option TouchItem → ℕ → List TouchApplication
applications_behind d None usage = d.applications.items
applications_behind d (Some t) usage =
    if is_asked d t usage then noted_in d t usage t.application else d.applications.items

-- codes that say this of their axes
abbrev pub with_codes : List EventCode → Option Axis → Touched → Touched
with_codes [] axis t = t
with_codes (one ∷ more) axis t = with_codes more axis (with_code one axis t)

abbrev pub codes_at : ℕ → List EventCode → Option Axis → Option Touched → List Touched
    → List Touched
codes_at index codes axis None all = all
codes_at index codes axis (Some one) all = slice_set all index (with_codes codes axis one)

-- an input device has these codes
abbrev pub registered_at : ℕ → List EventCode → Option Axis → List Touched → List Touched
registered_at index codes axis all = codes_at index codes axis (slice_get all index) all

abbrev pub slots_of_facts : Option TouchFacts → ℕ
slots_of_facts None = 1
slots_of_facts (Some facts) = facts.slots

-- what an event of hid-input's has is registered where hid-multitouch takes the device
abbrev pub claimed : Giver → DrivenDevices → Option Axis → DrivenEvent → List Touched
claimed (by.HidInput role) d axis event =
    registered_at event.device (event.code ∷ beside role) axis d.touched.items
claimed by.Nobody d axis event =
    registered_at event.device (event.code ∷ []) axis d.touched.items
claimed (by.Multitouch is_dial) d axis event =
    registered_at event.device (event.code ∷ []) axis d.touched.items

-- the same of an answer: its axis is that of hid-input's devices behind the usage
abbrev pub claimed_behind : DrivenDevices → DrivenDevices → TouchItem
    → Result DrivenEvent Silent → List Touched
claimed_behind old new t (Ok event) =
    claimed event.giver old (axis_for (record old { inputs = new.inputs }) event) event
claimed_behind old new t (Err reason) = old.touched.items

-- what hid-multitouch gives a code has it
abbrev pub given_by : Giver → DrivenDevices → TouchItem → DrivenEvent → List Touched
given_by (by.Multitouch is_dial) d t event =
    registered_at d.current (event.code ∷ [])
    (Some (touch_axis event.code (slots_of_facts d.facts) t.place t.measures)) d.touched.items
given_by by.Nobody d t event = d.touched.items
given_by (by.HidInput role) d t event = d.touched.items

abbrev pub given_behind : DrivenDevices → TouchItem → Result DrivenEvent Silent → List Touched
given_behind d t (Ok event) = given_by event.giver d t event
given_behind d t (Err reason) = d.touched.items

abbrev pub touched_in : Option ℕ → DrivenDevices → DrivenDevices → TouchItem
    → Result DrivenEvent Silent → List Touched
touched_in None old new t result = claimed_behind old new t result
touched_in (Some index) old new t result = given_behind old t result

abbrev pub touched_behind : DrivenDevices → DrivenDevices → Option TouchItem → ℕ
    → Result DrivenEvent Silent → List Touched
touched_behind old new None usage result = old.touched.items
touched_behind old new (Some t) usage result =
    if is_asked old t usage then touched_in t.application old new t result
    else old.touched.items

-- a usage is answered, and the input devices go on behind it
pub record GoesBy (item : DrivenItem) (usage : ℕ) (old new : DrivenDevices) : Type 0 where
  pub inputs : GoesOnIf (asks_inputs old item.touch usage) item.item usage (inputs_at old)
      old.inputs.items new.inputs.items
  pub names : new.names.items ≡ named_behind old item.touch usage
  pub applications : new.applications.items ≡ applications_behind old item.touch usage
  pub touched : new.touched.items
      ≡ touched_behind old new item.touch usage (driven_answer old item usage)
  pub facts : new.facts ≡ old.facts
  pub ids : new.ids ≡ old.ids
  pub current : new.current ≡ old.current

-- all of these usages of an item, one after the other
abbrev pub GoesOverAll : DrivenItem → List ℕ → DrivenDevices → DrivenDevices → Type 0
GoesOverAll item [] old new = new ≡ old
GoesOverAll item (usage ∷ usages) old new =
    (next : DrivenDevices) × (GoesBy item usage old next
    × GoesOverAll (item_behind old item usage) usages next new)

abbrev pub last_of : ℕ → List ℕ → ℕ
last_of before [] = before
last_of before (usage ∷ usages) = last_of usage usages

-- the usages of a field: hid-multitouch is asked for the last once more for each element behind
abbrev pub usages_for : Bool → LinuxField → List ℕ → List ℕ
usages_for true f usages = usages ++ replicate (f.count - f.usages) (last_of 0 usages)
usages_for false f usages = usages

abbrev pub usages_in : ReadingRecord → LinuxField → DrivenDevices → List ℕ
usages_in r f d = usages_for (is_some d.facts) f (map usage_number (usages_of f r))

-- an item before its first usage
abbrev pub first_item : LinuxField → DrivenDevices → DrivenItem
first_item f d = record {
  item = item_at f;
  touch = touch_item_for d.facts f d.applications.items;
}

-- all usages of a field
abbrev pub PassesField : ReadingRecord → LinuxField → DrivenDevices → DrivenDevices → Type 0
PassesField r f old new =
    (begun : DrivenDevices) × (BeginsField f old begun
    × GoesOverAll (first_item f old) (usages_in r f begun) begun new)

-- those of all these fields, one after the other
abbrev pub PassesFields : ReadingRecord → List LinuxField → DrivenDevices → DrivenDevices → Type 0
PassesFields r [] old new = new ≡ old
PassesFields r (f ∷ fs) old new =
    (next : DrivenDevices) × (PassesField r f old next × PassesFields r fs next new)

-- those of a descriptor
abbrev pub PassesAll : ReadingRecord → DrivenDevices → Type 0
PassesAll r new =
    (before : DrivenDevices) × (IsBefore r before × PassesFields r (fields_in_order r) before new)
