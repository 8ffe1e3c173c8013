-- The input devices of a descriptor by the driver that takes it, field by field (hid-multitouch and
-- hid-input of Linux 6.12).
use Rattle.std.specs.Prelude.{◌≡◌, ◌≢◌, ℕ, ◌+◌, ◌%◌, ◌==◌, Bool, true, false, not, ◌&&◌, ◌||◌}
use Rattle.std.specs.Prelude.{if◌then◌else◌, nat_lt, ◌-◌, min, List, [], ◌∷◌, ◌++◌, length}
use Rattle.std.specs.Prelude.{replicate, slice_set}
use Rattle.std.specs.Prelude.{Option, None, Some, is_some, slice_get}
use Rattle.std.specs.List.{position_from}
use Rattle.std.specs.Option.{option_map_or}
use Rattle.hidreport.specs.Groups.{GroupRecord}
use Rattle.hidreport_linux.specs.CoreKept.{ReadingRecord}
use Rattle.hidreport_linux.specs.CoreReading.{unmapped_in}
use Rattle.hidreport_linux.specs.Devices.{behind_item, no_devices}
use Rattle.hidreport_linux.specs.DevicesRecord.{DevicesRecord}
use Rattle.hidreport_linux.specs.FieldDevices.{EntersIf}
use Rattle.hidreport_linux.specs.FieldOrder.{fields_in_order}
use Rattle.hidreport_linux.specs.declared.driver.Driver.{Driver}
use Rattle.hidreport_linux.specs.declared.driver.Driver.TheVariants.{Multitouch, SensorHub}
use Rattle.hidreport_linux.specs.declared.linux_field.LinuxField.{LinuxField}
use Rattle.hidreport_linux.specs.declared.linux_field.LinuxReport.{LinuxReport}
use Rattle.hidreport_multitouch.specs.Driven.{is_by_id}
use Rattle.hidreport_multitouch.specs.Facts.{class_in, has_contact, is_among, is_feature, slots_in}
use Rattle.hidreport_multitouch.specs.declared.driven_devices.DrivenDevices.{DrivenDevices}
use Rattle.hidreport_multitouch.specs.declared.driven_item.TouchItem.{TouchItem}
use Rattle.hidreport_multitouch.specs.declared.touch_facts.TouchFacts.{TouchFacts}
use Rattle.hidreport_multitouch.specs.declared.touched.Touched.{Touched}
use Rattle.hidreport_multitouch.specs.declared.touched.TouchApplication.{TouchApplication}

abbrev pub is_multitouch : Option Driver → Bool
is_multitouch None = false
is_multitouch (Some Multitouch) = true
is_multitouch (Some SensorHub) = false

-- hid-multitouch takes a device whose usages may have events
abbrev pub is_touched : ReadingRecord → Bool
is_touched r = is_multitouch r.driver && not (is_some (unmapped_in r))

-- what hid-multitouch asks of a descriptor
pub record AskedOf (r : ReadingRecord) (facts : TouchFacts) : Type 0 where
  pub class : facts.class ≡ class_in r (fields_in_order r)
  pub slots : facts.slots ≡ slots_in r (fields_in_order r)
  pub reports : (report : LinuxReport) → is_among report facts.reports.items
      ≡ has_contact (class_in r (fields_in_order r)) r report (fields_in_order r)

-- the same, where it takes the device
abbrev pub AskedBy : Bool → ReadingRecord → Option TouchFacts → Type 0
AskedBy true r None = true ≡ false
AskedBy true r (Some facts) = AskedOf r facts
AskedBy false r facts = facts ≡ None

-- the input devices of hid-input before the first report: hid-sensor-hub has a single one
abbrev pub first_inputs : Option Driver → ReadingRecord → DevicesRecord
first_inputs None r = no_devices r.applications (unmapped_in r)
first_inputs (Some Multitouch) r = no_devices r.applications (unmapped_in r)
first_inputs (Some SensorHub) r = no_devices 1 (unmapped_in r)

-- before the first field
pub record IsBefore (r : ReadingRecord) (d : DrivenDevices) : Type 0 where
  pub facts : AskedBy (is_touched r) r d.facts
  pub inputs : d.inputs.items ≡ first_inputs r.driver r ∷ []
  pub ids : d.ids.items ≡ []
  pub names : d.names.items ≡ []
  pub current : d.current ≡ 0
  pub touched : d.touched.items ≡ []
  pub applications : d.applications.items ≡ []

-- how many items of the report are kept so far
abbrev pub items_in : Option DevicesRecord → ℕ
items_in inputs = option_map_or (λ d. d.items) inputs 0

abbrev pub counted_in : GroupRecord → Option DevicesRecord → Option DevicesRecord
counted_in g None = None
counted_in g (Some d) = Some (behind_item g d)

-- an item counts in the input devices that the report goes to, and in no other
pub record Counts (g : GroupRecord) (index : ℕ) (old new : List DevicesRecord) : Type 0 where
  pub counted : slice_get new index ≡ counted_in g (slice_get old index)
  pub others : (k : ℕ) → k ≢ index → slice_get new k ≡ slice_get old k

-- at the first field of a report whose usages may have events
abbrev pub begins_report : LinuxField → Bool
begins_report f = f.is_first && not (is_feature f.report.direction)

abbrev pub place_or : Option ℕ → ℕ → ℕ
place_or None place = place
place_or (Some index) place = index

abbrev pub is_id : ℕ → ℕ → Bool
is_id id one = one == id

-- where a report id stands among these, if it does
abbrev pub id_in : ℕ → List ℕ → Option ℕ
id_in id ids = position_from (is_id id) 0 ids

-- where each report id has its input device: that of a report, a new one behind all others where it
-- has none yet
abbrev pub current_for : ℕ → DrivenDevices → ℕ
current_for id d =
    if is_by_id d then place_or (id_in id d.ids.items) (length d.ids.items) else d.current

abbrev pub has_place : ℕ → DrivenDevices → Bool
has_place id d = not (is_by_id d) || is_some (id_in id d.ids.items)

abbrev pub ids_for : ℕ → DrivenDevices → List ℕ
ids_for id d = if has_place id d then d.ids.items else d.ids.items ++ id ∷ []

-- one more device of hid-input's, where there are no more than report ids
abbrev pub inputs_with : ℕ → DrivenDevices → List DevicesRecord
inputs_with id d =
    if has_place id d || nat_lt (length d.ids.items) (length d.inputs.items) then d.inputs.items
    else d.inputs.items ++ no_devices 1 None ∷ []

abbrev pub current_at : LinuxField → DrivenDevices → ℕ
current_at f d = if begins_report f then current_for f.report.id d else d.current

abbrev pub ids_at : LinuxField → DrivenDevices → List ℕ
ids_at f d = if begins_report f then ids_for f.report.id d else d.ids.items

abbrev pub inputs_list_at : LinuxField → DrivenDevices → List DevicesRecord
inputs_list_at f d = if begins_report f then inputs_with f.report.id d else d.inputs.items

-- the input devices of hid-input that the report of a field goes to
abbrev pub entered_at : LinuxField → DrivenDevices → ℕ
entered_at f d = if is_by_id d then current_at f d else 0

-- System Control and Consumer Control go to the device of a Keyboard, if there is one
abbrev pub takes_name : ℕ → ℕ → Bool
takes_name application name =
    name == application
    || ((application == 0x10080 || application == 0xc0001) && name == 0x10006)

abbrev pub name_for : ℕ → List ℕ → Option ℕ
name_for application names = position_from (takes_name application) 0 names

-- the device of an application by the devices' names, a new one behind all others if it has none
abbrev pub device_of : ℕ → List ℕ → ℕ
device_of application names = place_or (name_for application names) (length names)

-- hid-multitouch may name devices anew: so hid-input knows each by a number
abbrev pub application_for : DrivenDevices → ℕ → ℕ
application_for d application =
    if is_some d.facts then 0xffff0000 + device_of application d.names.items % 65536
    else application

abbrev pub EntersFrom : Bool → ℕ → Option DevicesRecord → Option DevicesRecord → Type 0
EntersFrom is_first application (Some old) (Some new) = EntersIf is_first application old new
EntersFrom is_first application (Some old) None = true ≡ false
EntersFrom is_first application None new = true ≡ false

-- a field goes to the devices of hid-input at an index, and to no others
pub record EntersAt (is_first : Bool) (application index : ℕ)
    (old new : List DevicesRecord) : Type 0 where
  pub entered : EntersFrom is_first application (slice_get old index) (slice_get new index)
  pub others : (k : ℕ) → k ≢ index → slice_get new k ≡ slice_get old k

-- no code is registered
abbrev pub no_codes : Touched
no_codes = record {
  keys = replicate 768 false;
  axes = replicate 64 None;
  others = replicate 40 false;
}

-- each input device up to the current one has its codes, where hid-multitouch takes the device
abbrev pub touched_up_to : ℕ → List Touched → List Touched
touched_up_to current touched = touched ++ replicate (current + 1 - length touched) no_codes

-- a field is of a touch report whose usages may have events
abbrev pub is_touch_field : TouchFacts → LinuxField → Bool
is_touch_field facts f =
    is_among f.report facts.reports.items && not (is_feature f.report.direction)

abbrev pub is_application : ℕ → TouchApplication → Bool
is_application usage one = one.usage == usage

-- where an application with touch reports stands among those so far, if it does
abbrev pub application_in : ℕ → List TouchApplication → Option ℕ
application_in usage all = position_from (is_application usage) 0 all

-- it stands for a pointer by its first input device
abbrev pub on_device : ℕ → TouchApplication → TouchApplication
on_device device one = record one { device = min one.device device }

abbrev pub set_on_device : ℕ → ℕ → Option TouchApplication → List TouchApplication
    → List TouchApplication
set_on_device device index None all = all
set_on_device device index (Some one) all = slice_set all index (on_device device one)

-- a touch screen or pad stands for a pointer
abbrev pub new_application : ℕ → ℕ → TouchApplication
new_application usage device = record {
  usage = usage;
  device = device;
  points = usage == 0xd0004 || usage == 0xd0005;
  tells_palms = false;
}

-- the applications with touch reports behind one of them
abbrev pub with_application : Option ℕ → ℕ → ℕ → List TouchApplication → List TouchApplication
with_application None usage device all = all ++ new_application usage device ∷ []
with_application (Some index) usage device all =
    set_on_device device index (slice_get all index) all

-- a field as hid-multitouch takes it, before its first usage
abbrev pub touch_item : LinuxField → Option ℕ → TouchItem
touch_item f application = record {
  place = f.place;
  measures = f.measures;
  is_past = f.is_past;
  application = application;
  before = 0;
  usages = 0;
}

-- the same behind a usage, which counts, up to those that are kept
abbrev pub behind_usage : ℕ → TouchItem → TouchItem
behind_usage usage t = record t {
  before = usage;
  usages = if nat_lt t.usages 12288 then t.usages + 1 else t.usages;
}

abbrev pub application_of : TouchFacts → LinuxField → List TouchApplication → Option ℕ
application_of facts f all =
    if is_touch_field facts f
    then Some (place_or (application_in f.report.application all) (length all))
    else None

abbrev pub touch_item_for : Option TouchFacts → LinuxField → List TouchApplication
    → Option TouchItem
touch_item_for None f all = None
touch_item_for (Some facts) f all = Some (touch_item f (application_of facts f all))

abbrev pub touched_for : Option TouchFacts → ℕ → List Touched → List Touched
touched_for None current touched = touched
touched_for (Some facts) current touched = touched_up_to current touched

abbrev pub applications_for : Option TouchFacts → LinuxField → ℕ → List TouchApplication
    → List TouchApplication
applications_for None f current all = all
applications_for (Some facts) f current all =
    if is_touch_field facts f
    then with_application (application_in f.report.application all) f.report.application current all
    else all

abbrev pub current_in : Option DevicesRecord → ℕ
current_in inputs = option_map_or (λ d. d.current) inputs 0

-- hid-input's devices are told apart by their applications, where report ids have none of their own
abbrev pub current_behind : LinuxField → List DevicesRecord → DrivenDevices → ℕ
current_behind f inputs d =
    if begins_report f && not (is_by_id d) then current_in (slice_get inputs 0) else d.current

-- a new one is named by the application
abbrev pub names_behind : LinuxField → ℕ → DrivenDevices → List ℕ
names_behind f current d =
    if (begins_report f && not (is_by_id d)) && current == length d.names.items
    then d.names.items ++ f.report.application ∷ []
    else d.names.items

-- at a field, before its first usage
pub record BeginsField (f : LinuxField) (old new : DrivenDevices) : Type 0 where
  pub facts : new.facts ≡ old.facts
  pub ids : new.ids.items ≡ ids_at f old
  pub inputs : EntersAt f.is_first (application_for old f.report.application) (entered_at f old)
      (inputs_list_at f old) new.inputs.items
  pub current : new.current ≡ (if is_by_id old then current_at f old
      else current_behind f new.inputs.items old)
  pub names : new.names.items ≡ names_behind f new.current old
  pub touched : new.touched.items ≡ touched_for old.facts new.current old.touched.items
  pub applications : new.applications.items
      ≡ applications_for old.facts f new.current old.applications.items
