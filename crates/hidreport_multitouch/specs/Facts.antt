-- What hid-multitouch asks of a descriptor before its usages (Linux 6.12).
use Rattle.std.specs.Prelude.{ℕ, ℤ, pos, Bool, true, false, not, ◌==◌, ◌&&◌, ◌||◌, ◌%◌, int_lt}
use Rattle.std.specs.Prelude.{if◌then◌else◌, List, [], ◌∷◌, min, take}
use Rattle.std.specs.List.{list_any}
use Rattle.std.specs.Int.{w32, cast_unsigned}
use Rattle.hidreport_fields.specs.UsageNumber.{usage_number}
use Rattle.hidreport_fields.specs.declared.field.data_item.Direction.{Direction}
use Rattle.hidreport_fields.specs.declared.field.data_item.Direction.TheVariants as direction
use Rattle.hidreport_linux.specs.CoreKept.{ReadingRecord}
use Rattle.hidreport_linux.specs.CoreReports.{first_place}
use Rattle.hidreport_linux.specs.FieldOrder.{usages_of}
use Rattle.hidreport_linux.specs.declared.linux_field.LinuxField.{LinuxField}
use Rattle.hidreport_linux.specs.declared.linux_field.LinuxReport.{LinuxReport}
use Rattle.hidreport_multitouch.specs.Touching.{is_windows_8}
use Rattle.hidreport_multitouch.specs.declared.touch_class.TouchClass.{TouchClass}
use Rattle.hidreport_multitouch.specs.declared.touch_class.TouchClass.TheVariants.{Plain, Windows8}

-- a field has a usage among its first ones
abbrev pub names : ℕ → ℕ → LinuxField → ReadingRecord → Bool
names wanted most f r = list_any (λ u. usage_number u == wanted) (take most (usages_of f r))

abbrev pub is_feature : Direction → Bool
is_feature direction.Feature = true
is_feature direction.Input = false
is_feature direction.Output = false

-- a device made for Windows 8 says so by a feature of one byte or of 256
abbrev pub is_signature : ReadingRecord → LinuxField → Bool
is_signature r f =
    is_feature f.report.direction && (f.size == 8
    && ((f.count == 1 && names 0xff0000c6 12288 f r)
    || (f.count == 256 && names 0xff0000c5 12288 f r)))

abbrev pub has_signature : ReadingRecord → List LinuxField → Bool
has_signature r fields = list_any (λ f. is_signature r f) fields

abbrev pub class_in : ReadingRecord → List LinuxField → TouchClass
class_in r fields = if has_signature r fields then Windows8 else Plain

-- the low byte of the maximum of a Contact Count Maximum, where this isn't above 250; ten where
-- that is 0, and where no item says it
unfoldable pub slots_of : ℤ → ℕ
slots_of maximum =
    if int_lt (pos 250) maximum || cast_unsigned w32 maximum % 256 == 0 then 10
    else cast_unsigned w32 maximum % 256

abbrev pub slots_or : ℕ → Bool → ℤ → ℕ
slots_or before says_it maximum = if says_it then slots_of maximum else before

-- a feature that is kept has a Contact Count Maximum
abbrev pub says_slots : ReadingRecord → LinuxField → Bool
says_slots r f = is_feature f.report.direction && (not f.is_past && names 0xd0055 12288 f r)

-- the slots by the last of these fields that says them, else those before
abbrev pub slots_behind : ReadingRecord → ℕ → List LinuxField → ℕ
slots_behind r before [] = before
slots_behind r before (f ∷ fs) =
    slots_behind r (slots_or before (says_slots r f) f.measures.maximum) fs

abbrev pub slots_in : ReadingRecord → List LinuxField → ℕ
slots_in r fields = slots_behind r (slots_of (pos 0)) fields

-- a direction has one report of each id
abbrev pub is_same : LinuxReport → LinuxReport → Bool
is_same one other = one.id == other.id && first_place one.direction == first_place other.direction

abbrev pub is_among : LinuxReport → List LinuxReport → Bool
is_among report reports = list_any (λ one. is_same report one) reports

-- an element for a Contact Identifier, of a finger where the device is made for Windows 8
abbrev pub is_of_contact : TouchClass → ReadingRecord → LinuxField → Bool
is_of_contact class r f =
    f.is_variable && (not f.is_past && ((not (is_windows_8 class) || f.place.logical == 0xd0022)
    && names 0xd0051 (min f.count 12288) f r))

-- a report has a field for a contact
abbrev pub has_contact : TouchClass → ReadingRecord → LinuxReport → List LinuxField → Bool
has_contact class r report fields =
    list_any (λ f. is_of_contact class r f && is_same report f.report) fields
