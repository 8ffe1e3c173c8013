-- Who goes over fields, or over usages of an item, one after the other.
use Rattle.std.proofs.Common.{◌≡◌, ◌≤◌, ◌<◌, ◌+◌, ◌∷◌, [], ℕ, List, Result, drop, length, refl, subst}
use Rattle.std.proofs.Math.ListN.{get_or}
use Rattle.std.proofs.lemmas.List.{drop_all, drop_more}
use Rattle.hidreport.specs.UsageNumber.{usage_number}
use Rattle.hidreport_fields.specs.declared.field.usage.Usage.{Usage}
use Rattle.hidreport_linux.specs.CoreKept.{ReadingRecord}
use Rattle.hidreport_linux.specs.Devices.{behind}
use Rattle.hidreport_linux.specs.DevicesRecord.{DevicesRecord}
use Rattle.hidreport_linux.specs.FieldDevices.{GoesOn, GoesOver, PassesField, PassesFields}
use Rattle.hidreport_linux.specs.declared.event.Event.{Event}
use Rattle.hidreport_linux.specs.declared.item.Item.{Item}
use Rattle.hidreport_linux.specs.declared.linux_field.LinuxField.{LinuxField}
use Rattle.hidreport_linux.specs.declared.unmapped.Unmapped.{Unmapped}

-- a field, then those behind it
pub fields-on : (r : ReadingRecord) (fs : List LinuxField) (i : ℕ) (d : LinuxField)
    (old next end : DevicesRecord) → i < length fs → PassesField r (get_or fs i d) old next
    → PassesFields r (drop (i + 1) fs) next end → PassesFields r (drop i fs) old end
fields-on r fs i d old next end h one rest = rw (drop_more fs i d h) (next, (one, rest))

-- no field is left
pub fields-end : (r : ReadingRecord) (fs : List LinuxField) (i : ℕ) (d : DevicesRecord)
    → length fs ≤ i → PassesFields r (drop i fs) d d
fields-end r fs i d h = rw (drop_all i fs h) refl

-- a usage, then those behind it
pub usages-on : (item after : Item) (us left : List Usage) (usage : Usage)
    (result : Result Event Unmapped) (old next end : DevicesRecord) → us ≡ usage ∷ left
    → after ≡ behind result item → GoesOn item (usage_number usage) result old next
    → GoesOver after left next end → GoesOver item us old end
usages-on item after us left usage result old next end is same one rest =
    rw is (result, (next, (one, subst (λ (i : Item). GoesOver i left next end) same rest)))

-- no usage is left
pub usages-end : (item : Item) (us : List Usage) (d : DevicesRecord) → us ≡ []
    → GoesOver item us d d
usages-end item us d is = rw is refl
