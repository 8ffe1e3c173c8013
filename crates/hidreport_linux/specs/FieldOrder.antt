-- The fields in the order in which hid-input goes over them, and their usages (hidinput_connect of
-- Linux 6.12).
use Rattle.std.specs.Prelude.{ℕ, zero, suc, ◌+◌, ◌-◌, ◌%◌, ◌^◌, ◌==◌, Bool, if◌then◌else◌, List, []}
use Rattle.std.specs.Prelude.{◌∷◌, ◌++◌, filter, take, drop}
use Rattle.hidreport_fields.specs.UsageNumber.{numbered_usage}
use Rattle.hidreport_fields.specs.declared.field.data_item.Direction.{Direction}
use Rattle.hidreport_fields.specs.declared.field.data_item.Direction.TheVariants.{Input, Output, Feature}
use Rattle.hidreport_fields.specs.declared.field.usage.Usage.{Usage}
use Rattle.hidreport_linux.specs.CoreKept.{ReadingRecord}
use Rattle.hidreport_linux.specs.CoreReports.{first_place, place_of}
use Rattle.hidreport_linux.specs.declared.linux_field.LinuxField.{LinuxField}
use Rattle.hidreport_linux.specs.declared.linux_field.LinuxReport.{LinuxReport}
use Rattle.hidreport_linux.specs.declared.reading.core_named.CoreNamed.{CoreNamed}

-- a field is of a report
abbrev pub is_of : LinuxReport → LinuxField → Bool
is_of r f = place_of r.direction r.id == place_of f.report.direction f.report.id

-- a report goes a direction
abbrev pub lies_in : Direction → LinuxReport → Bool
lies_in d r = first_place r.direction == first_place d

-- the fields of a report, in the order of their items
abbrev pub fields_of : LinuxReport → List LinuxField → List LinuxField
fields_of r fields = filter (is_of r) fields

-- those of the reports of a direction, in the order in which these were registered
abbrev pub fields_in : Direction → List LinuxField → List LinuxReport → List LinuxField
fields_in d fields [] = []
fields_in d fields (r ∷ rs) =
    (if lies_in d r then fields_of r fields else []) ++ fields_in d fields rs

-- all of them: inputs, outputs, features
abbrev pub fields_in_order : ReadingRecord → List LinuxField
fields_in_order r =
    (fields_in Input r.fields r.order ++ fields_in Output r.fields r.order)
    ++ fields_in Feature r.fields r.order

-- the number behind one, of 32 bits
abbrev pub next_number : ℕ → ℕ
next_number number = (number + 1) % 2 ^ 32

-- so many usages behind a number
abbrev pub counted_on : ℕ → ℕ → List Usage
counted_on number zero = []
counted_on number (suc more) =
    numbered_usage (next_number number) ∷ counted_on (next_number number) more

-- what local items name, in order
abbrev pub usages_named : List CoreNamed → List Usage
usages_named [] = []
usages_named (n ∷ ns) =
    numbered_usage n.first ∷ (counted_on n.first (n.last - n.first) ++ usages_named ns)

-- so many usages behind a number, then what these name
abbrev pub usages_left : ℕ → ℕ → List CoreNamed → List Usage
usages_left number more named = counted_on number more ++ usages_named named

-- the usages that hid-input goes over in a field: none where it has no elements
abbrev pub usages_of : LinuxField → ReadingRecord → List Usage
usages_of f r =
    if f.count == 0 then [] else usages_named (take f.spans (drop f.first_span r.named))
