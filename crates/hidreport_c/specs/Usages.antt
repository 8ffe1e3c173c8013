-- The usages of a field, and the one that a value stands for (Sections 6.2.2.5 and 6.2.2.8).
use Rattle.std.specs.Prelude.{ℕ, ℤ, ◌==◌, if◌then◌else◌, true, false}
use Rattle.std.specs.Prelude.{List, [], map, Option, None, Some}
use Rattle.hidreport.specs.Choosing.{usage_chosen}
use Rattle.hidreport.specs.Records.{DescriptorRecord, FieldRecord, usages_in}
use Rattle.hidreport.specs.UsageNumber.{usage_number}
use Rattle.hidreport_c.specs.Numbered.{field_numbered}
use Rattle.hidreport_c.specs.declared.structs.HidreportField.{HidreportField}
use Rattle.hidreport_c.specs.declared.structs.HidreportUsage.{HidreportUsage}

-- the usages of a field as numbers, if there is one
abbrev pub usage_numbers : Option FieldRecord → List ℕ
usage_numbers None = []
usage_numbers (Some field) = map usage_number (usages_in field)

-- the usages of the field with this number
abbrev pub listed_usages : ℕ → DescriptorRecord → List ℕ
listed_usages number d = usage_numbers (field_numbered number d)

-- the usage that a value of an array stands for; no other field chooses among usages
abbrev pub usage_meant : HidreportField → List ℕ → ℤ → Option ℕ
usage_meant f usages value =
    if f.kind == 1 then usage_chosen usages f.measures.logical_minimum f.measures.logical_maximum
    value
    else None

-- it, if there is one
abbrev pub usage_as_c : Option ℕ → HidreportUsage
usage_as_c (Some usage) = record { usage = usage; is_meant = true }
usage_as_c None = record { usage = 0; is_meant = false }
