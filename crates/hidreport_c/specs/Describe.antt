-- The fields of a descriptor's reports as C has them.
use Rattle.std.specs.Prelude.{◌≡◌, ℕ, ◌==◌, if◌then◌else◌, List, [], map, flat_map, Option, None, Some, Ok}
use Rattle.hidreport.specs.Lookup.{find_report}
use Rattle.hidreport.specs.Records.{DescriptorOf, DescriptorRecord, ReportOf, ReportRecord}
use Rattle.hidreport_c.specs.Answer.{IsRead}
use Rattle.hidreport_c.specs.Field.{as_c}
use Rattle.hidreport_c.specs.declared.options.Reading.{Reading}
use Rattle.hidreport_c.specs.declared.structs.HidreportField.{HidreportField}

-- the reports of a direction: 0 from the device, 1 from the host, 2 features
abbrev pub reports_in_direction : {A : Type 0} → ℕ → DescriptorOf A → List (ReportOf A)
reports_in_direction direction d =
    if direction == 0 then d.input
    else (if direction == 1 then d.output
    else (if direction == 2 then d.feature else []))

-- these are the reports of a direction of the descriptor that bytes are, read so
pub record AreReports (direction : ℕ) (reports : List ReportRecord) (options : Option Reading)
    (bytes : List ℕ) : Type 0 where
  pub descriptor : DescriptorRecord
  pub read : IsRead (Ok descriptor) options bytes
  pub are : reports ≡ reports_in_direction direction descriptor

-- the fields of these reports, in order
abbrev pub fields_as_c : List ReportRecord → List HidreportField
fields_as_c reports = map as_c (flat_map (λ r. r.fields) reports)

-- the fields that a descriptor announces in a direction
abbrev pub described_fields : ℕ → DescriptorRecord → List HidreportField
described_fields direction d = fields_as_c (reports_in_direction direction d)

-- the fields of a report as C has them, if there is one
abbrev pub fields_or_none : Option ReportRecord → List HidreportField
fields_or_none None = []
fields_or_none (Some report) = map as_c report.fields

-- the fields of the report that these bytes are of
abbrev pub found_fields : ℕ → List ℕ → DescriptorRecord → List HidreportField
found_fields direction report d =
    fields_or_none (find_report (reports_in_direction direction d) report)
