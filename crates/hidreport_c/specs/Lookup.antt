-- A report by its id, and a field by its number or by a usage, as C has them (Section 5.6).
use Rattle.std.specs.Prelude.{ℕ, Bool, if◌then◌else◌, List, [], ◌∷◌, Option, None, Some}
use Rattle.hidreport.specs.Lookup.{field_for, report_with}
use Rattle.hidreport.specs.Records.{DescriptorRecord, FieldRecord, ReportRecord}
use Rattle.hidreport.specs.UsageNumber.{numbered_usage}
use Rattle.hidreport_c.specs.Describe.{reports_in_direction}
use Rattle.hidreport_c.specs.Field.{as_c}
use Rattle.hidreport_c.specs.Numbered.{field_numbered}
use Rattle.hidreport_c.specs.Report.{report_as_c}
use Rattle.hidreport_c.specs.declared.structs.HidreportField.{HidreportField}
use Rattle.hidreport_c.specs.declared.structs.HidreportReport.{HidreportReport}

-- an id, or that there is none
abbrev pub given_id : Bool → ℕ → Option ℕ
given_id has_id id = if has_id then Some id else None

-- the report of a direction with this id, or without one
abbrev pub report_in : ℕ → Option ℕ → DescriptorRecord → Option ReportRecord
report_in direction id d = report_with id (reports_in_direction direction d)

-- a report as C has it, if there is one
abbrev pub report_or_none : Option ReportRecord → List HidreportReport
report_or_none None = []
report_or_none (Some report) = report_as_c report ∷ []

-- the report of a direction with this id
abbrev pub report_listed : ℕ → Option ℕ → DescriptorRecord → List HidreportReport
report_listed direction id d = report_or_none (report_in direction id d)

-- a field as C has it, if there is one
abbrev pub field_or_none : Option FieldRecord → List HidreportField
field_or_none None = []
field_or_none (Some field) = as_c field ∷ []

-- the field with this number
abbrev pub field_listed : ℕ → DescriptorRecord → List HidreportField
field_listed number d = field_or_none (field_numbered number d)

-- the first field of a report that has the usage
abbrev pub field_with_usage : ℕ → Option ReportRecord → Option FieldRecord
field_with_usage usage None = None
field_with_usage usage (Some report) = field_for (numbered_usage usage) report.fields

-- the first field of a report with this usage
abbrev pub field_for_listed : ℕ → Option ℕ → ℕ → DescriptorRecord → List HidreportField
field_for_listed direction id usage d =
    field_or_none (field_with_usage usage (report_in direction id d))
