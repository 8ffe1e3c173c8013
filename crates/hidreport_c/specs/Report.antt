-- The reports of a direction as C has them (Section 5.6).
use Rattle.std.specs.Prelude.{ℕ, ◌+◌, ◌/◌, List, length, map, is_some, unwrap_or}
use Rattle.hidreport.specs.Records.{DescriptorRecord, ReportRecord}
use Rattle.hidreport_c.specs.Describe.{reports_in_direction}
use Rattle.hidreport_c.specs.declared.structs.HidreportReport.{HidreportReport}

-- its sizes in bits and in whole bytes, how many fields it has, and its id
abbrev pub report_as_c : ReportRecord → HidreportReport
report_as_c r = record {
  size_in_bits = r.size;
  size_in_bytes = (r.size + 7) / 8;
  field_count = length r.fields;
  has_id = is_some r.id;
  id = unwrap_or r.id 0;
}

-- the reports that a descriptor announces in a direction
abbrev pub described_reports : ℕ → DescriptorRecord → List HidreportReport
described_reports direction d = map report_as_c (reports_in_direction direction d)
