-- The reports of a descriptor, as Linux's hid-core keeps them.
use Rattle.std.specs.Prelude.{ℕ, ◌+◌, ◌-◌, ◌%◌, ◌^◌, ◌==◌, min, nat_lt, Bool, true, false, ◌&&◌}
use Rattle.std.specs.Prelude.{if◌then◌else◌, Option, Some, None, replicate}
use Rattle.std.specs.List.{slice_index_or, slice_set}
use Rattle.hidreport_fields.specs.declared.field.data_item.Direction.{Direction}
use Rattle.hidreport_fields.specs.declared.field.data_item.Direction.TheVariants as direction
use Rattle.hidreport_linux.specs.declared.reading.core_reports.CoreReport.{CoreReport}
use Rattle.hidreport_linux.specs.declared.reading.core_reports.CoreReports.{CoreReports}

-- one of which nothing is known
abbrev pub no_report : CoreReport
no_report = record { is_there = false; items = 0; application = 0; bits = 0 }

-- no report is known
abbrev pub no_reports : CoreReports
no_reports = record { reports = replicate 768 no_report }

-- with one item more, of so many bits; of items that name usages no more than 257 are counted
abbrev pub with_item : ℕ → Bool → ℕ → CoreReport → CoreReport
with_item application has_usages bits r = record {
  is_there = true;
  items = if has_usages && nat_lt r.items 257 then r.items + 1 else r.items;
  application = if r.is_there then r.application else application;
  bits = min (r.bits + bits) (2 ^ 32 - 1);
}

abbrev pub first_place : Direction → ℕ
first_place direction.Input = 0
first_place direction.Output = 256
first_place direction.Feature = 512

-- the place of a report by its direction and its id, 0 where it has none
abbrev pub place_of : Direction → ℕ → ℕ
place_of d id = first_place d + id % 256

-- what is kept of a report
abbrev pub report_at : Direction → ℕ → CoreReports → CoreReport
report_at d id rs = slice_index_or rs.reports (place_of d id) no_report

-- with an item more in a report
abbrev pub with_data : Direction → ℕ → ℕ → Bool → ℕ → CoreReports → CoreReports
with_data d id application has_usages bits rs = record {
  reports = slice_set rs.reports (place_of d id)
      (with_item application has_usages bits (report_at d id rs));
}

-- the application of a report with an item that names usages; 0 where it lies in none
abbrev pub application_of : Direction → ℕ → CoreReports → Option ℕ
application_of d id rs =
    if (report_at d id rs).items == 0 then None else Some (report_at d id rs).application
