-- The items with data that Linux's hid-core keeps as fields (hid_add_field of Linux 6.12).
use Rattle.std.specs.Prelude.{ℕ, ◌-◌, ◌*◌, ◌/◌, ◌%◌, ◌^◌, ◌==◌, min, nat_lt, if◌then◌else◌, [], ◌∷◌, ◌++◌, length}
use Rattle.hidreport_fields.specs.declared.field.data_item.Direction.{Direction}
use Rattle.hidreport_linux.specs.CoreKept.{ReadingRecord, application_in_force, around_in_force}
use Rattle.hidreport_linux.specs.CoreReports.{report_at}
use Rattle.hidreport_linux.specs.CoreUsages.{moved}
use Rattle.hidreport_linux.specs.declared.axis.Measures.{Measures}
use Rattle.hidreport_linux.specs.declared.linux_field.LinuxField.{LinuxField}
use Rattle.hidreport_linux.specs.declared.linux_field.LinuxReport.{LinuxReport}
use Rattle.hidreport_linux.specs.declared.place.Place.{Place}
use Rattle.hidreport_linux.specs.declared.reading.core_around.CoreAround.{CoreAround}
use Rattle.hidreport_linux.specs.declared.reading.core_globals.CoreGlobals.{CoreGlobals}
use Rattle.hidreport_linux.specs.declared.reading.core_reports.CoreReport.{CoreReport}

-- the numbers that an axis has its own from
abbrev pub measures_by : CoreGlobals → Measures
measures_by g = record {
  minimum = g.minimum;
  maximum = g.maximum;
  physical_minimum = g.physical_minimum;
  physical_maximum = g.physical_maximum;
  unit = g.unit;
  exponent = g.exponent;
}

-- where the usages of an item with these flags lie, whose elements have so many bits
abbrev pub place_by : Direction → ℕ → ℕ → CoreAround → Place
place_by d flags size a = record {
  direction = d;
  is_constant = flags % 2 == 1;
  is_relative = flags / 4 % 2 == 1;
  is_bit = size == 1;
  application = a.application;
  physical = a.physical;
  logical = a.logical;
  has_macros = a.has_macros;
}

-- the report that an item adds to, by what is kept of it
abbrev pub report_by : Direction → ℕ → CoreReport → LinuxReport
report_by d id report = record { direction = d; id = id; application = report.application }

-- the field of an item that names usages, whose report it is counted in
abbrev pub field_of : ℕ → Direction → ℕ → CoreReport → ReadingRecord → LinuxField
field_of offset d flags report r = record {
  offset = offset;
  report = report_by d r.globals.id report;
  is_first = report.items == 1;
  is_past = nat_lt 256 report.items;
  is_variable = flags / 2 % 2 == 1;
  has_null_state = flags / 64 % 2 == 1;
  is_buffered = flags / 256 % 2 == 1;
  collection = (around_in_force r).collection;
  first_bit = report.bits - min (r.globals.size * r.globals.count) (2 ^ 32 - 1);
  size = r.globals.size;
  count = r.globals.count;
  usages = r.locals.usages.count;
  left_out = r.locals.left_out;
  place = place_by d flags r.globals.size (around_in_force r);
  measures = measures_by r.globals;
  first_span = length r.named;
  spans = length r.locals.usages.named;
}

-- a report is registered at its first item
abbrev pub with_order : Direction → ReadingRecord → ReadingRecord
with_order d r =
    if (report_at d r.globals.id r.reports).is_there then r
    else record r {
      order = r.order ++ (record {
        direction = d;
        id = r.globals.id;
        application = application_in_force r;
      }) ∷ [];
    }

-- one field more, and what names its usages
abbrev pub with_field : ℕ → Direction → ℕ → ReadingRecord → ReadingRecord
with_field offset d flags r = record r {
  fields =
      r.fields ++ field_of offset d flags (report_at d r.globals.id r.reports) r ∷ [];
  named = r.named ++ moved r.globals.page r.locals.usages;
}

-- an item without usages is padding
abbrev pub if_field : ℕ → Direction → ℕ → ReadingRecord → ReadingRecord
if_field offset d flags r =
    if r.locals.usages.count == 0 then r else with_field offset d flags r
