use Rattle.std.proofs.Common.{◌≡◌, ◌||◌, drop}
use Rattle.hidreport_linux.specs.declared.linux_field.LinuxReport.{LinuxReport}
use Rattle.hidreport_multitouch.specs.Facts.{has_contact, is_among}
use Rattle.hidreport_multitouch.proofs.touch_facts.touch_reports.Given as goal

-- a report has a contact where it is listed, or where the fields that are left say so
abbrev pub invariant-loop-field : goal.invariant-loop-field
invariant-loop-field l =
    (report : LinuxReport)
    → (is_among report l.list.items
    || has_contact l.class l.reading report (drop l.field-index l.fields))
    ≡ has_contact l.class l.reading report l.fields
