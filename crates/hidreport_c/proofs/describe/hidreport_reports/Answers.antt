use Rattle.std.proofs.Common.{map, ap, sym, ◌∙◌}
use Rattle.hidreport.specs.Groups.{listed, listed_report}
use Rattle.hidreport_c.proofs.GroupLemmas.{reports-listed}
use Rattle.hidreport_c.proofs.ListsLemmas.{lists-read, lists-unread}
use Rattle.hidreport_c.specs.Options.{reading_of}
use Rattle.hidreport_c.specs.Report.{described_reports, report_as_c}
use Rattle.hidreport_c.proofs.describe.hidreport_reports.Goals as goal

pub returns-in-Err : goal.returns-in-Err
returns-in-Err c =
    lists-unread c.in-Err.refused (reading_of c.args.options) c.args.descriptor.now
    (described_reports c.args.direction) c.args.reports.now c.in-Err.ensures.listed

pub returns-in-Ok : goal.returns-in-Ok
returns-in-Ok c =
    let all = reports-listed c.args.direction c.in-Ok.outline
    ∙ ap (map listed_report) (sym c.reports_of.ensures) in
    lists-read (listed c.in-Ok.outline) (reading_of c.args.options) c.args.descriptor.now
    (described_reports c.args.direction) c.args.reports.now c.write_reports.new.array
    c.write_reports.result c.in-Ok.ensures.listed
    (rw (ap (map report_as_c) all) c.write_reports.ensures)
