use Rattle.hidreport_c.proofs.ListsLemmas.{lists-unread}
use Rattle.hidreport_c.specs.Lookup.{given_id, report_listed}
use Rattle.hidreport_c.specs.Options.{reading_of}
use Rattle.hidreport_c.proofs.describe.hidreport_report_with.Goals as goal

pub returns-in-Err : goal.returns-in-Err
returns-in-Err c =
    let id = given_id c.args.has_id c.args.id in
    lists-unread c.in-Err.refused (reading_of c.args.options) c.args.descriptor.now
    (report_listed c.args.direction id) c.args.reports.now c.in-Err.ensures
