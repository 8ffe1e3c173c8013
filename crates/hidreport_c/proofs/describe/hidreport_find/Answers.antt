use Rattle.hidreport_c.proofs.ListsLemmas.{lists-unread}
use Rattle.hidreport_c.specs.Options.{reading_of}
use Rattle.hidreport_c.specs.Describe.{found_fields}
use Rattle.hidreport_c.proofs.describe.hidreport_find.Goals as goal

pub returns-in-Err : goal.returns-in-Err
returns-in-Err c =
    lists-unread c.in-Err.refused (reading_of c.args.options) c.args.descriptor.now
    (found_fields c.args.direction c.args.report.now) c.args.fields.now c.in-Err.ensures
