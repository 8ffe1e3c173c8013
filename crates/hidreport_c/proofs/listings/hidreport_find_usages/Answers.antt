use Rattle.hidreport_c.proofs.ListsLemmas.{lists-unread}
use Rattle.hidreport_c.specs.Options.{reading_of}
use Rattle.hidreport_c.specs.Listings.{found_usages}
use Rattle.hidreport_c.proofs.listings.hidreport_find_usages.Goals as goal

pub returns-in-Err : goal.returns-in-Err
returns-in-Err c =
    lists-unread c.in-Err.refused (reading_of c.args.options) c.args.descriptor.now
    (found_usages c.args.direction c.args.report.now) c.args.usages.now c.in-Err.ensures
