use Rattle.hidreport_c.proofs.ListsLemmas.{lists-unread}
use Rattle.hidreport_c.specs.Options.{reading_of}
use Rattle.hidreport_c.specs.Collection.{listed_collections}
use Rattle.hidreport_c.proofs.numbered.hidreport_collections.Goals as goal

pub returns-in-Err : goal.returns-in-Err
returns-in-Err c =
    lists-unread c.in-Err.refused (reading_of c.args.options) c.args.descriptor.now
    (listed_collections c.args.field) c.args.collections.now c.in-Err.ensures
