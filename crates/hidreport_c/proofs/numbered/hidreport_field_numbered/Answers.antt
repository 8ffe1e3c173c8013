use Rattle.hidreport_c.proofs.ListsLemmas.{lists-unread}
use Rattle.hidreport_c.specs.Lookup.{field_listed}
use Rattle.hidreport_c.specs.Options.{reading_of}
use Rattle.hidreport_c.proofs.numbered.hidreport_field_numbered.Goals as goal

pub returns-in-Err : goal.returns-in-Err
returns-in-Err c =
    lists-unread c.in-Err.refused (reading_of c.args.options) c.args.descriptor.now
    (field_listed c.args.number) c.args.fields.now c.in-Err.ensures
