use Rattle.hidreport_c.proofs.ListsLemmas.{lists-unread}
use Rattle.hidreport_c.specs.Lookup.{field_for_listed, given_id}
use Rattle.hidreport_c.specs.Options.{reading_of}
use Rattle.hidreport_c.proofs.numbered.hidreport_field_for.Goals as goal

pub returns-in-Err : goal.returns-in-Err
returns-in-Err c =
    let id = given_id c.args.has_id c.args.id in
    lists-unread c.in-Err.refused (reading_of c.args.options) c.args.descriptor.now
    (field_for_listed c.args.direction id c.args.usage) c.args.fields.now
    c.in-Err.ensures
