use Rattle.std.proofs.Common.{sym}
use Rattle.hidreport_c.proofs.ListsLemmas.{lists-in, lists-unread}
use Rattle.hidreport_c.specs.Describe.{described_fields, fields_as_c}
use Rattle.hidreport_c.specs.Options.{reading_of}
use Rattle.hidreport_c.proofs.describe.hidreport_describe.Goals as goal

pub returns-in-Err : goal.returns-in-Err
returns-in-Err c =
    lists-unread c.in-Err.refused (reading_of c.args.options) c.args.descriptor.now
    (described_fields c.args.direction) c.args.fields.now c.in-Err.ensures.refused

pub returns-in-Ok : goal.returns-in-Ok
returns-in-Ok c =
    lists-in c.args.direction c.in-Ok.reports.items (reading_of c.args.options)
    c.args.descriptor.now fields_as_c c.args.fields.now c.write_fields.new.fields
    c.write_fields.result c.in-Ok.ensures.read
    (rw (sym c.deref.ensures.value) c.write_fields.ensures)
