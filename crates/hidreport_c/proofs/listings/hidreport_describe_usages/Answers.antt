use Rattle.std.proofs.Common.{sym}
use Rattle.std.specs.Prelude.{flat_map}
use Rattle.hidreport.specs.Records.{fields_in_all}
use Rattle.hidreport_c.proofs.ListsLemmas.{lists-in, lists-unread}
use Rattle.hidreport_c.specs.Listings.{described_usages, usage_numbers}
use Rattle.hidreport_c.specs.Options.{reading_of}
use Rattle.hidreport_c.proofs.listings.hidreport_describe_usages.Goals as goal

pub returns-in-Err : goal.returns-in-Err
returns-in-Err c =
    lists-unread c.in-Err.refused (reading_of c.args.options) c.args.descriptor.now
    (described_usages c.args.direction) c.args.usages.now c.in-Err.ensures.refused

pub returns-in-Ok : goal.returns-in-Ok
returns-in-Ok c =
    lists-in c.args.direction c.in-Ok.reports.items (reading_of c.args.options)
    c.args.descriptor.now (λ reports. flat_map usage_numbers (fields_in_all reports))
    c.args.usages.now c.write_all.new.array c.write_all.result c.in-Ok.ensures.read
    (rw (sym c.deref.ensures.value) c.write_all.ensures)
