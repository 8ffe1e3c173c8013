use Rattle.std.proofs.Common.{map, sym}
use Rattle.std.specs.Prelude.{flat_map}
use Rattle.hidreport.specs.Records.{fields_in_all}
use Rattle.hidreport_c.proofs.ListsLemmas.{lists-in, lists-unread}
use Rattle.hidreport.specs.Records.{collections_of}
use Rattle.hidreport_c.specs.Collection.{collection_as_c}
use Rattle.hidreport_c.specs.Listings.{described_collections}
use Rattle.hidreport_c.specs.Options.{reading_of}
use Rattle.hidreport_c.proofs.listings.hidreport_describe_collections.Goals as goal

pub returns-in-Err : goal.returns-in-Err
returns-in-Err c =
    lists-unread c.in-Err.refused (reading_of c.args.options) c.args.descriptor.now
    (described_collections c.args.direction) c.args.collections.now c.in-Err.ensures.refused

pub returns-in-Ok : goal.returns-in-Ok
returns-in-Ok c =
    lists-in c.args.direction c.in-Ok.reports.items (reading_of c.args.options)
    c.args.descriptor.now (λ reports. flat_map (λ field. map collection_as_c (collections_of field)) (fields_in_all reports))
    c.args.collections.now c.write_all.new.array c.write_all.result c.in-Ok.ensures.read
    (rw (sym c.deref.ensures.value) c.write_all.ensures)
