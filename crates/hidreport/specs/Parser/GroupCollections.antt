-- A collection around a group as the parser holds it.
use Rattle.hidreport_fields.specs.Records.{CollectionRecord}
use Rattle.hidreport.specs.declared.report.group_collection.CollectionForm.{CollectionForm}
use Rattle.hidreport.specs.declared.report.group_collection.CollectionForm.TheVariants as form

-- the collection, its usages listed or not
abbrev pub collection_in : CollectionForm → CollectionRecord
collection_in (form.Listed collection) = collection.now
collection_in (form.Named collection) = collection.now
