-- What is listed of all fields of a descriptor or a report (Sections 6.2.2.6 and 6.2.2.8).
use Rattle.std.specs.Prelude.{ℕ, List, flat_map, map, option_to_list}
use Rattle.hidreport.specs.Lookup.{find_report}
use Rattle.hidreport.specs.Records.{CollectionRecord, DescriptorRecord, FieldRecord}
use Rattle.hidreport.specs.Records.{collections_of, fields_in_all, usages_in}
use Rattle.hidreport.specs.UsageNumber.{usage_number}
use Rattle.hidreport_c.specs.Collection.{collection_as_c}
use Rattle.hidreport_c.specs.Describe.{reports_in_direction}
use Rattle.hidreport_c.specs.declared.structs.HidreportCollection.{HidreportCollection}

-- the numbers of a field's usages
abbrev pub usage_numbers : FieldRecord → List ℕ
usage_numbers field = map usage_number (usages_in field)

-- the numbers of a collection's usages
abbrev pub collection_numbers : CollectionRecord → List ℕ
collection_numbers collection = map usage_number collection.usages

-- the fields that a descriptor announces in a direction
abbrev pub described : ℕ → DescriptorRecord → List FieldRecord
described direction d = fields_in_all (reports_in_direction direction d)

-- their usages, those of each field behind those of the field before
abbrev pub described_usages : ℕ → DescriptorRecord → List ℕ
described_usages direction d = flat_map usage_numbers (described direction d)

-- the same of the report that these bytes are of
abbrev pub found_usages : ℕ → List ℕ → DescriptorRecord → List ℕ
found_usages direction report d = flat_map usage_numbers
    (fields_in_all (option_to_list (find_report (reports_in_direction direction d) report)))

-- the collections around each of these fields, behind those around the field before
abbrev pub described_collections : ℕ → DescriptorRecord → List HidreportCollection
described_collections direction d =
    flat_map (λ field. map collection_as_c (collections_of field)) (described direction d)

-- the usages of each of these collections, behind those of the one before
abbrev pub described_collection_usages : ℕ → DescriptorRecord → List ℕ
described_collection_usages direction d =
    flat_map (λ field. flat_map collection_numbers (collections_of field)) (described direction d)
