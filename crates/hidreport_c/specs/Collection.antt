-- The collections that a field lies in as C has them (Section 6.2.2.6).
use Rattle.std.specs.Prelude.{ℕ, List, [], length, map, slice_get, Option, None, Some}
use Rattle.hidreport.specs.Records.{CollectionRecord, DescriptorRecord, FieldRecord, collections_of}
use Rattle.hidreport.specs.Spelling.{kind_number}
use Rattle.hidreport.specs.UsageNumber.{usage_number}
use Rattle.hidreport_fields.specs.declared.field.usage.Usage.{Usage}
use Rattle.hidreport_c.specs.Field.{usage_number_at}
use Rattle.hidreport_c.specs.Numbered.{field_numbered}
use Rattle.hidreport_c.specs.declared.structs.HidreportCollection.{HidreportCollection}

-- its number and its kind, how many usages it has and the first of them
abbrev pub collection_as_c : CollectionRecord → HidreportCollection
collection_as_c c = record {
  number = c.id;
  kind = kind_number c.kind;
  usage_count = length c.usages;
  usage = usage_number_at c.usages 0;
}

-- the collections of a field, if there is one
abbrev pub collections_or_none : Option FieldRecord → List CollectionRecord
collections_or_none None = []
collections_or_none (Some field) = collections_of field

-- the collections of the field with this number
abbrev pub carried : ℕ → DescriptorRecord → List CollectionRecord
carried number d = collections_or_none (field_numbered number d)

-- the collections of the field with this number, as C has them
abbrev pub listed_collections : ℕ → DescriptorRecord → List HidreportCollection
listed_collections number d = map collection_as_c (carried number d)

-- the usages of a collection, if there is one
abbrev pub usages_or_none : Option CollectionRecord → List Usage
usages_or_none None = []
usages_or_none (Some collection) = collection.usages

-- the usages of one of them
abbrev pub collection_usages : ℕ → ℕ → DescriptorRecord → List ℕ
collection_usages number index d =
    map usage_number (usages_or_none (slice_get (carried number d) index))
