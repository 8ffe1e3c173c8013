-- The usages of a collection as plain data.
use Rattle.std.specs.Arc.{arc_slice_items}
use Rattle.std.specs.Prelude.{List, [], ◌∷◌}
use Rattle.hidreport_fields.specs.declared.field.collection.CollectionUsages.{CollectionUsages}
use Rattle.hidreport_fields.specs.declared.field.collection.CollectionUsages.TheVariants as usages
use Rattle.hidreport_fields.specs.declared.field.usage.Usage.{Usage}

-- one by itself, or all of a list
abbrev pub collection_usages : CollectionUsages → List Usage
collection_usages (usages.One usage) = usage ∷ []
collection_usages (usages.List shared) = arc_slice_items shared
