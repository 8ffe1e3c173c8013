-- Weight: how many fields, usages of arrays and collections around fields an item makes a parser
-- list, with the usages of these collections; and the usages of a collection that is opened.
use Rattle.std.specs.Prelude.{ℕ, ◌+◌, suc, nat_lt, List, length, sum_by, find, Option, None, Some}
use Rattle.std.specs.List.{enumerate_from}
use Rattle.hidreport_items.specs.Flags.{Flags}
use Rattle.hidreport_items.specs.declared.main_item.CollectionItem.{CollectionItem}
use Rattle.hidreport_items.specs.declared.item.ItemType.{ItemType}
use Rattle.hidreport.specs.Faults.{fault}
use Rattle.hidreport.specs.Fields.{collection_record, fields_at}
use Rattle.hidreport.specs.ItemState.{ItemState}
use Rattle.hidreport.specs.Kinds.{Indexed, Direction, collection_kind_of, data_of}
use Rattle.hidreport.specs.MeaningFault.{MeaningFault}
use Rattle.hidreport_fields.specs.Records.{CollectionRecord, FieldRecord, VariableRecord, ArrayRecord}
use Rattle.hidreport_fields.specs.Records.{ConstantRecord, ReportRecord, DescriptorRecord}
use Rattle.hidreport.specs.Visibility.{before}

-- a collection weighs 1 and its usages
abbrev pub collection_weight : CollectionRecord → ℕ
collection_weight c = 1 + length c.usages

-- a field weighs 1, the usages of an array, and the collections that it carries; padding carries
-- none
abbrev pub field_weight : FieldRecord → ℕ
field_weight (VariableRecord place usage shared) = 1 + sum_by collection_weight shared.collections
field_weight (ArrayRecord place usages is_range count shared) =
    1 + (length usages + sum_by collection_weight shared.collections)
field_weight (ConstantRecord place) = 1

-- the collection that an item opens
abbrev pub weight_opened : (ℕ → ItemState) → Option CollectionItem → List ItemType → Indexed → ℕ
weight_opened state_at None items p = 0
weight_opened state_at (Some kind) items p =
    collection_weight (collection_record state_at items p)

-- the fields that a data item makes
abbrev pub weight_made : (ℕ → ItemState) → Option (Direction × Flags) → List ItemType → Indexed → ℕ
weight_made state_at None items p = 0
weight_made state_at (Some x) items p = sum_by field_weight (fields_at state_at x.0 items p)

-- an item with a fault weighs nothing
abbrev pub unless_faulty : Option MeaningFault → ℕ → ℕ
unless_faulty None weight = weight
unless_faulty (Some fault) weight = 0

-- the weight of the item x at k
abbrev pub weight : (ℕ → ItemState) → List ItemType → ℕ → ItemType → ℕ
weight state_at items k x = unless_faulty (fault state_at items k x)
    (weight_opened state_at (collection_kind_of x) items (k, x)
    + weight_made state_at (data_of x) items (k, x))

-- the weight of the items before k
abbrev pub weight_before : (ℕ → ItemState) → List ItemType → ℕ → ℕ
weight_before state_at items k = sum_by (λ p. weight state_at items p.0 p.1) (before items k)

-- the first item with which the weight passes the limit
abbrev pub first_past : (ℕ → ItemState) → ℕ → List ItemType → Option Indexed
first_past state_at limit items =
    find (λ p. nat_lt limit (weight_before state_at items (suc p.0))) (enumerate_from 0 items)

-- the fields of a report together
abbrev pub report_weight : ReportRecord → ℕ
report_weight r = sum_by field_weight r.fields

-- the fields of a descriptor together
abbrev pub descriptor_weight : DescriptorRecord → ℕ
descriptor_weight d =
    sum_by report_weight d.input + (sum_by report_weight d.output + sum_by report_weight d.feature)
