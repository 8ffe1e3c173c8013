-- The walk under a budget: what of it is left between two items, and what an item spends.
use Rattle.std.specs.Prelude.{ℕ, ◌+◌, ◌-◌, nat_lt, Bool, true, false, if◌then◌else◌, List, [], ◌∷◌}
use Rattle.std.specs.Prelude.{length, map, sum_by, Option, None, Some, Result, Ok, Err}
use Rattle.hidreport_items.specs.Answer.{GrammarFault}
use Rattle.hidreport_items.specs.Flags.{Flags}
use Rattle.hidreport_items.specs.Spelling.{item_of}
use Rattle.hidreport_items.specs.declared.main_item.CollectionItem.{CollectionItem}
use Rattle.hidreport_items.specs.declared.item.ItemType.{ItemType}
use Rattle.hidreport_lists.specs.Answer.{Refusal, InvalidData}
use Rattle.hidreport_lists.specs.Entry.{Entry}
use Rattle.hidreport_lists.specs.Itemising.{itemise}
use Rattle.hidreport_lists.specs.Messages.{grammar_message}
use Rattle.hidreport.specs.Fields.{fields_of, list_or_none}
use Rattle.hidreport.specs.Groups.{OutlineRecord}
use Rattle.hidreport.specs.ItemState.{first_of}
use Rattle.hidreport.specs.Kinds.{Direction, collection_kind_of, data_of}
use Rattle.hidreport.specs.Making.{extent}
use Rattle.hidreport.specs.Meaning.{at_offset, empty_descriptor}
use Rattle.hidreport.specs.MeaningFault.{MeaningFault, BudgetExceeded}
use Rattle.hidreport.specs.Parser.Machine.{StateRecord, fault_in, go_on, next_state, first_state}
use Rattle.hidreport.specs.Parser.Machine.{start_in}
use Rattle.hidreport.specs.Parser.Machine.{unless_fault}
use Rattle.hidreport_fields.specs.Records.{DescriptorRecord}
use Rattle.hidreport.specs.Usages.{usages_of}
use Rattle.hidreport.specs.Weight.{field_weight}
use Rattle.hidreport.specs.declared.parse_options.ParseOptions.{ParseOptions}

-- the collection that an item opens
abbrev pub weight_opened_in : StateRecord → Option CollectionItem → ℕ
weight_opened_in h None = 0
weight_opened_in h (Some kind) = 1 + length (list_or_none (usages_of h.item_state)).usages

-- the fields that a data item makes
abbrev pub weight_made_in : StateRecord → Option (Direction × Flags) → ℕ
weight_made_in h None = 0
weight_made_in h (Some x) = sum_by field_weight
    (fields_of h.item_state h.opened h.fields (start_in x.0 h) (Some x) (extent h.item_state))

-- the weight of an item without a fault, from what is held
abbrev pub weight_in : StateRecord → ItemType → ℕ
weight_in h x = weight_opened_in h (collection_kind_of x) + weight_made_in h (data_of x)

-- the weight passes what is left; none is without a limit
abbrev pub is_past : Option ℕ → ℕ → Bool
is_past None weight = false
is_past (Some left) weight = nat_lt left weight

-- what is left behind the item
abbrev pub left_behind : Option ℕ → ℕ → Option ℕ
left_behind None weight = None
left_behind (Some left) weight = Some (left - weight)

-- past the limit: `BudgetExceeded`
abbrev pub past_fault : Bool → Option MeaningFault
past_fault true = Some BudgetExceeded
past_fault false = None

-- why the walk ends at the item: its fault, or else its weight
abbrev pub stop_in : Option ℕ → StateRecord → ItemType → Option MeaningFault
stop_in left h x = first_of (fault_in h x) (past_fault (is_past left (weight_in h x)))

-- the walk over the items from index k on, where so much is left; of what is held behind the last
-- this is answered
abbrev pub walk_to : {A : Type 0} → (StateRecord → A) → Option ℕ → StateRecord → ℕ → List ItemType
    → Result A (ℕ × MeaningFault)
walk_to part left h k [] = Ok (part h)
walk_to part left h k (x ∷ xs) = go_on (unless_fault (stop_in left h x) (next_state h x)) k
    (λ next. walk_to part (left_behind left (weight_in h x)) next (k + 1) xs)

-- a grammar fault, or else what the walk over the items gives, from what is held and left
abbrev pub walk_items_to : {A : Type 0} → (StateRecord → A) → Option ℕ → StateRecord
    → Result (List Entry) (ℕ × GrammarFault) → Result A Refusal
walk_items_to part left h (Err fault) = Err (InvalidData fault.0 (grammar_message fault.1))
walk_items_to part left h (Ok entries) =
    at_offset entries (walk_to part left h 0 (map (λ (e : Entry). e.item) entries))

-- the same of a descriptor's bytes
abbrev pub walk_bytes_to : {A : Type 0} → (StateRecord → A) → ParseOptions → List ℕ
    → Result A Refusal
walk_bytes_to part options [] = Err (InvalidData 0 empty_descriptor)
walk_bytes_to part options (b ∷ bs) =
    walk_items_to part options.limit (first_state options) (itemise item_of (b ∷ bs))

-- the reports, field by field, and in groups
abbrev pub in_fields : StateRecord → DescriptorRecord
in_fields h = h.descriptor

abbrev pub in_groups : StateRecord → OutlineRecord
in_groups h = h.outline

-- the walks that answer the reports field by field
abbrev pub walk_within : Option ℕ → StateRecord → ℕ → List ItemType
    → Result DescriptorRecord (ℕ × MeaningFault)
walk_within = walk_to in_fields

abbrev pub walk_items : Option ℕ → StateRecord → Result (List Entry) (ℕ × GrammarFault)
    → Result DescriptorRecord Refusal
walk_items = walk_items_to in_fields

abbrev pub walk_bytes : ParseOptions → List ℕ → Result DescriptorRecord Refusal
walk_bytes = walk_bytes_to in_fields

-- how much each of an item's fields weighs, with so many usages and the collections around it
abbrev pub weight_of_each : Flags → ℕ → ℕ → ℕ
weight_of_each flags usages around =
    if flags.constant then 1 else (if flags.variable then 1 + around else 1 + (usages + around))
