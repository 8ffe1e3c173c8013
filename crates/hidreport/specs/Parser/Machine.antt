-- The same meaning by one walk forward: what is held between two items, and what an item changes.
use Rattle.std.specs.Prelude.{ℕ, suc, ◌&&◌, is_some, ◌+◌, ◌-◌, length, take, Bool, if◌then◌else◌}
use Rattle.std.specs.Prelude.{List, [], ◌∷◌, ◌++◌, map, filter, flat_map, sum_by, Option, None}
use Rattle.std.specs.Prelude.{Some, option_to_list, Result, Ok, Err}
use Rattle.hidreport_items.specs.Flags.{Flags}
use Rattle.hidreport_items.specs.declared.main_item.CollectionItem.{CollectionItem}
use Rattle.hidreport_items.specs.declared.item.ItemType.{ItemType}
use Rattle.hidreport.specs.Faults.{Counts, item_fault}
use Rattle.hidreport.specs.Groups.{GroupRecord, OutlineRecord, groups_of}
use Rattle.hidreport.specs.Fields.{fields_of, fields_made, list_or_none}
use Rattle.hidreport.specs.ItemState.{ItemState, first_of, paged_local}
use Rattle.hidreport_fields.specs.Lookup.{reports_of}
use Rattle.hidreport.specs.Making.{extent}
use Rattle.hidreport_fields.specs.ReportIds.{same_key}
use Rattle.hidreport.specs.Meaning.{firsts_after}
use Rattle.hidreport.specs.MeaningFault.{MeaningFault}
use Rattle.hidreport_fields.specs.ReportIds.{id_bits}
use Rattle.hidreport.specs.Places.{bits_of}
use Rattle.hidreport_fields.specs.Records.{CollectionRecord, DescriptorOf, DescriptorRecord}
use Rattle.hidreport_fields.specs.Records.{ReportOf, ReportRecord}
use Rattle.hidreport.specs.Usages.{usages_of}
use Rattle.hidreport.specs.declared.parse_options.ParseOptions.{ParseOptions}
use Rattle.hidreport.specs.declared.parser.paged_local.PagedLocal.{PagedLocal}
use Rattle.hidreport.specs.declared.parser.usages_by.UsagesBy.{UsagesBy}
use Rattle.hidreport.specs.declared.parser.push_keeps.PushKeeps.{PushKeeps}
use Rattle.hidreport.specs.declared.parser.push_keeps.PushKeeps.TheVariants as a_push_keeps
use Rattle.hidreport.specs.Kinds.{Indexed, Direction, Input, Output, Feature, data_of, goes}
use Rattle.hidreport.specs.Kinds.{is_main, is_push, is_pop, is_end_collection, collection_kind_of}
use Rattle.hidreport.specs.Kinds.{usage_page_of, logical_minimum_of, logical_maximum_of}
use Rattle.hidreport.specs.Kinds.{physical_minimum_of, physical_maximum_of, unit_exponent_of}
use Rattle.hidreport.specs.Kinds.{unit_of, report_size_of, report_id_of, report_count_of}

-- a main item ends the locals, a local item is added to them, with the page in force
abbrev pub next_locals : Option ℕ → List PagedLocal → ItemType → List PagedLocal
next_locals page xs x = if is_main x then [] else xs ++ option_to_list (paged_local page x)

-- what is in force behind one more item
abbrev pub next_item_state : ItemState → ItemType → ItemState
next_item_state state x = record {
  usage_page = first_of (usage_page_of x) state.usage_page;
  logical_minimum = first_of (logical_minimum_of x) state.logical_minimum;
  logical_maximum = first_of (logical_maximum_of x) state.logical_maximum;
  physical_minimum = first_of (physical_minimum_of x) state.physical_minimum;
  physical_maximum = first_of (physical_maximum_of x) state.physical_maximum;
  unit_exponent = first_of (unit_exponent_of x) state.unit_exponent;
  unit = first_of (unit_of x) state.unit;
  report_size = first_of (report_size_of x) state.report_size;
  report_id = first_of (report_id_of x) state.report_id;
  report_count = first_of (report_count_of x) state.report_count;
  locals = next_locals state.usage_page state.locals x;
  usages_by = state.usages_by;
}

-- the report with this id that these items make, each adding bits and fields to the report of its
-- key
abbrev pub report_made : {A : Type 0} → (Indexed → Option ℕ) → (Indexed → ℕ)
    → (Indexed → List A) → List Indexed → Option ℕ → ReportOf A
report_made key bits fields ms id = record {
  id = id;
  size = id_bits id + sum_by bits (filter (λ p. same_key (key p) id) ms);
  fields = flat_map fields (filter (λ p. same_key (key p) id) ms);
}

-- the reports that these items make
abbrev pub reports_made : {A : Type 0} → (Indexed → Option ℕ) → (Indexed → ℕ)
    → (Indexed → List A) → List Indexed → List (ReportOf A)
reports_made key bits fields ms = map (report_made key bits fields ms) (firsts_after [] (map key ms))

-- where the report with this id ends so far
abbrev pub size_in : {A : Type 0} → Option ℕ → List (ReportOf A) → ℕ
size_in id [] = id_bits id
size_in id (r ∷ rs) = if same_key r.id id then r.size else size_in id rs

-- the id of the first report
abbrev pub first_id : {A : Type 0} → List (ReportOf A) → Option ℕ
first_id [] = None
first_id (r ∷ rs) = r.id

-- the index of the report with this id, or the length where there is none
abbrev pub index_in : {A : Type 0} → Option ℕ → List (ReportOf A) → ℕ
index_in id [] = 0
index_in id (r ∷ rs) = if same_key r.id id then 0 else suc (index_in id rs)

-- the reports with these bits and fields added to the one with this id, which is made at need
abbrev pub added_to : {A : Type 0} → Option ℕ → ℕ → List A → List (ReportOf A)
    → List (ReportOf A)
added_to id bits fields [] = record { id = id; size = id_bits id + bits; fields = fields } ∷ []
added_to id bits fields (r ∷ rs) =
    if same_key r.id id then record { id = r.id; size = r.size + bits; fields = r.fields ++ fields }
    ∷ rs
    else r ∷ added_to id bits fields rs

-- what is held between two items: what a Push keeps, what is in force, what the open Pushes keep,
-- outermost first, the reports so far, field by field and in groups, and how many fields they have,
-- the open collections, outermost first, and how many were opened
pub record StateRecord : Type 0 where
  pub push_keeps : PushKeeps
  pub item_state : ItemState
  pub stack : List ItemState
  pub descriptor : DescriptorRecord
  pub outline : OutlineRecord
  pub fields : ℕ
  pub opened : List CollectionRecord
  pub collections : ℕ

-- the descriptor with other reports of a direction
abbrev pub with_reports : {A : Type 0} → Direction → List (ReportOf A) → DescriptorOf A
    → DescriptorOf A
with_reports Input rs r = record { input = rs; output = r.output; feature = r.feature }
with_reports Output rs r = record { input = r.input; output = rs; feature = r.feature }
with_reports Feature rs r = record { input = r.input; output = r.output; feature = rs }

-- the id of the report that a data item of a direction adds to
abbrev pub key_in : Direction → StateRecord → Option ℕ
key_in d h = first_of h.item_state.report_id (first_id (reports_of d h.descriptor))

-- where its fields begin
abbrev pub start_in : Direction → StateRecord → ℕ
start_in d h = size_in (key_in d h) (reports_of d h.descriptor)

-- where the fields of a data item begin; of another item 0
abbrev pub start_for : Option (Direction × Flags) → StateRecord → ℕ
start_for None h = 0
start_for (Some x) h = start_in x.0 h

-- the counts before an item
abbrev pub counts_in : StateRecord → ItemType → Counts
counts_in h x = record {
  level = length h.stack;
  depth = length h.opened;
  collections = h.collections;
  fields = h.fields;
  start = start_for (data_of x) h;
}

-- the item makes fields in this direction
abbrev pub adds : Direction → StateRecord → ItemType → Bool
adds d h x = goes d (data_of x) && is_some (extent h.item_state)

-- the reports of a direction behind the item
abbrev pub next_reports : Direction → StateRecord → ItemType → List ReportRecord
next_reports d h x =
    if adds d h x then added_to (key_in d h) (bits_of (extent h.item_state))
    (fields_of h.item_state h.opened h.fields (start_in d h) (data_of x) (extent h.item_state))
    (reports_of d h.descriptor)
    else reports_of d h.descriptor

-- the same, their fields in groups
abbrev pub next_groups : Direction → StateRecord → ItemType → List (ReportOf GroupRecord)
next_groups d h x =
    if adds d h x then added_to (key_in d h) (bits_of (extent h.item_state))
    (groups_of h.item_state h.opened h.fields (start_in d h) (data_of x) (extent h.item_state))
    (reports_of d h.outline)
    else reports_of d h.outline

-- the collection that an item opens
abbrev pub new_collection : StateRecord → Option CollectionItem → List CollectionRecord
new_collection h None = []
new_collection h (Some kind) = record {
  id = h.collections;
  kind = kind;
  usages = (list_or_none (usages_of h.item_state)).usages;
} ∷ []

-- the open collections behind the item: an EndCollection closes the last
abbrev pub next_opened : StateRecord → ItemType → List CollectionRecord
next_opened h x =
    if is_end_collection x then take (length h.opened - 1) h.opened
    else h.opened ++ new_collection h (collection_kind_of x)

-- the last of a list, or else the first argument
abbrev pub last_item_state : ItemState → List ItemState → ItemState
last_item_state state [] = state
last_item_state state (g ∷ gs) = last_item_state g gs

-- what a Push keeps of what is in force
abbrev pub pushed_copy : PushKeeps → ItemState → ItemState
pushed_copy a_push_keeps.All now = now
pushed_copy a_push_keeps.Globals now = record now { locals = [] }

-- what a Pop brings back, from what is in force there and what its Push kept
abbrev pub after_pop : PushKeeps → ItemState → ItemState → ItemState
after_pop a_push_keeps.All now kept = kept
after_pop a_push_keeps.Globals now kept = record kept { locals = now.locals }

-- what is in force behind the item
abbrev pub item_state_behind : StateRecord → ItemType → ItemState
item_state_behind h x =
    if is_pop x then after_pop h.push_keeps h.item_state (last_item_state h.item_state h.stack)
    else next_item_state h.item_state x

-- what the open Pushes keep behind the item
abbrev pub next_stack : StateRecord → ItemType → List ItemState
next_stack h x =
    if is_pop x then take (length h.stack - 1) h.stack
    else (if is_push x then h.stack ++ pushed_copy h.push_keeps h.item_state ∷ [] else h.stack)

-- what is held behind an item without a fault
abbrev pub next_state : StateRecord → ItemType → StateRecord
next_state h x = record {
  push_keeps = h.push_keeps;
  item_state = item_state_behind h x;
  stack = next_stack h x;
  descriptor = record {
    input = next_reports Input h x;
    output = next_reports Output h x;
    feature = next_reports Feature h x;
  };
  outline = record {
    input = next_groups Input h x;
    output = next_groups Output h x;
    feature = next_groups Feature h x;
  };
  fields = h.fields + fields_made (data_of x) (extent h.item_state);
  opened = next_opened h x;
  collections = h.collections + length (new_collection h (collection_kind_of x));
}

-- what is held, unless the item has a fault
abbrev pub unless_fault : Option MeaningFault → StateRecord → Result StateRecord MeaningFault
unless_fault None h = Ok h
unless_fault (Some f) h = Err f

-- the fault of an item where this is held
abbrev pub fault_in : StateRecord → ItemType → Option MeaningFault
fault_in h x = item_fault (counts_in h x) h.item_state x

-- the same of an item that may be missing
abbrev pub fault_held : StateRecord → Option ItemType → Option MeaningFault
fault_held h None = None
fault_held h (Some x) = fault_in h x

-- one item further, or its fault
abbrev pub step : StateRecord → ItemType → Result StateRecord MeaningFault
step h x = unless_fault (fault_in h x) (next_state h x)

-- before the first item nothing is in force
abbrev pub no_item_state : UsagesBy → ItemState
no_item_state by = record {
  usage_page = None;
  logical_minimum = None;
  logical_maximum = None;
  physical_minimum = None;
  physical_maximum = None;
  unit_exponent = None;
  unit = None;
  report_size = None;
  report_id = None;
  report_count = None;
  locals = [];
  usages_by = by;
}

-- nor is anything kept, made or open
abbrev pub start_by : PushKeeps → UsagesBy → StateRecord
start_by push_keeps by = record {
  push_keeps = push_keeps;
  item_state = no_item_state by;
  stack = [];
  descriptor = record { input = []; output = []; feature = [] };
  outline = record { input = []; output = []; feature = [] };
  fields = 0;
  opened = [];
  collections = 0;
}

-- what is held before the first item, as it is asked for
abbrev pub first_state : ParseOptions → StateRecord
first_state options = start_by options.push_keeps options.usages

-- the rest of the walk, unless item k has a fault
abbrev pub go_on : {A : Type 0} → Result StateRecord MeaningFault → ℕ
    → (StateRecord → Result A (ℕ × MeaningFault)) → Result A (ℕ × MeaningFault)
go_on (Ok h) k rest = rest h
go_on (Err f) k rest = Err (k, f)

-- the walk over the items from index k on
abbrev pub walk : StateRecord → ℕ → List ItemType → Result DescriptorRecord (ℕ × MeaningFault)
walk h k [] = Ok h.descriptor
walk h k (x ∷ xs) = go_on (step h x) k (λ next. walk next (k + 1) xs)
