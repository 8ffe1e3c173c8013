-- Long items and reserved ones are no step of the walk: it is
-- the walk over the kept items. A reserved local item stands among the locals, so what is held is
-- compared without these.
use Rattle.std.proofs.Common.{◌≡◌, ◌≢◌, ℕ, ◌+◌, ◌-◌, Bool, true, false, cond, List, [], ◌∷◌, ◌++◌}
use Rattle.std.proofs.Common.{length, take, map, filter, Option, None, option_to_list, Result}
use Rattle.std.proofs.Common.{Err, refl, sym, ap, ◌∙◌, add-zero, append-nil, append_assoc, arith}
use Rattle.std.proofs.lemmas.Grind.{common_steps}
use Rattle.std.proofs.lemmas.List.{map-append, take-map, length-map}
use Rattle.std.proofs.lemmas.List.Elements.{filter-append}
use Rattle.hidreport_items.specs.Flags.{Flags}
use Rattle.hidreport_items.specs.Kept.{is_kept}
use Rattle.hidreport_items.specs.Spelling.{item_of}
use Rattle.hidreport_items.specs.declared.main_item.CollectionItem.{CollectionItem}
use Rattle.hidreport_items.specs.declared.main_item.MainItem.TheVariants as main
use Rattle.hidreport_items.specs.declared.global.GlobalItem.TheVariants as global
use Rattle.hidreport_items.specs.declared.local.LocalItem.{LocalItem}
use Rattle.hidreport_items.specs.declared.local.LocalItem.TheVariants as local
use Rattle.hidreport_items.specs.declared.item.ItemType.{ItemType}
use Rattle.hidreport_items.specs.declared.item.ItemType.TheVariants as item
use Rattle.hidreport_lists.specs.Entry.{Entry}
use Rattle.hidreport_lists.specs.Itemising.{Itemises}
use Rattle.hidreport_lists.specs.Rebuilt.{items_of, kept_entries, rebuilt_bytes, canonical_entries}
use Rattle.hidreport_lists.proofs.CutLemmas.{itemise-items}
use Rattle.std.proofs.Common.{flat_map, sum_by, Some, Ok}
use Rattle.hidreport_items.specs.Writing.{item_bytes}
use Rattle.hidreport_lists.proofs.BuiltLemmas.{spelled-kept}
use Rattle.hidreport_lists.proofs.RespellingLemmas.{are_kept, itemises-again, respelled-items}
use Rattle.hidreport_lists.specs.DescriptorBuilder.{AreSpelled}
use Rattle.std.specs.Prelude.{◌*◌, ◌||◌, nat_lt, nat_le}
use Rattle.hidreport.specs.Faults.{Counts, item_fault, data_fault, needed_usages_fault, usage_fault}
use Rattle.hidreport.specs.Faults.{limit_fault, last_end, id_count}
use Rattle.hidreport.specs.Places.{bits_of}
use Rattle.hidreport_fields.specs.ItemParts.{field_count}
use Rattle.hidreport.specs.Fields.{fields_made, fields_of, list_or_none, make_fields}
use Rattle.hidreport.specs.Fields.{attributes}
use Rattle.hidreport.specs.ItemState.{ItemState, first_of, local_items, paged_local, with_page}
use Rattle.hidreport.specs.Kinds.{Direction, Input, Output, Feature, data_of, is_main, is_pop}
use Rattle.hidreport.specs.Kinds.{is_push, is_end_collection, collection_kind_of}
use Rattle.hidreport.specs.Making.{extent}
use Rattle.hidreport.specs.Budget.{parse_items_within}
use Rattle.hidreport.specs.Laws.{parse_any}
use Rattle.hidreport.specs.Meaning.{InForce, at_offset, offset_at, parse_items, refusal_at}
use Rattle.hidreport.specs.MeaningFault.{MeaningFault}
use Rattle.hidreport_fields.specs.Lookup.{reports_of}
use Rattle.hidreport_fields.specs.Records.{CollectionRecord, DescriptorRecord}
use Rattle.hidreport.specs.Usages.{UsageList, usages_of, usages_under, usages_with, last_local}
use Rattle.hidreport.specs.Usages.{single_usages, standard_usages}
use Rattle.hidreport.specs.Usages.{before_usages, on_page, range_usages, as_single, minimum_of}
use Rattle.hidreport.specs.Usages.{maximum_of}
use Rattle.hidreport.specs.Parser.Machine.{StateRecord, adds, after_pop, pushed_copy, added_to}
use Rattle.hidreport.specs.Parser.Machine.{key_in}
use Rattle.hidreport.specs.Parser.Machine.{start_in, start_for, counts_in, fault_in}
use Rattle.hidreport.specs.Parser.Machine.{last_item_state}
use Rattle.hidreport.specs.Parser.Machine.{next_item_state, item_state_behind, next_stack}
use Rattle.hidreport.specs.Parser.Machine.{next_state}
use Rattle.hidreport.specs.Parser.Machine.{next_groups, next_reports}
use Rattle.hidreport.specs.Parser.Machine.{new_collection, first_state}
use Rattle.hidreport.specs.Groups.{GroupRecord, OutlineRecord, carried, groups_of, named_of}
use Rattle.hidreport.specs.Groups.{taken_of}
use Rattle.hidreport.specs.Parser.Machine.{unless_fault, go_on}
use Rattle.hidreport.specs.Parser.Budget.{is_past, left_behind, past_fault, stop_in, walk_within}
use Rattle.hidreport.specs.Parser.Budget.{weight_in, weight_made_in, weight_opened_in}
use Rattle.hidreport.specs.Weight.{field_weight}
use Rattle.hidreport.specs.declared.parser.push_keeps.PushKeeps.{PushKeeps}
use Rattle.hidreport.proofs.PushReadings.{back-on, push-on}
use Rattle.hidreport.specs.Options.{meaning_as, meaning_limited, parse_limited, reading_of}
use Rattle.hidreport.specs.declared.parse_options.ParseOptions.{ParseOptions}
use Rattle.hidreport.specs.declared.parser.paged_local.PagedLocal.{PagedLocal}
use Rattle.hidreport.specs.declared.parser.usages_by.UsagesBy.{UsagesBy}
use Rattle.hidreport.specs.declared.parser.usages_by.UsagesBy.TheVariants as usages_by
use Rattle.hidreport.proofs.BudgetWalkLemmas.{meaning-walk}
use Rattle.hidreport.proofs.HostUsageLemmas.{hosts-thin, is_kept_local, is_kept_paged, items-thin}
use Rattle.hidreport.proofs.ParseLemmas.{nothing-spent, nothing-within}
use Rattle.hidreport.specs.declared.parser.extent.Extent.{Extent}

-- the same in force, without reserved local items
abbrev pub thin_item_state : ItemState → ItemState
thin_item_state f = record f { locals = filter is_kept_paged f.locals }

abbrev pub thin : StateRecord → StateRecord
thin h = record h { item_state = thin_item_state h.item_state; stack = map thin_item_state h.stack }

-- the parts of a fault that usages are no part of
abbrev data_fault_of : Counts → Flags → Extent → Result UsageList MeaningFault → Option MeaningFault
data_fault_of n flags e u = first_of
    (cond flags.constant None (needed_usages_fault u))
    (limit_fault (nat_lt last_end (n.start + e.size * e.count)
    || nat_lt id_count (n.fields + field_count flags e.count)))

abbrev collections_fault : Counts → Option MeaningFault
collections_fault n = limit_fault (nat_le id_count n.collections)

abbrev bits_in : StateRecord → ℕ
bits_in h = bits_of (extent h.item_state)

-- reserved local items name no usages

none-second : (o : Option ℕ) → o ≡ first_of o None
none-second None = refl
none-second (Some n) = refl

named-thin : (of : LocalItem → Option ℕ) → ((n : ℕ) → of (local.Reserved n) ≡ None)
    → (xs : List LocalItem) → last_local of (filter is_kept_local xs) ≡ last_local of xs
named-thin of none [] = refl
named-thin of none (local.Reserved n ∷ xs) = named-thin of none xs ∙ none-second (last_local of xs)
    ∙ ap (first_of (last_local of xs)) (sym (none n))
named-thin of none (x ∷ xs) = ap (λ o. first_of o (of x)) (named-thin of none xs)

single-thin : (page : Option ℕ) (xs : List LocalItem)
    → single_usages page (filter is_kept_local xs) ≡ single_usages page xs
single-thin page [] = refl
single-thin page (local.Usage own id ∷ xs) =
    ap (before_usages (record { usage_page = own; usage_id = id })) (single-thin page xs)
single-thin page (local.UsageId id ∷ xs) = ap (on_page page id) (single-thin page xs)
single-thin page (x ∷ xs) = single-thin page xs

usages-with : (low page : Option ℕ) (xs : List LocalItem)
    → usages_with low page (filter is_kept_local xs) ≡ usages_with low page xs
usages-with (Some low) page xs = ap (λ m. range_usages low m page) (named-thin maximum_of (λ n. refl) xs)
usages-with None page xs = ap as_single (single-thin page xs)

standard-thin : (page : Option ℕ) (ls : List PagedLocal)
    → standard_usages page (local_items (filter is_kept_paged ls))
    ≡ standard_usages page (local_items ls)
standard-thin page ls =
    let xs = local_items ls in
    ap (standard_usages page) (items-thin ls)
    ∙ ap (λ o. usages_with o page (filter is_kept_local xs)) (named-thin minimum_of (λ n. refl) xs)
    ∙ usages-with (last_local minimum_of xs) page xs

usages-by : (by : UsagesBy) (f : ItemState)
    → usages_under by (thin_item_state f) ≡ usages_under by f
usages-by usages_by.Standard f = standard-thin f.usage_page f.locals
usages-by usages_by.Hosts f = ap Ok (hosts-thin f.usage_page f.locals)

usages-thin : (f : ItemState) → usages_of (thin_item_state f) ≡ usages_of f
usages-thin f = usages-by f.usages_by f

-- the same faults

data-thin : (n : Counts) (f : ItemState) (flags : Flags) (e : Option Extent)
    → data_fault n (thin_item_state f) flags e ≡ data_fault n f flags e
data-thin n f flags None = refl
data-thin n f flags (Some e) = ap (λ u. data_fault_of n flags e u) (usages-thin f)

item-thin : (n : Counts) (f : ItemState) (x : ItemType)
    → item_fault n (thin_item_state f) x ≡ item_fault n f x
item-thin n f (item.Main (main.Collection kind)) =
    ap (λ u. first_of (usage_fault u) (collections_fault n)) (usages-thin f)
item-thin n f (item.Main (main.Input flags)) = data-thin n f flags (extent f)
item-thin n f (item.Main (main.Output flags)) = data-thin n f flags (extent f)
item-thin n f (item.Main (main.Feature flags)) = data-thin n f flags (extent f)
item-thin n f x = refl

start-thin : (o : Option (Direction × Flags)) (h : StateRecord)
    → start_for o (thin h) ≡ start_for o h
start-thin None h = refl
start-thin (Some (Input, flags)) h = refl
start-thin (Some (Output, flags)) h = refl
start-thin (Some (Feature, flags)) h = refl

counts-thin : (h : StateRecord) (x : ItemType) → counts_in (thin h) x ≡ counts_in h x
counts-thin h x =
    ap (λ (n : ℕ). record {
      level = n;
      depth = length h.opened;
      collections = h.collections;
      fields = h.fields;
      start = start_for (data_of x) (thin h);
    }) (length-map h.stack thin_item_state)
    ∙ ap (λ (n : ℕ). record {
      level = length h.stack;
      depth = length h.opened;
      collections = h.collections;
      fields = h.fields;
      start = n;
    }) (start-thin (data_of x) h)

fault-thin : (h : StateRecord) (x : ItemType) → fault_in (thin h) x ≡ fault_in h x
fault-thin h x = ap (λ n. item_fault n (thin_item_state h.item_state) x) (counts-thin h x)
    ∙ item-thin (counts_in h x) h.item_state x

-- the same fields and collections

fields-thin : (f : ItemState) (cs : List CollectionRecord) (id first : ℕ)
    (o : Option (Direction × Flags)) (e : Option Extent)
    → fields_of (thin_item_state f) cs id first o e ≡ fields_of f cs id first o e
fields-thin f cs id first (Some x) (Some e) =
    ap (λ u. make_fields (record { report_id = f.report_id; number = id; first = first }) e x.1
    (list_or_none u) (attributes f cs x.0 x.1))
    (usages-thin f)
fields-thin f cs id first (Some x) None = refl
fields-thin f cs id first None e = refl

new-thin : (h : StateRecord) (o : Option CollectionItem)
    → new_collection (thin h) o ≡ new_collection h o
new-thin h None = refl
new-thin h (Some kind) = ap (λ (u : List _). record { id = h.collections; kind = kind; usages = u }
    ∷ []) (ap (λ u. (list_or_none u).usages) (usages-thin h.item_state))

reports-thin : (d : Direction) (h : StateRecord) (x : ItemType)
    → next_reports d (thin h) x ≡ next_reports d h x
reports-thin Input h x = ap (λ l. cond (adds Input h x)
    (added_to (key_in Input h) (bits_in h) l h.descriptor.input) h.descriptor.input)
    (fields-thin h.item_state h.opened h.fields (start_in Input h) (data_of x)
    (extent h.item_state))
reports-thin Output h x = ap (λ l. cond (adds Output h x)
    (added_to (key_in Output h) (bits_in h) l h.descriptor.output) h.descriptor.output)
    (fields-thin h.item_state h.opened h.fields (start_in Output h) (data_of x)
    (extent h.item_state))
reports-thin Feature h x = ap (λ l. cond (adds Feature h x)
    (added_to (key_in Feature h) (bits_in h) l h.descriptor.feature) h.descriptor.feature)
    (fields-thin h.item_state h.opened h.fields (start_in Feature h) (data_of x)
    (extent h.item_state))

made-thin : (f : ItemState) (cs : List CollectionRecord) (id first : ℕ)
    (o : Option (Direction × Flags)) (e : Option Extent)
    → groups_of (thin_item_state f) cs id first o e ≡ groups_of f cs id first o e
made-thin f cs id first (Some x) (Some e) =
    ap (λ u. record {
      beginning = record { report_id = f.report_id; number = id; first = first };
      extent = e;
      flags = x.1;
      named = named_of x.1 (list_or_none u);
      usages = taken_of x.1 e.count (list_or_none u);
      shared = attributes f (carried x.1 cs) x.0 x.1;
    } ∷ []) (usages-thin f)
made-thin f cs id first (Some x) None = refl
made-thin f cs id first None e = refl

groups-thin : (d : Direction) (h : StateRecord) (x : ItemType)
    → next_groups d (thin h) x ≡ next_groups d h x
groups-thin d h x = ap (λ (l : List GroupRecord). cond (adds d h x)
    (added_to (key_in d h) (bits_in h) l (reports_of d h.outline)) (reports_of d h.outline))
    (made-thin h.item_state h.opened h.fields (start_in d h) (data_of x) (extent h.item_state))

-- the reports behind an item are the same, field by field and in groups
descriptor-thin : (h : StateRecord) (x : ItemType)
    → (next_state (thin h) x).descriptor ≡ (next_state h x).descriptor
descriptor-thin h x =
    ap (λ i. record {
      input = i;
      output = next_reports Output (thin h) x;
      feature = next_reports Feature (thin h) x;
    }) (reports-thin Input h x)
    ∙ ap (λ o. record {
      input = next_reports Input h x;
      output = o;
      feature = next_reports Feature (thin h) x;
    }) (reports-thin Output h x)
    ∙ ap (λ f. record {
      input = next_reports Input h x;
      output = next_reports Output h x;
      feature = f;
    }) (reports-thin Feature h x)

outline-thin : (h : StateRecord) (x : ItemType)
    → (next_state (thin h) x).outline ≡ (next_state h x).outline
outline-thin h x =
    ap (λ i. record {
      input = i;
      output = next_groups Output (thin h) x;
      feature = next_groups Feature (thin h) x;
    }) (groups-thin Input h x)
    ∙ ap (λ o. record {
      input = next_groups Input h x;
      output = o;
      feature = next_groups Feature (thin h) x;
    }) (groups-thin Output h x)
    ∙ ap (λ f. record {
      input = next_groups Input h x;
      output = next_groups Output h x;
      feature = f;
    }) (groups-thin Feature h x)

-- the same step, for an item that is kept

list-thin : (page : Option ℕ) (xs : List PagedLocal) (x : ItemType) → is_kept x ≡ true
    → filter is_kept_paged (xs ++ option_to_list (paged_local page x))
    ≡ filter is_kept_paged xs ++ option_to_list (paged_local page x)
list-thin page xs (item.Local (local.Reserved n)) e = cc
list-thin page xs (item.Local y) e = filter-append is_kept_paged xs (with_page page y ∷ [])
list-thin page xs x e = filter-append is_kept_paged xs []

locals-by : (b : Bool) (page : Option ℕ) (xs : List PagedLocal) (x : ItemType)
    → is_kept x ≡ true
    → cond b [] (filter is_kept_paged xs ++ option_to_list (paged_local page x))
    ≡ filter is_kept_paged (cond b [] (xs ++ option_to_list (paged_local page x)))
locals-by true page xs x e = refl
locals-by false page xs x e = sym (list-thin page xs x e)

item_state-thin : (f : ItemState) (x : ItemType) → is_kept x ≡ true
    → next_item_state (thin_item_state f) x ≡ thin_item_state (next_item_state f x)
item_state-thin f x e = ap (λ (l : List PagedLocal). record (next_item_state f x) { locals = l })
    (locals-by (is_main x) f.usage_page f.locals x e)

last-thin : (f : ItemState) (ts : List ItemState)
    → last_item_state (thin_item_state f) (map thin_item_state ts)
    ≡ thin_item_state (last_item_state f ts)
last-thin f [] = refl
last-thin f (t ∷ ts) = last-thin t ts

-- what a Pop brings back without reserved local items is what it brings back, without them
back-thin : (push_keeps : PushKeeps) (f g : ItemState)
    → after_pop push_keeps (thin_item_state f) (thin_item_state g)
    ≡ thin_item_state (after_pop push_keeps f g)
back-thin push_keeps f g = back-on push_keeps (filter is_kept_paged) f g

-- so is what a Push keeps
push-thin : (push_keeps : PushKeeps) (f : ItemState)
    → pushed_copy push_keeps (thin_item_state f) ≡ thin_item_state (pushed_copy push_keeps f)
push-thin push_keeps f = push-on push_keeps (filter is_kept_paged) f refl

held-by : (b : Bool) (h : StateRecord) (x : ItemType) → is_kept x ≡ true
    → cond b (after_pop h.push_keeps (thin_item_state h.item_state)
    (last_item_state (thin_item_state h.item_state) (map thin_item_state h.stack)))
    (next_item_state (thin_item_state h.item_state) x)
    ≡ thin_item_state
    (cond b (after_pop h.push_keeps h.item_state (last_item_state h.item_state h.stack))
    (next_item_state h.item_state x))
held-by true h x e = ap (after_pop h.push_keeps (thin_item_state h.item_state))
    (last-thin h.item_state h.stack)
    ∙ back-thin h.push_keeps h.item_state (last_item_state h.item_state h.stack)
held-by false h x e = item_state-thin h.item_state x e

abbrev shorter : List ItemState → List ItemState
shorter ts = take (length ts - 1) ts

shorter-thin : (ts : List ItemState) → shorter (map thin_item_state ts)
    ≡ map thin_item_state (shorter ts)
shorter-thin ts = ap (λ n. take (n - 1) (map thin_item_state ts)) (length-map ts thin_item_state)
    ∙ take-map thin_item_state (length ts - 1) ts

kept-by : (a b : Bool) (push_keeps : PushKeeps) (f : ItemState) (ts : List ItemState)
    → cond a (shorter (map thin_item_state ts))
    (cond b (map thin_item_state ts ++ pushed_copy push_keeps (thin_item_state f) ∷ [])
    (map thin_item_state ts))
    ≡ map thin_item_state (cond a (shorter ts) (cond b (ts ++ pushed_copy push_keeps f ∷ []) ts))
kept-by true b push_keeps f ts = shorter-thin ts
kept-by false true push_keeps f ts =
    ap (λ (g : ItemState). map thin_item_state ts ++ g ∷ []) (push-thin push_keeps f)
    ∙ sym (map-append thin_item_state ts (pushed_copy push_keeps f ∷ []))
kept-by false false push_keeps f ts = refl

next-thin : (h : StateRecord) (x : ItemType) → is_kept x ≡ true
    → next_state (thin h) x ≡ thin (next_state h x)
next-thin h x e =
    let made : ItemState → List ItemState → DescriptorRecord → OutlineRecord
    → List CollectionRecord → ℕ → StateRecord =
    λ f ts r o cs n. record {
      push_keeps = h.push_keeps;
      item_state = f;
      stack = ts;
      descriptor = r;
      outline = o;
      fields = h.fields + fields_made (data_of x) (extent h.item_state);
      opened = cs;
      collections = n;
    } in
    let t = thin h in
    let next = next_state t x in
    let state = thin_item_state (item_state_behind h x) in
    let stack = map thin_item_state (next_stack h x) in
    ap (λ f. made f (next_stack t x) next.descriptor next.outline next.opened next.collections)
    (held-by (is_pop x) h x e)
    ∙ ap (λ ts. made state ts next.descriptor next.outline next.opened next.collections)
    (kept-by (is_pop x) (is_push x) h.push_keeps h.item_state h.stack)
    ∙ ap (λ r. made state stack r next.outline next.opened next.collections) (descriptor-thin h x)
    ∙ ap (λ o. made state stack (next_state h x).descriptor o next.opened next.collections)
    (outline-thin h x)
    ∙ ap (λ c. made state stack (next_state h x).descriptor (next_state h x).outline
    (cond (is_end_collection x) (take (length h.opened - 1) h.opened) (h.opened ++ c))
    (h.collections + length c)) (new-thin h (collection_kind_of x))

-- an item that isn't kept has no fault and changes nothing but reserved locals

not-kept-fault : (h : StateRecord) (x : ItemType) → is_kept x ≡ false → fault_in h x ≡ None
not-kept-fault h (item.Main y) e = cc
not-kept-fault h (item.Global global.Reserved) e = refl
not-kept-fault h (item.Global g) e = cc
not-kept-fault h (item.Local (local.Reserved n)) e = refl
not-kept-fault h (item.Local y) e = cc
not-kept-fault h item.Long e = refl
not-kept-fault h item.Reserved e = refl

-- what is held with other locals, where nothing else changes
idle-thin : (h : StateRecord) (locals : List PagedLocal)
    → filter is_kept_paged locals ≡ filter is_kept_paged h.item_state.locals
    → thin (record {
      push_keeps = h.push_keeps;
      item_state = record h.item_state { locals = locals };
      stack = h.stack;
      descriptor = h.descriptor;
      outline = h.outline;
      fields = h.fields + 0;
      opened = h.opened ++ [];
      collections = h.collections + 0;
    }) ≡ thin h
idle-thin h locals e =
    let made : List PagedLocal → ℕ → List CollectionRecord → ℕ → StateRecord =
    λ l n cs m. record {
      push_keeps = h.push_keeps;
      item_state = record h.item_state { locals = l };
      stack = map thin_item_state h.stack;
      descriptor = h.descriptor;
      outline = h.outline;
      fields = n;
      opened = cs;
      collections = m;
    }
    in
    ap (λ l. made l (h.fields + 0) (h.opened ++ []) (h.collections + 0)) e
    ∙ ap (λ n. made (filter is_kept_paged h.item_state.locals) n (h.opened ++ [])
    (h.collections + 0))
    (add-zero h.fields)
    ∙ ap (λ cs. made (filter is_kept_paged h.item_state.locals) h.fields cs (h.collections + 0))
    (append-nil h.opened)
    ∙ ap (λ m. made (filter is_kept_paged h.item_state.locals) h.fields h.opened m)
    (add-zero h.collections)

not-kept-thin : (h : StateRecord) (x : ItemType) → is_kept x ≡ false
    → thin (next_state h x) ≡ thin h
not-kept-thin h (item.Main y) e = cc
not-kept-thin h (item.Global global.Reserved) e =
    idle-thin h (h.item_state.locals ++ [])
    (ap (filter is_kept_paged) (append-nil h.item_state.locals))
not-kept-thin h (item.Global g) e = cc
not-kept-thin h (item.Local (local.Reserved n)) e =
    let more : List PagedLocal = with_page h.item_state.usage_page (local.Reserved n) ∷ [] in
    idle-thin h (h.item_state.locals ++ more)
    (filter-append is_kept_paged h.item_state.locals more
    ∙ append-nil (filter is_kept_paged h.item_state.locals))
not-kept-thin h (item.Local y) e = cc
not-kept-thin h item.Long e = idle-thin h (h.item_state.locals ++ [])
    (ap (filter is_kept_paged) (append-nil h.item_state.locals))
not-kept-thin h item.Reserved e =
    idle-thin h (h.item_state.locals ++ [])
    (ap (filter is_kept_paged) (append-nil h.item_state.locals))

-- the same weights

made-weight : (o : Option (Direction × Flags)) (h : StateRecord)
    → weight_made_in (thin h) o ≡ weight_made_in h o
made-weight None h = refl
made-weight (Some (Input, flags)) h = ap (sum_by field_weight)
    (fields-thin h.item_state h.opened h.fields (start_in Input h) (Some (Input, flags))
    (extent h.item_state))
made-weight (Some (Output, flags)) h = ap (sum_by field_weight)
    (fields-thin h.item_state h.opened h.fields (start_in Output h) (Some (Output, flags))
    (extent h.item_state))
made-weight (Some (Feature, flags)) h = ap (sum_by field_weight)
    (fields-thin h.item_state h.opened h.fields (start_in Feature h) (Some (Feature, flags))
    (extent h.item_state))

opened-weight : (o : Option CollectionItem) (h : StateRecord)
    → weight_opened_in (thin h) o ≡ weight_opened_in h o
opened-weight None h = refl
opened-weight (Some kind) h =
    ap (λ u. 1 + length (list_or_none u).usages) (usages-thin h.item_state)

weight-thin : (h : StateRecord) (x : ItemType) → weight_in (thin h) x ≡ weight_in h x
weight-thin h x =
    ap (λ n. n + weight_made_in (thin h) (data_of x)) (opened-weight (collection_kind_of x) h)
    ∙ ap (λ n. weight_opened_in h (collection_kind_of x) + n) (made-weight (data_of x) h)

stop-thin : (left : Option ℕ) (h : StateRecord) (x : ItemType)
    → stop_in left (thin h) x ≡ stop_in left h x
stop-thin left h x =
    ap (λ o. first_of o (past_fault (is_past left (weight_in (thin h) x)))) (fault-thin h x)
    ∙ ap (λ n. first_of (fault_in h x) (past_fault (is_past left n))) (weight-thin h x)

-- an item that isn't kept weighs nothing
not-kept-weight : (h : StateRecord) (x : ItemType) → is_kept x ≡ false → weight_in h x ≡ 0
not-kept-weight h (item.Main y) e = cc
not-kept-weight h (item.Global g) e = refl
not-kept-weight h (item.Local y) e = refl
not-kept-weight h item.Long e = refl
not-kept-weight h item.Reserved e = refl

not-kept-stop : (left : Option ℕ) (h : StateRecord) (x : ItemType) → is_kept x ≡ false
    → stop_in left h x ≡ None
not-kept-stop left h x e =
    ap (λ o. first_of o (past_fault (is_past left (weight_in h x)))) (not-kept-fault h x e)
    ∙ ap (λ n. past_fault (is_past left n)) (not-kept-weight h x e)
    ∙ ap past_fault (nothing-within left)

-- the walk over all items and that over the kept ones, faults at their own offsets

pub offset-behind : (front rest : List Entry) (e : Entry)
    → offset_at (front ++ e ∷ rest) (length front) ≡ e.offset
offset-behind [] rest e = refl
offset-behind (f ∷ front) rest e = offset-behind front rest e

abbrev Walks : Option ℕ → List Entry → List Entry → List Entry → StateRecord → Type 0
Walks left front some rest h =
    at_offset (front ++ rest) (walk_within left h (length front) (items_of rest)) ≡ at_offset
    (some ++ kept_entries rest)
    (walk_within left (thin h) (length some) (items_of (kept_entries rest)))

-- the faults of an item at two places
fault-by : (o : Option MeaningFault) (left : Option ℕ) (front some es fs : List Entry) (e : Entry)
    (h g : StateRecord) (m n : Option ℕ)
    → stop_in left h e.item ≡ o → stop_in left g e.item ≡ o
    → left_behind left (weight_in h e.item) ≡ m → left_behind left (weight_in g e.item) ≡ n
    → (o ≡ None → at_offset (front ++ e ∷ es)
    (walk_within m (next_state h e.item) (length front + 1) (items_of es))
    ≡ at_offset (some ++ e ∷ fs)
    (walk_within n (next_state g e.item) (length some + 1) (items_of fs)))
    → at_offset (front ++ e ∷ es) (walk_within left h (length front) (items_of (e ∷ es)))
    ≡ at_offset (some ++ e ∷ fs) (walk_within left g (length some) (items_of (e ∷ fs)))
fault-by None left front some es fs e h g m n p q a b later =
    ap (λ o. at_offset (front ++ e ∷ es)
    (go_on (unless_fault o (next_state h e.item)) (length front)
    (λ next. walk_within (left_behind left (weight_in h e.item)) next (length front + 1)
    (items_of es)))) p
    ∙ ap (λ l. at_offset (front ++ e ∷ es)
    (walk_within l (next_state h e.item) (length front + 1) (items_of es))) a
    ∙ later refl
    ∙ sym (ap (λ o. at_offset (some ++ e ∷ fs)
    (go_on (unless_fault o (next_state g e.item)) (length some)
    (λ next. walk_within (left_behind left (weight_in g e.item)) next (length some + 1)
    (items_of fs)))) q
    ∙ ap (λ l. at_offset (some ++ e ∷ fs)
    (walk_within l (next_state g e.item) (length some + 1) (items_of fs))) b)
fault-by (Some fault) left front some es fs e h g m n p q a b later =
    ap (λ o. at_offset (front ++ e ∷ es)
    (go_on (unless_fault o (next_state h e.item)) (length front)
    (λ next. walk_within (left_behind left (weight_in h e.item)) next (length front + 1)
    (items_of es)))) p
    ∙ ap (λ n. Err (refusal_at n fault)) (offset-behind front es e ∙ sym (offset-behind some fs e))
    ∙ sym (ap (λ o. at_offset (some ++ e ∷ fs)
    (go_on (unless_fault o (next_state g e.item)) (length some)
    (λ next. walk_within (left_behind left (weight_in g e.item)) next (length some + 1)
    (items_of fs)))) q)

-- one entry further on a side
further : (left : Option ℕ) (front es : List Entry) (e : Entry) (h : StateRecord)
    → at_offset (front ++ e ∷ es) (walk_within left h (length front + 1) (items_of es)) ≡ at_offset
    ((front ++ e ∷ []) ++ es) (walk_within left h (length (front ++ e ∷ [])) (items_of es))
further left front es e h =
    let size : length front + 1 ≡ length (front ++ e ∷ []) = grind (arith, common_steps) in
    ap (λ l. at_offset l (walk_within left h (length front + 1) (items_of es)))
    (sym (append_assoc front (e ∷ []) es))
    ∙ ap (λ n. at_offset ((front ++ e ∷ []) ++ es) (walk_within left h n (items_of es))) size

walk-by : (b : Bool) (left : Option ℕ) (front some es : List Entry) (e : Entry) (h : StateRecord)
    → is_kept e.item ≡ b
    → ((left : Option ℕ) (front some : List Entry) (h : StateRecord)
    → Walks left front some es h)
    → at_offset (front ++ e ∷ es) (walk_within left h (length front) (items_of (e ∷ es)))
    ≡ at_offset (some ++ cond b (e ∷ kept_entries es) (kept_entries es))
    (walk_within left (thin h) (length some)
    (items_of (cond b (e ∷ kept_entries es) (kept_entries es))))
walk-by true left front some es e h is later =
    let more = left_behind left (weight_in h e.item) in
    fault-by (stop_in left h e.item) left front some es (kept_entries es) e h (thin h) more more
    refl (stop-thin left h e.item) refl (ap (left_behind left) (weight-thin h e.item))
    (λ faultless. further more front es e (next_state h e.item)
    ∙ later more (front ++ e ∷ []) (some ++ e ∷ []) (next_state h e.item)
    ∙ ap (λ n. at_offset ((some ++ e ∷ []) ++ kept_entries es)
    (walk_within more n (length (some ++ e ∷ [])) (items_of (kept_entries es))))
    (sym (next-thin h e.item is))
    ∙ sym (further more some (kept_entries es) e (next_state (thin h) e.item)))
walk-by false left front some es e h is later =
    ap (λ o. at_offset (front ++ e ∷ es)
    (go_on (unless_fault o (next_state h e.item)) (length front)
    (λ n. walk_within (left_behind left (weight_in h e.item)) n (length front + 1)
    (items_of es)))) (not-kept-stop left h e.item is)
    ∙ ap (λ w. at_offset (front ++ e ∷ es) (walk_within (left_behind left w)
    (next_state h e.item) (length front + 1) (items_of es))) (not-kept-weight h e.item is)
    ∙ ap (λ l. at_offset (front ++ e ∷ es) (walk_within l (next_state h e.item)
    (length front + 1) (items_of es))) (nothing-spent left)
    ∙ further left front es e (next_state h e.item)
    ∙ later left (front ++ e ∷ []) some (next_state h e.item)
    ∙ ap (λ n. at_offset (some ++ kept_entries es)
    (walk_within left n (length some) (items_of (kept_entries es))))
    (not-kept-thin h e.item is)

walk-from : (left : Option ℕ) (front some rest : List Entry) (h : StateRecord)
    → Walks left front some rest h
walk-from left front some [] h = refl
walk-from left front some (e ∷ es) h =
    walk-by (is_kept e.item) left front some es e h refl (λ l f s n. walk-from l f s es n)

-- the walk over the kept items gives the same, faults at the offsets of their items
meaning-kept : (options : ParseOptions) (entries : List Entry)
    → at_offset entries (meaning_as options (items_of entries))
    ≡ at_offset (kept_entries entries) (meaning_as options (items_of (kept_entries entries)))
meaning-kept options entries =
    ap (at_offset entries) (meaning-walk options (items_of entries))
    ∙ walk-from options.limit [] [] entries (first_state options)
    ∙ sym (ap (at_offset (kept_entries entries))
    (meaning-walk options (items_of (kept_entries entries))))

-- the bytes that some entries itemise are read as these
parse-by : (reading : InForce) (limit : Option ℕ) (bytes : List ℕ) (entries : List Entry)
    → Itemises item_of bytes entries
    → parse_limited reading limit bytes
    ≡ at_offset entries (meaning_limited reading limit (items_of entries))
parse-by reading None [] entries i = absurd (i.some refl)
parse-by reading (Some limit) [] entries i = absurd (i.some refl)
parse-by reading None (b ∷ bs) entries i =
    ap (parse_items reading) (itemise-items item_of (b ∷ bs) entries i)
parse-by reading (Some limit) (b ∷ bs) entries i =
    ap (parse_items_within reading limit) (itemise-items item_of (b ∷ bs) entries i)

parse-items : (options : ParseOptions) (bytes : List ℕ) (entries : List Entry)
    → Itemises item_of bytes entries
    → parse_any options bytes ≡ at_offset entries (meaning_as options (items_of entries))
parse-items options bytes entries i =
    parse-by (reading_of options) options.limit bytes entries i

-- the bytes of a descriptor are read as their kept items
pub parse-kept : (options : ParseOptions) (bytes : List ℕ) (entries : List Entry)
    → Itemises item_of bytes entries
    → parse_any options bytes ≡ at_offset (kept_entries entries)
    (meaning_as options (items_of (kept_entries entries)))
parse-kept options bytes entries i =
    parse-items options bytes entries i ∙ meaning-kept options entries

-- and so are the bytes that are written for these
pub parse-rebuilt : (options : ParseOptions) (bytes : List ℕ) (entries : List Entry)
    → Itemises item_of bytes entries → rebuilt_bytes entries ≢ []
    → parse_any options (rebuilt_bytes entries)
    ≡ at_offset (canonical_entries 0 (items_of (kept_entries entries)))
    (meaning_as options (items_of (kept_entries entries)))
parse-rebuilt options bytes entries i some =
    let xs = items_of (kept_entries entries) in
    parse-items options (rebuilt_bytes entries) (canonical_entries 0 xs)
    (itemises-again xs (are_kept entries i.each) some)
    ∙ ap (λ l. at_offset (canonical_entries 0 xs) (meaning_as options l)) (respelled-items xs 0)

-- and so are the bytes that a builder writes
pub parse-built : (options : ParseOptions) (items : List ItemType) → AreSpelled items
    → flat_map item_bytes items ≢ []
    → parse_any options (flat_map item_bytes items)
    ≡ at_offset (canonical_entries 0 items) (meaning_as options items)
parse-built options items spelled some =
    parse-items options (flat_map item_bytes items) (canonical_entries 0 items)
    (itemises-again items (spelled-kept items spelled) some)
    ∙ ap (λ l. at_offset (canonical_entries 0 items) (meaning_as options l))
    (respelled-items items 0)
