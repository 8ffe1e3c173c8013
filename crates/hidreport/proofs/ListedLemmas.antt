-- Groups listed field by field: in a report, a direction, a state and a descriptor.
use Rattle.std.proofs.Common.{◌≡◌, ◌∙◌, ◌+◌, ◌≤◌, ℕ, zero, suc, Bool, true, false, cond, List, [], ◌∷◌, ◌++◌, map}
use Rattle.std.proofs.Common.{Option, None, Some, ap, append-nil, arith, length, refl, sym, take}
use Rattle.std.specs.Prelude.{flat_map, option_map}
use Rattle.std.proofs.lemmas.Grind.{flat_map-append}
use Rattle.hidreport_items.specs.Flags.{Flags}
use Rattle.hidreport_items.specs.declared.item.ItemType.{ItemType}
use Rattle.hidreport.specs.Fields.{Beginning, attributes, collections_at, fields_at}
use Rattle.hidreport.specs.Fields.{beginning_at, each_from, fields_before, fields_of, list_or_none}
use Rattle.hidreport.specs.Fields.{make_fields, make_place, usage_at}
use Rattle.hidreport.specs.Groups.{GroupRecord, GroupedReport, OutlineRecord, carried}
use Rattle.hidreport.specs.Groups.{fields_of_groups, group_fields, group_made, grouped}
use Rattle.hidreport.specs.Groups.{grouped_report, grouped_reports, groups_at, groups_of, listed}
use Rattle.hidreport.specs.Groups.{listed_report, taken_of}
use Rattle.hidreport.specs.ItemState.{ItemState, first_of}
use Rattle.hidreport.specs.Kinds.{Direction, Indexed, Input, Output, Feature, data_of}
use Rattle.hidreport.specs.Making.{extent, makers_of}
use Rattle.hidreport.specs.Meaning.{descriptor, keys, report, reports}
use Rattle.hidreport.specs.Parser.Machine.{StateRecord, added_to, adds, first_id, key_in}
use Rattle.hidreport.specs.Parser.Machine.{next_groups, next_reports, next_state, size_in, start_in}
use Rattle.hidreport.specs.Places.{bits_of, start}
use Rattle.hidreport.specs.Usages.{UsageList, usages_of}
use Rattle.hidreport.specs.declared.parser.extent.Extent.{Extent}
use Rattle.hidreport.proofs.HostUsageLemmas.{at-first}
use Rattle.hidreport_fields.specs.Lookup.{find_by, find_report, report_with, reports_of}
use Rattle.hidreport_fields.specs.Records.{Attributes, CollectionRecord, FieldRecord, ReportRecord}
use Rattle.hidreport_fields.specs.Records.{VariableRecord}
use Rattle.hidreport_fields.specs.declared.field.usage.Usage.{Usage}
use Rattle.hidreport_fields.specs.ReportIds.{same_key}

-- the heads of reports stay

pub first-listed : (rs : List GroupedReport) → first_id (map listed_report rs) ≡ first_id rs
first-listed [] = refl
first-listed (r ∷ rs) = refl

pub size-listed : (key : Option ℕ) (rs : List GroupedReport)
    → size_in key (map listed_report rs) ≡ size_in key rs
size-listed key [] = refl
size-listed key (r ∷ rs) =
    ap (λ n. cond (same_key r.id key) r.size n) (size-listed key rs)

pub direction-listed : (d : Direction) (o : OutlineRecord)
    → reports_of d (listed o) ≡ map listed_report (reports_of d o)
direction-listed Input o = refl
direction-listed Output o = refl
direction-listed Feature o = refl

pub key-listed : (d : Direction) (o : OutlineRecord) (id : Option ℕ)
    → first_of id (first_id (reports_of d (listed o))) ≡ first_of id (first_id (reports_of d o))
key-listed d o id =
    ap (first_of id) (ap first_id (direction-listed d o) ∙ first-listed (reports_of d o))

pub start-listed : (d : Direction) (o : OutlineRecord) (key : Option ℕ)
    → size_in key (reports_of d (listed o)) ≡ size_in key (reports_of d o)
start-listed d o key = ap (size_in key) (direction-listed d o) ∙ size-listed key (reports_of d o)

-- more groups are more fields

added-by : (b : Bool) (key : Option ℕ) (bits : ℕ) (gs : List GroupRecord) (r : GroupedReport)
    (rs : List GroupedReport)
    → map listed_report (added_to key bits gs rs)
    ≡ added_to key bits (fields_of_groups gs) (map listed_report rs)
    → map listed_report (cond b (record {
      id = r.id;
      size = r.size + bits;
      fields = r.fields ++ gs;
    } ∷ rs) (r ∷ added_to key bits gs rs))
    ≡ cond b (record {
      id = r.id;
      size = r.size + bits;
      fields = fields_of_groups r.fields ++ fields_of_groups gs;
    } ∷ map listed_report rs)
    (listed_report r ∷ added_to key bits (fields_of_groups gs) (map listed_report rs))
added-by true key bits gs r rs rest =
    ap (λ (l : List FieldRecord). record { id = r.id; size = r.size + bits; fields = l }
    ∷ map listed_report rs) (flat_map-append group_fields r.fields gs)
added-by false key bits gs r rs rest = ap (λ l. listed_report r ∷ l) rest

pub added-listed : (key : Option ℕ) (bits : ℕ) (gs : List GroupRecord) (rs : List GroupedReport)
    → map listed_report (added_to key bits gs rs)
    ≡ added_to key bits (fields_of_groups gs) (map listed_report rs)
added-listed key bits gs [] = refl
added-listed key bits gs (r ∷ rs) =
    added-by (same_key r.id key) key bits gs r rs (added-listed key bits gs rs)

-- the group of an item has the item's fields: padding has neither usages nor collections

each-taken : {A : Type 0} (f : Usage → ℕ → A) (us : List Usage) (n c more : ℕ) → c + more ≤ n
    → each_from (λ k. f (usage_at (take n us) k) k) c more
    ≡ each_from (λ k. f (usage_at us k) k) c more
each-taken f us n c zero le = refl
each-taken f us n c (suc more) le =
    ap (λ (u : Usage). f u c ∷ each_from (λ k. f (usage_at (take n us) k) k) (c + 1) more)
    (at-first n c us (omega (arith, le)))
    ∙ ap (λ l. f (usage_at us c) c ∷ l) (each-taken f us n (c + 1) more (omega (arith, le)))

pub fields-taken : (constant variable : Bool) (at : Beginning) (e : Extent) (flags : Flags)
    (us : UsageList) (shared : Attributes) → flags.constant ≡ constant
    → flags.variable ≡ variable
    → make_fields at e flags (taken_of flags e.count us) shared ≡ make_fields at e flags us shared
fields-taken true variable at e flags us shared filled multiple = rw filled refl
fields-taken false false at e flags us shared filled multiple = rw (filled, multiple) refl
fields-taken false true at e flags us shared filled multiple =
    rw (filled, multiple) (each-taken (λ (u : Usage) c. VariableRecord
    (make_place (beginning_at at e c) e.size) u shared) us.usages e.count 0 e.count (omega arith))

made-by : (b : Bool) (state : ItemState) (cs : List CollectionRecord) (d : Direction)
    (flags : Flags) (at : Beginning) (e : Extent) → flags.constant ≡ b
    → make_fields at e flags (list_or_none (usages_of state))
    (attributes state (carried flags cs) d flags)
    ≡ make_fields at e flags (list_or_none (usages_of state)) (attributes state cs d flags)
made-by true state cs d flags at e constant = rw constant refl
made-by false state cs d flags at e constant = rw constant refl

pub groups-listed : (state : ItemState) (cs : List CollectionRecord) (number first : ℕ)
    (o : Option (Direction × Flags)) (e : Option Extent)
    → fields_of_groups (groups_of state cs number first o e)
    ≡ fields_of state cs number first o e
groups-listed state cs number first None e = refl
groups-listed state cs number first (Some x) None = refl
groups-listed state cs number first (Some x) (Some e) =
    let at : Beginning = record { report_id = state.report_id; number = number; first = first } in
    append-nil (group_fields (group_made state cs number first x.0 x.1 e))
    ∙ fields-taken x.1.constant x.1.variable at e x.1 (list_or_none (usages_of state))
    (attributes state (carried x.1 cs) x.0 x.1) refl refl
    ∙ made-by x.1.constant state cs x.0 x.1 at e refl

-- what is held

next-by : (b : Bool) (d : Direction) (h : StateRecord) (x : ItemType)
    → h.descriptor ≡ listed h.outline
    → cond b (added_to (key_in d h) (bits_of (extent h.item_state))
    (fields_of h.item_state h.opened h.fields (start_in d h) (data_of x) (extent h.item_state))
    (reports_of d h.descriptor)) (reports_of d h.descriptor)
    ≡ map listed_report (cond b (added_to (key_in d h) (bits_of (extent h.item_state))
    (groups_of h.item_state h.opened h.fields (start_in d h) (data_of x) (extent h.item_state))
    (reports_of d h.outline)) (reports_of d h.outline))
next-by true d h x same =
    let gs = groups_of h.item_state h.opened h.fields (start_in d h) (data_of x)
    (extent h.item_state) in
    ap (λ fs. added_to (key_in d h) (bits_of (extent h.item_state)) fs (reports_of d h.descriptor))
    (sym (groups-listed h.item_state h.opened h.fields (start_in d h) (data_of x)
    (extent h.item_state)))
    ∙ ap (λ rs. added_to (key_in d h) (bits_of (extent h.item_state)) (fields_of_groups gs) rs)
    (ap (reports_of d) same ∙ direction-listed d h.outline)
    ∙ sym (added-listed (key_in d h) (bits_of (extent h.item_state)) gs (reports_of d h.outline))
next-by false d h x same = ap (reports_of d) same ∙ direction-listed d h.outline

next-listed : (d : Direction) (h : StateRecord) (x : ItemType) → h.descriptor ≡ listed h.outline
    → next_reports d h x ≡ map listed_report (next_groups d h x)
next-listed d h x same = next-by (adds d h x) d h x same

pub state-listed : (h : StateRecord) (x : ItemType) → h.descriptor ≡ listed h.outline
    → (next_state h x).descriptor ≡ listed (next_state h x).outline
state-listed h x same =
    ap (λ rs. record {
      input = rs;
      output = next_reports Output h x;
      feature = next_reports Feature h x;
    }) (next-listed Input h x same)
    ∙ ap (λ rs. record {
      input = map listed_report (next_groups Input h x);
      output = rs;
      feature = next_reports Feature h x;
    }) (next-listed Output h x same)
    ∙ ap (λ rs. record {
      input = map listed_report (next_groups Input h x);
      output = map listed_report (next_groups Output h x);
      feature = rs;
    }) (next-listed Feature h x same)

-- the report that is found

find-by : (b : Bool) (r : GroupedReport) (found : Option ReportRecord)
    (other : Option GroupedReport) → found ≡ option_map listed_report other
    → cond b (Some (listed_report r)) found
    ≡ option_map listed_report (cond b (Some r) other)
find-by true r found other same = refl
find-by false r found other same = same

pub with-listed : (id : Option ℕ) (rs : List GroupedReport)
    → report_with id (map listed_report rs) ≡ option_map listed_report (report_with id rs)
with-listed id [] = refl
with-listed id (r ∷ rs) =
    find-by (same_key r.id id) r (report_with id (map listed_report rs)) (report_with id rs)
    (with-listed id rs)

found-by : (id : Option ℕ) (r : GroupedReport) (rs : List GroupedReport) (b : ℕ)
    → find_by id (map listed_report (r ∷ rs)) (listed_report r) b
    ≡ option_map listed_report (find_by id (r ∷ rs) r b)
found-by None r rs b = refl
found-by (Some id) r rs b = with-listed (Some b) (r ∷ rs)

pub found-listed : (rs : List GroupedReport) (bytes : List ℕ)
    → find_report (map listed_report rs) bytes
    ≡ option_map listed_report (find_report rs bytes)
found-listed rs [] = refl
found-listed [] (b ∷ bytes) = refl
found-listed (r ∷ rs) (b ∷ bytes) = found-by r.id r rs b

pub direction-found : (d : Direction) (o : OutlineRecord) (bytes : List ℕ)
    → find_report (reports_of d (listed o)) bytes
    ≡ option_map listed_report (find_report (reports_of d o) bytes)
direction-found d o bytes = ap (λ rs. find_report rs bytes) (direction-listed d o)
    ∙ found-listed (reports_of d o) bytes

-- the whole of a descriptor

items-listed : (state_at : ℕ → ItemState) (d : Direction) (items : List ItemType)
    (ms : List Indexed) → fields_of_groups (flat_map (groups_at state_at d items) ms)
    ≡ flat_map (fields_at state_at d items) ms
items-listed state_at d items [] = refl
items-listed state_at d items (m ∷ ms) =
    flat_map-append group_fields (groups_at state_at d items m)
    (flat_map (groups_at state_at d items) ms)
    ∙ ap (λ l. l ++ fields_of_groups (flat_map (groups_at state_at d items) ms))
    (groups-listed (state_at m.0) (collections_at state_at items m.0)
    (fields_before state_at items m.0) (start state_at d items m.0) (data_of m.1)
    (extent (state_at m.0)))
    ∙ ap (λ l. fields_at state_at d items m ++ l) (items-listed state_at d items ms)

keys-listed : (state_at : ℕ → ItemState) (d : Direction) (items : List ItemType)
    (ks : List (Option ℕ)) → map listed_report (map (grouped_report state_at d items) ks)
    ≡ map (report state_at d items) ks
keys-listed state_at d items [] = refl
keys-listed state_at d items (k ∷ ks) =
    ap (λ (l : List FieldRecord). record {
      id = k;
      size = (grouped_report state_at d items k).size;
      fields = l;
    } ∷ map listed_report (map (grouped_report state_at d items) ks))
    (items-listed state_at d items (makers_of state_at d k items (length items)))
    ∙ ap (λ l. report state_at d items k ∷ l) (keys-listed state_at d items ks)

pub grouped-listed : (state_at : ℕ → ItemState) (items : List ItemType)
    → listed (grouped state_at items) ≡ descriptor state_at items
grouped-listed state_at items =
    ap (λ rs. record {
      input = rs;
      output = map listed_report (grouped_reports state_at Output items);
      feature = map listed_report (grouped_reports state_at Feature items);
    }) (keys-listed state_at Input items (keys state_at Input items))
    ∙ ap (λ rs. record {
      input = reports state_at Input items;
      output = rs;
      feature = map listed_report (grouped_reports state_at Feature items);
    }) (keys-listed state_at Output items (keys state_at Output items))
    ∙ ap (λ rs. record {
      input = reports state_at Input items;
      output = reports state_at Output items;
      feature = rs;
    }) (keys-listed state_at Feature items (keys state_at Feature items))
