-- The walk forward gives the meaning that looks back, by each reading of Push and Pop that it
-- follows.
use Rattle.std.proofs.Common.{◌≡◌, ℕ, suc, ◌+◌, ◌-◌, ◌<◌, Bool, true, false, cond, ◌&&◌, List, []}
use Rattle.std.proofs.Common.{◌∷◌, ◌++◌, length, take, map, Option, None, Some, is_some, filter, Ok}
use Rattle.std.proofs.Common.{refl, sym, ap, ◌∙◌, subst, append-nil, append_assoc, add-zero}
use Rattle.std.proofs.Common.{add-one, arith}
use Rattle.std.specs.Prelude.{◌==◌, sum_by, unwrap_or}
use Rattle.std.specs.List.{enumerate_from}
use Rattle.std.proofs.lemmas.Bool.Decides.{nat_tests}
use Rattle.std.proofs.lemmas.Grind.{common_steps}
use Rattle.std.proofs.lemmas.List.{map-append, take-map}
use Rattle.std.proofs.lemmas.List.Elements.{filter-append}
use Rattle.std.proofs.lemmas.List.Sums.{sum_by-append}
use Rattle.hidreport_items.specs.Flags.{Flags}
use Rattle.hidreport_items.specs.declared.main_item.CollectionItem.{CollectionItem}
use Rattle.hidreport_items.specs.declared.main_item.CollectionItem.TheVariants as kinds
use Rattle.hidreport_items.specs.declared.main_item.MainItem.TheVariants as main
use Rattle.hidreport_items.specs.declared.item.ItemType.TheVariants as item
use Rattle.hidreport_items.specs.declared.global.GlobalItem.TheVariants as global
use Rattle.hidreport_items.specs.declared.item.ItemType.{ItemType}
use Rattle.hidreport.specs.Faults.{item_fault, fault, counts, start_of}
use Rattle.hidreport.specs.Fields.{fields_at, fields_of, fields_made, fields_before, collections_at}
use Rattle.hidreport.specs.Fields.{collection_record, list_or_none}
use Rattle.hidreport.specs.Groups.{GroupedReport, grouped, grouped_reports, groups_at, groups_of}
use Rattle.hidreport.specs.ItemState.{ItemState, first_of}
use Rattle.hidreport.specs.Kinds.{Indexed, Direction, Input, Output, Feature, data_of, goes}
use Rattle.hidreport.specs.Kinds.{is_push, is_pop, is_collection, is_end_collection, collection_kind_of}
use Rattle.hidreport.specs.Parser.Machine.{StateRecord, after_pop, pushed_copy, no_item_state}
use Rattle.hidreport_fields.specs.Lookup.{reports_of}
use Rattle.hidreport.specs.Parser.Machine.{reports_made, size_in, first_id, added_to}
use Rattle.hidreport.specs.Parser.Machine.{key_in, start_in, start_for, counts_in, fault_in, adds}
use Rattle.hidreport.specs.Parser.Machine.{next_groups, next_item_state, last_item_state}
use Rattle.hidreport.specs.Parser.Machine.{next_reports}
use Rattle.hidreport.specs.Parser.Machine.{next_opened}
use Rattle.hidreport.specs.Parser.Machine.{new_collection, next_state, unless_fault, start_by}
use Rattle.hidreport.specs.Parser.Machine.{go_on, walk}
use Rattle.hidreport.specs.Making.{extent, key, makers, first_report_id}
use Rattle.hidreport.specs.Meaning.{InForce, meaning_by, unless_first, first_fault, fault_here}
use Rattle.hidreport.specs.Meaning.{reports, descriptor}
use Rattle.hidreport.specs.MeaningFault.{MeaningFault, TooManyEnds, TooManyPops}
use Rattle.hidreport.specs.OpenCollections.{depth, collections_before, open_at}
use Rattle.hidreport.specs.Places.{start, bits_of}
use Rattle.hidreport_fields.specs.Records.{CollectionRecord, DescriptorOf, DescriptorRecord}
use Rattle.hidreport_fields.specs.Records.{FieldRecord, ReportOf, ReportRecord}
use Rattle.hidreport.specs.Usages.{usages_of}
use Rattle.hidreport.specs.Visibility.{before, level}
use Rattle.hidreport.specs.declared.parser.push_keeps.PushKeeps.{PushKeeps}
use Rattle.hidreport.specs.declared.parser.usages_by.UsagesBy.{UsagesBy}
use Rattle.hidreport.proofs.ItemStateLemmas.{before-next, count-next, first_of-none}
use Rattle.hidreport.proofs.LevelLemmas.{Rests, rests-nothing}
use Rattle.hidreport.proofs.OpenLemmas.{Stands, stands-nothing, open-length, plain-next}
use Rattle.hidreport.proofs.OpenLemmas.{opened-next, closed-next}
use Rattle.hidreport.proofs.ReportLemmas.{reports-next, size-in_reports}
use Rattle.hidreport.specs.declared.parser.extent.Extent.{Extent}

-- the reports of a direction that the items before k make, each adding such parts
abbrev pub made_before : {A : Type 0} → (ℕ → ItemState) → Direction → (Indexed → List A)
    → List ItemType → ℕ → List (ReportOf A)
made_before item_state d parts items k =
    reports_made (λ p. key item_state d items p.0) (λ p. bits_of (extent (item_state p.0)))
    parts (makers item_state d items k)

-- field by field, and in groups
abbrev pub reports_before : (ℕ → ItemState) → Direction → List ItemType → ℕ → List ReportRecord
reports_before item_state d items k =
    made_before item_state d (fields_at item_state d items) items k

abbrev pub groups_before : (ℕ → ItemState) → Direction → List ItemType → ℕ → List GroupedReport
groups_before item_state d items k =
    made_before item_state d (groups_at item_state d items) items k

-- what is in force behind an item, and what the open Pushes keep there
pub record Steps (push_keeps : PushKeeps) (item_state : ℕ → ItemState) (stack : ℕ → List ItemState)
    (items : List ItemType) (k : ℕ) (x : ItemType) : Type 0 where
  pub item_states_next : item_state (suc k) ≡ cond (is_pop x)
      (after_pop push_keeps (item_state k) (last_item_state (item_state k) (stack k)))
      (next_item_state (item_state k) x)
  pub stack_next : stack (suc k) ≡ cond (is_pop x) (take (length (stack k) - 1) (stack k))
      (cond (is_push x) (stack k ++ pushed_copy push_keeps (item_state k) ∷ []) (stack k))
  pub rests_next : Rests items (suc k)

-- All that the walk asks of a reading of Push and Pop: what is in force before the first item and
-- behind each one.
pub record Follows (push_keeps : PushKeeps) (by : UsagesBy) (item_state : ℕ → ItemState) (stack : ℕ → List ItemState)
    (items : List ItemType) : Type 0 where
  pub begins : no_item_state by ≡ item_state 0
  pub empty : (start_by push_keeps by).stack ≡ stack 0
  pub leveled : (k : ℕ) → length (stack k) ≡ level items k
  pub goes_on : (front rest : List ItemType) (x : ItemType) → items ≡ front ++ x ∷ rest
      → Rests items (length front)
      → (is_pop x ≡ true → 0 < level items (length front))
      → Steps push_keeps item_state stack items (length front) x

-- what is held at k is what the definitions say of the items before k
pub record Holds (item_state : ℕ → ItemState) (stack : ℕ → List ItemState) (items : List ItemType)
    (k : ℕ)
    (h : StateRecord) : Type 0 where
  pub item_states : h.item_state ≡ item_state k
  pub rests : Rests items k
  pub keeps : h.stack ≡ stack k
  pub listed : (d : Direction) → reports_of d h.descriptor ≡ reports_before item_state d items k
  pub grouped : (d : Direction) → reports_of d h.outline ≡ groups_before item_state d items k
  pub first : (d : Direction)
      → first_report_id item_state (makers item_state d items k)
      ≡ first_id (reports_of d h.descriptor)
  pub numbered : h.fields ≡ fields_before item_state items k
  pub stands : Stands items k
  pub inside : h.opened ≡ collections_at item_state items k
  pub counted : h.collections ≡ collections_before items k

key-held : (item_state : ℕ → ItemState) (stack : ℕ → List ItemState) (items : List ItemType)
    (k : ℕ) (h : StateRecord)
    (d : Direction) → Holds item_state stack items k h → key item_state d items k ≡ key_in d h
key-held item_state stack items k h d held =
    ap (λ (f : ItemState). first_of f.report_id
    (first_report_id item_state (makers item_state d items k)))
    (sym held.item_states) ∙ ap (first_of h.item_state.report_id) (held.first d)

start-held : (item_state : ℕ → ItemState) (stack : ℕ → List ItemState) (items : List ItemType)
    (k : ℕ) (h : StateRecord)
    (d : Direction) → Holds item_state stack items k h → start item_state d items k ≡ start_in d h
start-held item_state stack items k h d held =
    sym (size-in_reports (λ p. key item_state d items p.0) (λ p. bits_of (extent (item_state p.0)))
    (fields_at item_state d items) (makers item_state d items k) (key item_state d items k))
    ∙ ap (size_in (key item_state d items k)) (sym (held.listed d))
    ∙ ap (λ id. size_in id (reports_of d h.descriptor)) (key-held item_state stack items k h d held)

start-for : (item_state : ℕ → ItemState) (stack : ℕ → List ItemState) (items : List ItemType)
    (k : ℕ) (h : StateRecord)
    (o : Option (Direction × Flags)) → Holds item_state stack items k h
    → start_of item_state o items k ≡ start_for o h
start-for item_state stack items k h None held = refl
start-for item_state stack items k h (Some x) held = start-held item_state stack items k h x.0 held

-- as many collections are held as the depth says
depth-held : (item_state : ℕ → ItemState) (stack : ℕ → List ItemState) (items : List ItemType)
    (k : ℕ) (h : StateRecord)
    → Holds item_state stack items k h → depth items k ≡ length h.opened
depth-held item_state stack items k h held =
    let size : length (collections_at item_state items k) ≡ length (open_at items k) =
    grind (arith, common_steps) in
    sym (ap length held.inside ∙ size ∙ open-length items k held.stands)

counts-held : (item_state : ℕ → ItemState) (stack : ℕ → List ItemState) (items : List ItemType)
    (k : ℕ) (h : StateRecord)
    (x : ItemType) → ((n : ℕ) → length (stack n) ≡ level items n) → Holds item_state stack items k h
    → counts item_state items k x ≡ counts_in h x
counts-held item_state stack items k h x leveled held =
    let l : level items k ≡ length h.stack = sym (ap length held.keeps ∙ leveled k) in
    let d : depth items k ≡ length h.opened = depth-held item_state stack items k h held in
    let c : collections_before items k ≡ h.collections = sym held.counted in
    let f : fields_before item_state items k ≡ h.fields = sym held.numbered in
    let s : start_of item_state (data_of x) items k ≡ start_for (data_of x) h =
    start-for item_state stack items k h (data_of x) held in
    cc

pub fault-held : (item_state : ℕ → ItemState) (stack : ℕ → List ItemState) (items : List ItemType)
    (k : ℕ)
    (h : StateRecord) (x : ItemType) → ((n : ℕ) → length (stack n) ≡ level items n)
    → Holds item_state stack items k h
    → fault item_state items k x ≡ item_fault (counts_in h x) h.item_state x
fault-held item_state stack items k h x leveled held =
    ap (λ n. item_fault n (item_state k) x) (counts-held item_state stack items k h x leveled held)
    ∙ ap (λ f. item_fault (counts_in h x) f x) (sym held.item_states)

pub fields-held : (item_state : ℕ → ItemState) (stack : ℕ → List ItemState) (items : List ItemType)
    (k : ℕ)
    (h : StateRecord) (d : Direction) (x : ItemType) → Holds item_state stack items k h
    → fields_at item_state d items (k, x) ≡ fields_of h.item_state h.opened h.fields (start_in d h)
    (data_of x) (extent h.item_state)
fields-held item_state stack items k h d x held =
    ap (λ cs. fields_of (item_state k) cs (fields_before item_state items k)
    (start item_state d items k)
    (data_of x) (extent (item_state k))) (sym held.inside)
    ∙ ap (λ f. fields_of f h.opened (fields_before item_state items k) (start item_state d items k)
    (data_of x) (extent f)) (sym held.item_states)
    ∙ ap (λ n. fields_of h.item_state h.opened n (start item_state d items k) (data_of x)
    (extent h.item_state))
    (sym held.numbered)
    ∙ ap (λ s. fields_of h.item_state h.opened h.fields s (data_of x) (extent h.item_state))
    (start-held item_state stack items k h d held)

groups-held : (item_state : ℕ → ItemState) (stack : ℕ → List ItemState) (items : List ItemType)
    (k : ℕ)
    (h : StateRecord) (d : Direction) (x : ItemType) → Holds item_state stack items k h
    → groups_at item_state d items (k, x) ≡ groups_of h.item_state h.opened h.fields (start_in d h)
    (data_of x) (extent h.item_state)
groups-held item_state stack items k h d x held =
    ap (λ cs. groups_of (item_state k) cs (fields_before item_state items k)
    (start item_state d items k)
    (data_of x) (extent (item_state k))) (sym held.inside)
    ∙ ap (λ f. groups_of f h.opened (fields_before item_state items k) (start item_state d items k)
    (data_of x) (extent f)) (sym held.item_states)
    ∙ ap (λ n. groups_of h.item_state h.opened n (start item_state d items k) (data_of x)
    (extent h.item_state))
    (sym held.numbered)
    ∙ ap (λ s. groups_of h.item_state h.opened h.fields s (data_of x) (extent h.item_state))
    (start-held item_state stack items k h d held)

-- the items that make fields, with one more item
makers-next : (item_state : ℕ → ItemState) (items front rest : List ItemType) (x : ItemType)
    (d : Direction)
    → items ≡ front ++ x ∷ rest
    → makers item_state d items (suc (length front)) ≡ makers item_state d items (length front)
    ++ cond
    (goes d (data_of x) && is_some (extent (item_state (length front)))) ((length front, x) ∷ []) []
makers-next item_state items front rest x d e =
    let test = λ (p : Indexed). goes d (data_of p.1) && is_some (extent (item_state p.0)) in
    ap (filter test) (before-next items front rest x e)
    ∙ filter-append test (before items (length front)) ((length front, x) ∷ [])

made-by : {A : Type 0} (b : Bool) (item_state : ℕ → ItemState) (stack : ℕ → List ItemState)
    (items front rest : List ItemType) (h : StateRecord) (x : ItemType) (d : Direction)
    (parts : Indexed → List A) (part : List A) (old : List (ReportOf A))
    → items ≡ front ++ x ∷ rest → Holds item_state stack items (length front) h
    → (goes d (data_of x) && is_some (extent (item_state (length front)))) ≡ b
    → parts (length front, x) ≡ part
    → old ≡ made_before item_state d parts items (length front)
    → made_before item_state d parts items (suc (length front))
    ≡ cond b (added_to (key_in d h) (bits_of (extent h.item_state)) part old) old
made-by true item_state stack items front rest h x d parts part old e held t is was =
    let k = length front in
    let key_of = λ (p : Indexed). key item_state d items p.0 in
    let bits = λ (p : Indexed). bits_of (extent (item_state p.0)) in
    let ms = makers item_state d items k in
    ap (reports_made key_of bits parts)
    (makers-next item_state items front rest x d e ∙ ap (λ b. ms ++ cond b ((k, x) ∷ []) []) t)
    ∙ reports-next key_of bits parts ms (k, x)
    ∙ ap (λ id. added_to id (bits_of (extent (item_state k))) (parts (k, x))
    (reports_made key_of bits parts ms)) (key-held item_state stack items k h d held)
    ∙ ap (λ f. added_to (key_in d h) (bits_of (extent f)) (parts (k, x))
    (reports_made key_of bits parts ms)) (sym held.item_states)
    ∙ ap (λ fs. added_to (key_in d h) (bits_of (extent h.item_state)) fs
    (reports_made key_of bits parts ms)) is
    ∙ ap (added_to (key_in d h) (bits_of (extent h.item_state)) part) (sym was)
made-by false item_state stack items front rest h x d parts part old e held t is was =
    let k = length front in
    let ms = makers item_state d items k in
    ap (reports_made (λ p. key item_state d items p.0) (λ p. bits_of (extent (item_state p.0)))
    parts) (makers-next item_state items front rest x d e
    ∙ ap (λ b. ms ++ cond b ((k, x) ∷ []) []) t ∙ append-nil ms)
    ∙ sym was

-- the item makes fields by what is held
adds-held : (item_state : ℕ → ItemState) (stack : ℕ → List ItemState)
    (items : List ItemType) (k : ℕ) (h : StateRecord) (x : ItemType) (d : Direction)
    → Holds item_state stack items k h
    → (goes d (data_of x) && is_some (extent (item_state k))) ≡ adds d h x
adds-held item_state stack items k h x d held =
    ap (λ f. goes d (data_of x) && is_some (extent f)) (sym held.item_states)

listed-next : (item_state : ℕ → ItemState) (stack : ℕ → List ItemState)
    (items front rest : List ItemType)
    (h : StateRecord) (x : ItemType) (d : Direction) → items ≡ front ++ x ∷ rest
    → Holds item_state stack items (length front) h
    → reports_before item_state d items (suc (length front)) ≡ next_reports d h x
listed-next item_state stack items front rest h x d e held =
    made-by (adds d h x) item_state stack items front rest h x d (fields_at item_state d items)
    (fields_of h.item_state h.opened h.fields (start_in d h) (data_of x) (extent h.item_state))
    (reports_of d h.descriptor) e held
    (adds-held item_state stack items (length front) h x d held)
    (fields-held item_state stack items (length front) h d x held) (held.listed d)

grouped-next : (item_state : ℕ → ItemState) (stack : ℕ → List ItemState)
    (items front rest : List ItemType)
    (h : StateRecord) (x : ItemType) (d : Direction) → items ≡ front ++ x ∷ rest
    → Holds item_state stack items (length front) h
    → groups_before item_state d items (suc (length front)) ≡ next_groups d h x
grouped-next item_state stack items front rest h x d e held =
    made-by (adds d h x) item_state stack items front rest h x d (groups_at item_state d items)
    (groups_of h.item_state h.opened h.fields (start_in d h) (data_of x) (extent h.item_state))
    (reports_of d h.outline) e held
    (adds-held item_state stack items (length front) h x d held)
    (groups-held item_state stack items (length front) h d x held) (held.grouped d)

-- the first report's id, with one more item
first-more : (item_state : ℕ → ItemState) (items : List ItemType) (ms : List Indexed)
    (key_of : Indexed → Option ℕ) (bits : Indexed → ℕ) (parts : Indexed → List FieldRecord)
    (m : Indexed)
    → (ms ≡ [] → (item_state m.0).report_id ≡ key_of m)
    → first_report_id item_state ms ≡ first_id (reports_made key_of bits parts ms)
    → first_report_id item_state (ms ++ m ∷ [])
    ≡ first_id (reports_made key_of bits parts (ms ++ m ∷ []))
first-more item_state items [] key_of bits parts m new old = new refl
first-more item_state items (p ∷ ps) key_of bits parts m new old = old

first-by : (b : Bool) (item_state : ℕ → ItemState) (stack : ℕ → List ItemState)
    (items front rest : List ItemType)
    (h : StateRecord) (x : ItemType) (d : Direction) → items ≡ front ++ x ∷ rest
    → Holds item_state stack items (length front) h
    → (goes d (data_of x) && is_some (extent (item_state (length front)))) ≡ b
    → first_report_id item_state (makers item_state d items (suc (length front))) ≡ first_id
    (reports_before item_state d items (suc (length front)))
first-by b item_state stack items front rest h x d e held t = first-at b refl where
  k : ℕ
  k = length front

  key_of : Indexed → Option ℕ
  key_of p = key item_state d items p.0

  bits : Indexed → ℕ
  bits p = bits_of (extent (item_state p.0))

  ms : List Indexed
  ms = makers item_state d items k

  old : first_report_id item_state ms ≡ first_id
      (reports_made key_of bits (fields_at item_state d items) ms)
  old = held.first d ∙ ap first_id (held.listed d)

  all : (c : Bool) → b ≡ c → makers item_state d items (suc k) ≡ ms ++ cond c ((k, x) ∷ []) []
  all c s = makers-next item_state items front rest x d e
      ∙ ap (λ b. ms ++ cond b ((k, x) ∷ []) []) (t ∙ s)

  both : List Indexed → Type 0
  both l = first_report_id item_state l ≡ first_id
      (reports_made key_of bits (fields_at item_state d items) l)

  first-at : (c : Bool) → b ≡ c → both (makers item_state d items (suc k))
  first-at true s = subst both (sym (all true s))
      (first-more item_state items ms key_of bits (fields_at item_state d items) (k, x)
      (λ n. sym (ap (λ l. first_of (item_state k).report_id (first_report_id item_state l)) n
      ∙ first_of-none (item_state k).report_id)) old)
  first-at false s = subst both (sym (all false s ∙ append-nil ms)) old

-- the number of fields, with one more item
sum-next : (b : Bool) (f : Indexed → ℕ) (ms : List Indexed) (m : Indexed)
    → sum_by f (ms ++ cond b (m ∷ []) []) ≡ sum_by f ms + cond b (f m) 0
sum-next true f ms m = sum_by-append f ms (m ∷ [])
    ∙ ap (λ n. sum_by f ms + n) (let e : sum_by f (m ∷ []) ≡ f m = grind (arith, common_steps) in e)
sum-next false f ms m = ap (sum_by f) (append-nil ms) ∙ sym (add-zero (sum_by f ms))

one-direction : (o : Option (Direction × Flags)) (e : Option Extent)
    → cond (goes Input o && is_some e) (fields_made o e) 0 +
    (cond (goes Output o && is_some e) (fields_made o e) 0 + cond (goes Feature o && is_some e)
    (fields_made o e) 0) ≡ fields_made o e
one-direction None e = refl
one-direction (Some (Input, flags)) None = refl
one-direction (Some (Output, flags)) None = refl
one-direction (Some (Feature, flags)) None = refl
one-direction (Some (Input, flags)) (Some e) = omega arith
one-direction (Some (Output, flags)) (Some e) = omega arith
one-direction (Some (Feature, flags)) (Some e) = omega arith

numbered-next : (item_state : ℕ → ItemState) (stack : ℕ → List ItemState)
    (items front rest : List ItemType)
    (h : StateRecord) (x : ItemType) → items ≡ front ++ x ∷ rest
    → Holds item_state stack items (length front) h
    → fields_before item_state items (suc (length front)) ≡ h.fields + fields_made (data_of x)
    (extent h.item_state)
numbered-next item_state stack items front rest h x e held =
    let k = length front in
    let f = λ (p : Indexed). fields_made (data_of p.1) (extent (item_state p.0)) in
    let o = data_of x in
    let a = extent (item_state k) in
    let in_next = ap (sum_by f) (makers-next item_state items front rest x Input e)
    ∙ sum-next (goes Input o && is_some a) f (makers item_state Input items k) (k, x) in
    let out_next = ap (sum_by f) (makers-next item_state items front rest x Output e)
    ∙ sum-next (goes Output o && is_some a) f (makers item_state Output items k) (k, x) in
    let feature_next = ap (sum_by f) (makers-next item_state items front rest x Feature e)
    ∙ sum-next (goes Feature o && is_some a) f (makers item_state Feature items k) (k, x) in
    let one = one-direction o a in
    let old : h.fields ≡ sum_by f (makers item_state Input items k) +
    (sum_by f (makers item_state Output items k) + sum_by f (makers item_state Feature items k)) =
    held.numbered in
    let joined : fields_before item_state items (suc k) ≡ h.fields + fields_made o a =
    omega (arith, in_next, out_next, feature_next, one, old) in
    joined ∙ ap (λ g. h.fields + fields_made o (extent g)) (sym held.item_states)

in_direction : (d : Direction) (h : StateRecord) (x : ItemType)
    → reports_of d (next_state h x).descriptor ≡ next_reports d h x
in_direction Input h x = refl
in_direction Output h x = refl
in_direction Feature h x = refl

groups_in_direction : (d : Direction) (h : StateRecord) (x : ItemType)
    → reports_of d (next_state h x).outline ≡ next_groups d h x
groups_in_direction Input h x = refl
groups_in_direction Output h x = refl
groups_in_direction Feature h x = refl

-- the open collections, with one more item
record OpenedNext (item_state : ℕ → ItemState) (items : List ItemType) (k : ℕ) (h : StateRecord)
    (x : ItemType) :
    Type 0 where
  pub stands : Stands items (suc k)
  pub inside : next_opened h x ≡ collections_at item_state items (suc k)

not_both_kinds : (x : ItemType) (kind : CollectionItem) → collection_kind_of x ≡ Some kind
    → is_end_collection x ≡ false
not_both_kinds (item.Main (main.Collection kind)) k h = refl
not_both_kinds (item.Main main.EndCollection) k h = cc
not_both_kinds (item.Main y) k h = cc
not_both_kinds (item.Global g) k h = cc
not_both_kinds (item.Local y) k h = cc
not_both_kinds item.Long k h = cc
not_both_kinds item.Reserved k h = cc

some-there : (f : MeaningFault) (b : Bool) (n : ℕ) → (n == 0) ≡ b → cond b (Some f) None ≡ None
    → 0 < n
some-there f true n e h = cc
some-there f false n e h = grind (arith, nat_tests)

-- an EndCollection without a fault closes a collection
end-deep : (h : StateRecord) (x : ItemType) → is_end_collection x ≡ true → fault_in h x ≡ None
    → 0 < length h.opened
end-deep h (item.Main main.EndCollection) e faultless =
    some-there TooManyEnds (length h.opened == 0) (length h.opened) refl faultless
end-deep h (item.Main (main.Input flags)) e faultless = cc
end-deep h (item.Main (main.Output flags)) e faultless = cc
end-deep h (item.Main (main.Feature flags)) e faultless = cc
end-deep h (item.Main (main.Collection kind)) e faultless = cc
end-deep h (item.Global g) e faultless = cc
end-deep h (item.Local y) e faultless = cc
end-deep h item.Long e faultless = cc
end-deep h item.Reserved e faultless = cc

opened-by : (o : Option CollectionItem) (b : Bool) (item_state : ℕ → ItemState) (stack : ℕ
    → List ItemState)
    (items front rest : List ItemType) (h : StateRecord) (x : ItemType) → items ≡ front ++ x ∷ rest
    → Holds item_state stack items (length front) h
    → fault_in h x ≡ None → collection_kind_of x ≡ o → is_end_collection x ≡ b
    → OpenedNext item_state items (length front) h x
opened-by (Some kind) b item_state stack items front rest h x e held faultless opens closes =
    let k = length front in
    let plain : is_end_collection x ≡ false = not_both_kinds x kind opens in
    let next = opened-next items front rest x e held.stands (ap is_some opens) plain in
    let new : collection_record item_state items (k, x) ≡ record {
      id = h.collections;
      kind = kind;
      usages = (list_or_none (usages_of h.item_state)).usages;
    } =
    ap (λ (o : Option CollectionItem). record {
      id = collections_before items k;
      kind = unwrap_or o kinds.Physical;
      usages = (list_or_none (usages_of (item_state k))).usages;
    }) opens
    ∙ ap (λ (n : ℕ). record {
      id = n;
      kind = kind;
      usages = (list_or_none (usages_of (item_state k))).usages;
    }) (sym held.counted)
    ∙ ap (λ (f : ItemState). record {
      id = h.collections;
      kind = kind;
      usages = (list_or_none (usages_of f)).usages;
    }) (sym held.item_states) in
    record {
      stands = next.1;
      inside = ap (λ c. cond c (take (length h.opened - 1) h.opened)
          (h.opened ++ new_collection h (collection_kind_of x))) plain
          ∙ ap (λ o. h.opened ++ new_collection h o) opens
          ∙ ap (λ l. l ++ record {
            id = h.collections;
            kind = kind;
            usages = (list_or_none (usages_of h.item_state)).usages;
          } ∷ []) held.inside
          ∙ ap (λ (c : CollectionRecord). collections_at item_state items k ++ c ∷ []) (sym new)
          ∙ sym (map-append (collection_record item_state items) (open_at items k) ((k, x) ∷ []))
          ∙ ap (map (collection_record item_state items)) (sym next.0);
    }
opened-by None false item_state stack items front rest h x e held faultless opens closes =
    let k = length front in
    let next = plain-next items front rest x e held.stands (ap is_some opens) closes in
    record {
      stands = next.1;
      inside = ap (λ c. cond c (take (length h.opened - 1) h.opened)
          (h.opened ++ new_collection h (collection_kind_of x))) closes
          ∙ ap (λ o. h.opened ++ new_collection h o) opens ∙ append-nil h.opened
          ∙ held.inside ∙ ap (map (collection_record item_state items)) (sym next.0);
    }
opened-by None true item_state stack items front rest h x e held faultless opens closes =
    let k = length front in
    let deep : 0 < depth items k =
    omega (arith, end-deep h x closes faultless, depth-held item_state stack items k h held) in
    let next = closed-next items front rest x e held.stands (ap is_some opens) closes deep in
    let size : length h.opened ≡ length (open_at items k) =
    sym (depth-held item_state stack items k h held) ∙ sym (open-length items k held.stands) in
    record {
      stands = next.1;
      inside = ap (λ c. cond c (take (length h.opened - 1) h.opened)
          (h.opened ++ new_collection h (collection_kind_of x))) closes
          ∙ ap (λ n. take (n - 1) h.opened) size
          ∙ ap (take (length (open_at items k) - 1)) held.inside
          ∙ take-map (collection_record item_state items) (length (open_at items k) - 1)
          (open_at items k)
          ∙ ap (map (collection_record item_state items)) (sym next.0);
    }

one-opened : (h : StateRecord) (o : Option CollectionItem)
    → length (new_collection h o) ≡ cond (is_some o) 1 0
one-opened h None = refl
one-opened h (Some kind) = refl

-- a Pop without a fault has an open Push
pop-deep : (h : StateRecord) (x : ItemType) → is_pop x ≡ true → fault_in h x ≡ None
    → 0 < length h.stack
pop-deep h (item.Global global.Pop) e faultless =
    some-there TooManyPops (length h.stack == 0) (length h.stack) refl faultless
pop-deep h (item.Global global.Push) e faultless = cc
pop-deep h (item.Global g) e faultless = cc
pop-deep h (item.Main y) e faultless = cc
pop-deep h (item.Local y) e faultless = cc
pop-deep h item.Long e faultless = cc
pop-deep h item.Reserved e faultless = cc

-- what is held goes on by one item
pub holds-next : (push_keeps : PushKeeps) (by : UsagesBy) (item_state : ℕ → ItemState) (stack : ℕ → List ItemState)
    (items front rest : List ItemType) (h : StateRecord) (x : ItemType)
    → Follows push_keeps by item_state stack items
    → h.push_keeps ≡ push_keeps → items ≡ front ++ x ∷ rest
    → Holds item_state stack items (length front) h
    → fault_in h x ≡ None → Holds item_state stack items (suc (length front)) (next_state h x)
holds-next push_keeps by item_state stack items front rest h x follows reads e held faultless =
    let k = length front in
    let opened = opened-by (collection_kind_of x)
    (is_end_collection x) item_state stack items front rest h x e
    held faultless refl refl in
    let deep : is_pop x ≡ true
    → 0 < level items k = λ pop. omega
    (arith, pop-deep h x pop faultless, ap length held.keeps, follows.leveled k) in
    let stepped = follows.goes_on front rest x e held.rests deep in
    record {
      item_states = ap (λ r. cond (is_pop x)
          (after_pop r h.item_state (last_item_state h.item_state h.stack))
          (next_item_state h.item_state x)) reads
          ∙ ap (λ f. cond (is_pop x) (after_pop push_keeps f (last_item_state f h.stack))
          (next_item_state f x)) held.item_states
          ∙ ap (λ l. cond (is_pop x) (after_pop push_keeps (item_state k)
          (last_item_state (item_state k) l))
          (next_item_state (item_state k) x)) held.keeps ∙ sym stepped.item_states_next;
      rests = stepped.rests_next;
      keeps = ap (λ r. cond (is_pop x) (take (length h.stack - 1) h.stack)
          (cond (is_push x) (h.stack ++ pushed_copy r h.item_state ∷ []) h.stack)) reads
          ∙ ap (λ l. cond (is_pop x) (take (length l - 1) l)
          (cond (is_push x) (l ++ pushed_copy push_keeps h.item_state ∷ []) l)) held.keeps
          ∙ ap (λ f. cond (is_pop x) (take (length (stack k) - 1) (stack k))
          (cond (is_push x) (stack k ++ pushed_copy push_keeps f ∷ []) (stack k))) held.item_states
          ∙ sym stepped.stack_next;
      listed = λ d. in_direction d h x ∙ sym
          (listed-next item_state stack items front rest h x d e held);
      grouped = λ d. groups_in_direction d h x ∙ sym
          (grouped-next item_state stack items front rest h x d e held);
      first = λ d. first-by (goes d (data_of x) && is_some (extent (item_state (length front))))
          item_state
          stack items front rest h x d e held refl
          ∙ ap first_id (listed-next item_state stack items front rest h x d e held
          ∙ sym (in_direction d h x));
      numbered = sym (numbered-next item_state stack items front rest h x e held);
      stands = opened.stands;
      inside = opened.inside;
      counted = ap (λ n. n + length (new_collection h (collection_kind_of x))) held.counted
          ∙ ap (λ n. collections_before items (length front) + n) (one-opened h (collection_kind_of x))
          ∙ sym (count-next is_collection items front rest x e);
    }

-- the fault of the item, and what the rest gives where it has none
walked-by : (o : Option MeaningFault) (item_state : ℕ → ItemState) (items : List ItemType) (k : ℕ)
    (h : StateRecord)
    (x : ItemType) (xs : List ItemType) (all : DescriptorRecord)
    → fault item_state items k x ≡ fault_in h x → fault_in h x ≡ o
    → (fault_in h x ≡ None
    → walk (next_state h x) (k + 1) xs ≡ unless_first
    (first_fault item_state items (enumerate_from (k + 1) xs)) all)
    → walk h k (x ∷ xs) ≡ unless_first (first_fault item_state items (enumerate_from k (x ∷ xs)))
    all
walked-by None item_state items k h x xs all same e rest =
    ap (λ f. go_on (unless_fault f (next_state h x)) k (λ next. walk next (k + 1) xs)) e ∙ rest e
    ∙ sym (ap (λ f. unless_first (fault_here f k
    (first_fault item_state items (enumerate_from (k + 1) xs))) all) (same ∙ e))
walked-by (Some f) item_state items k h x xs all same e rest =
    ap (λ f. go_on (unless_fault f (next_state h x)) k (λ next. walk next (k + 1) xs)) e
    ∙ sym (ap (λ f. unless_first (fault_here f k
    (first_fault item_state items (enumerate_from (k + 1) xs))) all) (same ∙ e))

descriptor-of : {A : Type 0} (r : DescriptorOf A) (i o f : List (ReportOf A)) → r.input ≡ i
    → r.output ≡ o
    → r.feature ≡ f → r ≡ record { input = i; output = o; feature = f }
descriptor-of r i o f p q s =
    let first : r ≡ record { input = i; output = r.output; feature = r.feature } =
    ap (λ a. record { input = a; output = r.output; feature = r.feature }) p in
    first ∙ ap (λ a. record { input = i; output = a; feature = r.feature }) q
    ∙ ap (λ a. record { input = i; output = o; feature = a }) s

pub at-end : (item_state : ℕ → ItemState) (stack : ℕ → List ItemState) (items : List ItemType)
    (h : StateRecord)
    → Holds item_state stack items (length items) h → h.descriptor ≡ descriptor item_state items
at-end item_state stack items h held =
    descriptor-of h.descriptor (reports item_state Input items) (reports item_state Output items)
    (reports item_state Feature items) (held.listed Input) (held.listed Output)
    (held.listed Feature)

pub groups-at-end : (item_state : ℕ → ItemState) (stack : ℕ → List ItemState)
    (items : List ItemType) (h : StateRecord)
    → Holds item_state stack items (length items) h → h.outline ≡ grouped item_state items
groups-at-end item_state stack items h held =
    descriptor-of h.outline (grouped_reports item_state Input items)
    (grouped_reports item_state Output items) (grouped_reports item_state Feature items)
    (held.grouped Input) (held.grouped Output) (held.grouped Feature)

walk-from : (push_keeps : PushKeeps) (by : UsagesBy) (item_state : ℕ → ItemState) (stack : ℕ → List ItemState)
    (items front rest : List ItemType) (h : StateRecord) → Follows push_keeps by item_state stack items
    → h.push_keeps ≡ push_keeps → items ≡ front ++ rest → Holds item_state stack items (length front) h
    → walk h (length front) rest ≡ unless_first
    (first_fault item_state items (enumerate_from (length front) rest))
    (descriptor item_state items)
walk-from push_keeps by item_state stack items front [] h follows reads e held =
    let whole : items ≡ front = e ∙ append-nil front in
    ap Ok (at-end item_state stack items h
    (subst (λ n. Holds item_state stack items n h) (ap length (sym whole)) held))
walk-from push_keeps by item_state stack items front (x ∷ xs) h follows reads e held =
    let k = length front in
    let more : items ≡ (front ++ x ∷ []) ++ xs = e ∙ sym (append_assoc front (x ∷ []) xs) in
    let size : length (front ++ x ∷ []) ≡ suc k = grind (arith, common_steps) in
    let size_one : length (front ++ x ∷ []) ≡ k + 1 = size ∙ sym (add-one k) in
    walked-by (fault_in h x) item_state items k h x xs (descriptor item_state items)
    (fault-held item_state stack items k h x follows.leveled held) refl
    (λ faultless.
    let next : Holds item_state stack items (length (front ++ x ∷ [])) (next_state h x) =
    subst (λ n. Holds item_state stack items n (next_state h x)) (sym size)
    (holds-next push_keeps by item_state stack items front xs h x follows reads e held faultless) in
    subst (λ n. walk (next_state h x) n xs ≡ unless_first
    (first_fault item_state items (enumerate_from n xs)) (descriptor item_state items)) size_one
    (walk-from push_keeps by item_state stack items (front ++ x ∷ []) xs
    (next_state h x) follows reads more
    next))

pub holds-nothing : (push_keeps : PushKeeps) (by : UsagesBy) (item_state : ℕ → ItemState) (stack : ℕ → List ItemState)
    (items : List ItemType) → Follows push_keeps by item_state stack items
    → Holds item_state stack items 0 (start_by push_keeps by)
holds-nothing push_keeps by item_state stack items follows = record {
  item_states = follows.begins;
  rests = rests-nothing items;
  keeps = follows.empty;
  listed = λ d. elim d as (λ d. reports_of d (start_by push_keeps by).descriptor ≡ reports_before
      item_state d items 0) [ Input ↦ refl | Output ↦ refl | Feature ↦ refl ];
  grouped = λ d. elim d as (λ d. reports_of d (start_by push_keeps by).outline ≡ groups_before
      item_state d items 0) [ Input ↦ refl | Output ↦ refl | Feature ↦ refl ];
  first = λ d. elim d as (λ d. first_report_id item_state (makers item_state d items 0) ≡ first_id
      (reports_of d (start_by push_keeps by).descriptor))
      [ Input ↦ refl | Output ↦ refl | Feature ↦ refl ];
  numbered = refl;
  stands = stands-nothing items;
  inside = refl;
  counted = refl;
}

-- the walk gives the meaning, by each reading that it follows
pub walk-follows : (push_keeps : PushKeeps) (by : UsagesBy) (reading : InForce) (stack : ℕ → List ItemState)
    (items : List ItemType) → Follows push_keeps by (reading items) stack items
    → walk (start_by push_keeps by) 0 items ≡ meaning_by reading items
walk-follows push_keeps by reading stack items follows =
    walk-from push_keeps by (reading items) stack items [] items (start_by push_keeps by) follows refl refl
    (holds-nothing push_keeps by (reading items) stack items follows)
