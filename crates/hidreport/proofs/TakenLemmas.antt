-- An item that hosts take has no fault but that usages are missing.
use Rattle.std.proofs.Common.{◌≡◌, ℕ, ◌+◌, ◌-◌, ◌*◌, ◌<◌, ◌≤◌, Bool, true, false, cond}
use Rattle.std.proofs.Common.{List, [], ◌∷◌, ◌++◌, length, take, nat_lt, Option, None, Some}
use Rattle.std.proofs.Common.{IfSome, Result, Ok, Err, refl, ap, ◌∙◌, arith, length-take}
use Rattle.std.proofs.Common.{length-append}
use Rattle.std.specs.Prelude.{◌==◌, ◌||◌, is_some, nat_le}
use Rattle.std.proofs.lemmas.Bool.{and_parts, leb-true, le-ltb, lt-leb, ltb-true, ne_eqb, or_from}
use Rattle.std.proofs.lemmas.Nat.{mul-le}
use Rattle.hidreport_items.specs.Flags.{Flags}
use Rattle.hidreport_items.specs.declared.global.GlobalItem.TheVariants as global
use Rattle.hidreport_items.specs.declared.item.ItemType.{ItemType}
use Rattle.hidreport_items.specs.declared.item.ItemType.TheVariants as item
use Rattle.hidreport_items.specs.declared.main_item.CollectionItem.{CollectionItem}
use Rattle.hidreport_items.specs.declared.main_item.MainItem.TheVariants as main
use Rattle.hidreport.specs.Faults.{Counts, data_fault, id_count, if_no_usages, last_end, limit_fault}
use Rattle.hidreport.specs.Faults.{needed_usages_fault, usage_fault}
use Rattle.hidreport.specs.Fields.{fields_made, fields_of}
use Rattle.hidreport_fields.specs.ItemParts.{field_count}
use Rattle.hidreport.specs.ItemState.{ItemState, first_of}
use Rattle.hidreport.specs.Kinds.{Direction, Input, Output, Feature, collection_kind_of, data_of}
use Rattle.hidreport.specs.Kinds.{is_end_collection, is_pop, is_push, report_count_of}
use Rattle.hidreport.specs.Kinds.{report_size_of}
use Rattle.hidreport_fields.specs.Lookup.{reports_of}
use Rattle.hidreport.specs.Making.{both_set, extent}
use Rattle.hidreport.specs.MeaningFault.{MeaningFault, TooManyEnds, TooManyPops}
use Rattle.hidreport.specs.Parser.Machine.{StateRecord, added_to, adds, after_pop, counts_in, fault_in}
use Rattle.hidreport.specs.Parser.Machine.{first_state, key_in, last_item_state, new_collection}
use Rattle.hidreport.specs.Parser.Machine.{next_item_state, next_opened, next_stack, next_state}
use Rattle.hidreport.specs.Parser.Machine.{pushed_copy, size_in, start_in}
use Rattle.hidreport.specs.Places.{bits_of}
use Rattle.hidreport_fields.specs.Records.{FieldRecord, ReportRecord}
use Rattle.hidreport_fields.specs.ReportIds.{id_bits, same_key}
use Rattle.hidreport.specs.Repair.{is_missing_usages}
use Rattle.hidreport.specs.Taken.{has_front, is_moderate, is_within, opened_behind, pushes_behind}
use Rattle.hidreport_fields.specs.Tiling.{Each}
use Rattle.hidreport.specs.Usages.{UsageList, usages_of, usages_under}
use Rattle.hidreport_fields.specs.declared.field.usage.Usage.{Usage}
use Rattle.hidreport.specs.declared.parse_options.ParseOptions.{ParseOptions}
use Rattle.hidreport.specs.declared.parser.extent.Extent.{Extent}
use Rattle.hidreport.specs.declared.parser.push_keeps.PushKeeps.{PushKeeps}
use Rattle.hidreport.specs.declared.parser.push_keeps.PushKeeps.TheVariants as a_push_keeps
use Rattle.hidreport.specs.declared.parser.usages_by.UsagesBy.{UsagesBy}
use Rattle.hidreport.specs.declared.parser.usages_by.UsagesBy.TheVariants as usages_by
use Rattle.hidreport.proofs.TilingLemmas.{each-append, each-more, each-take}

-- what is in force between items that hosts take
pub record IsModest (f : ItemState) : Type 0 where
  pub size : IfSome f.report_size (λ n. n ≤ 256)
  pub count : IfSome f.report_count (λ n. n ≤ 12288)
  pub hosts : f.usages_by ≡ usages_by.Hosts

within-some : (most : ℕ) (o : Option ℕ) → is_within most o ≡ true → IfSome o (λ n. n ≤ most)
within-some most None e = tt
within-some most (Some n) e = leb-true n most e

first-most : (most : ℕ) (a b : Option ℕ) → IfSome a (λ n. n ≤ most) → IfSome b (λ n. n ≤ most)
    → IfSome (first_of a b) (λ n. n ≤ most)
first-most most None b x y = y
first-most most (Some n) b x y = x

modest-next : (f : ItemState) (x : ItemType) → IsModest f → is_moderate x ≡ true
    → IsModest (next_item_state f x)
modest-next f x modest moderate =
    let both = and_parts (is_within 256 (report_size_of x)) (is_within 12288 (report_count_of x))
    moderate in
    record {
      size = first-most 256 (report_size_of x) f.report_size
          (within-some 256 (report_size_of x) both.0) modest.size;
      count = first-most 12288 (report_count_of x) f.report_count
          (within-some 12288 (report_count_of x) both.1) modest.count;
      hosts = modest.hosts;
    }

modest-last : (f : ItemState) (gs : List ItemState) → IsModest f → Each IsModest gs
    → IsModest (last_item_state f gs)
modest-last f [] now kept = now
modest-last f (g ∷ gs) now kept = modest-last g gs kept.0 kept.1

modest-pop : (keeps : PushKeeps) (now kept : ItemState) → IsModest kept
    → IsModest (after_pop keeps now kept)
modest-pop a_push_keeps.All now kept m = m
modest-pop a_push_keeps.Globals now kept m =
    record { size = m.size; count = m.count; hosts = m.hosts }

modest-copy : (keeps : PushKeeps) (now : ItemState) → IsModest now → IsModest (pushed_copy keeps now)
modest-copy a_push_keeps.All now m = m
modest-copy a_push_keeps.Globals now m =
    record { size = m.size; count = m.count; hosts = m.hosts }

modest-behind : (b : Bool) (h : StateRecord) (x : ItemType) → IsModest h.item_state
    → Each IsModest h.stack → is_moderate x ≡ true
    → IsModest (cond b (after_pop h.push_keeps h.item_state (last_item_state h.item_state h.stack))
    (next_item_state h.item_state x))
modest-behind true h x now kept moderate =
    modest-pop h.push_keeps h.item_state (last_item_state h.item_state h.stack)
    (modest-last h.item_state h.stack now kept)
modest-behind false h x now kept moderate = modest-next h.item_state x now moderate

stack-behind : (b c : Bool) (h : StateRecord) → IsModest h.item_state → Each IsModest h.stack
    → Each IsModest (cond b (take (length h.stack - 1) h.stack)
    (cond c (h.stack ++ pushed_copy h.push_keeps h.item_state ∷ []) h.stack))
stack-behind true c h now kept = each-take IsModest (length h.stack - 1) h.stack kept
stack-behind false true h now kept =
    each-append IsModest h.stack (pushed_copy h.push_keeps h.item_state ∷ []) kept
    (modest-copy h.push_keeps h.item_state now, tt)
stack-behind false false h now kept = kept

-- how much an item makes

both-most : (a b : Option ℕ) → IfSome a (λ n. n ≤ 256) → IfSome b (λ n. n ≤ 12288)
    → bits_of (both_set a b) ≤ 3145728
both-most None b x y = omega arith
both-most (Some s) None x y = omega arith
both-most (Some s) (Some c) x y = by (s == 0 || c == 0) where
  by : (b : Bool) → bits_of (cond b None (Some (record { size = s; count = c }))) ≤ 3145728
  by true = omega arith
  by false = let product : s * c ≤ 256 * 12288 = mul-le s c 256 12288 x y in omega (arith, product)

bits-most : (f : ItemState) → IsModest f → bits_of (extent f) ≤ 3145728
bits-most f m = both-most f.report_size f.report_count m.size m.count

count-most : (flags : Flags) (c : ℕ) → c ≤ 12288 → field_count flags c ≤ 12288
count-most flags c most = by flags.constant flags.variable where
  by : (a b : Bool) → cond a 1 (cond b c 1) ≤ 12288
  by true b = omega arith
  by false true = most
  by false false = omega arith

made-by : (o : Option (Direction × Flags)) (a b : Option ℕ) → IfSome b (λ n. n ≤ 12288)
    → fields_made o (both_set a b) ≤ 12288
made-by None a b y = none (both_set a b) where
  none : (e : Option Extent) → fields_made None e ≤ 12288
  none None = omega arith
  none (Some e) = omega arith
made-by (Some d) None b y = omega arith
made-by (Some d) (Some s) None y = omega arith
made-by (Some d) (Some s) (Some c) y = by (s == 0 || c == 0) where
  by : (b : Bool)
      → fields_made (Some d) (cond b None (Some (record { size = s; count = c }))) ≤ 12288
  by true = omega arith
  by false = count-most d.1 c y

made-most : (o : Option (Direction × Flags)) (f : ItemState) → IsModest f
    → fields_made o (extent f) ≤ 12288
made-most o f m = made-by o f.report_size f.report_count m.count

-- behind so many items a report has no more bits than these
abbrev pub EndsBy : ℕ → ReportRecord → Type 0
EndsBy k r = r.size ≤ 8 + k * 3145728

id-most : (id : Option ℕ) → id_bits id ≤ 8
id-most None = omega arith
id-most (Some n) = omega arith

ends-more : (k : ℕ) (rs : List ReportRecord) → Each (EndsBy k) rs → Each (EndsBy (k + 1)) rs
ends-more k rs ends = each-more (EndsBy k) (EndsBy (k + 1)) rs (λ r e. omega (arith, e)) ends

added-ends : (k : ℕ) (id : Option ℕ) (bits : ℕ) (fields : List FieldRecord) (rs : List ReportRecord)
    → bits ≤ 3145728 → Each (EndsBy k) rs → Each (EndsBy (k + 1)) (added_to id bits fields rs)
added-ends k id bits fields [] most ends =
    let own = id-most id in
    (omega (arith, own, most), tt)
added-ends k id bits fields (r ∷ rs) most ends =
    by (same_key r.id id) (added-ends k id bits fields rs most ends.1)
  where
    by : (b : Bool) → Each (EndsBy (k + 1)) (added_to id bits fields rs)
        → Each (EndsBy (k + 1))
        (cond b (record { id = r.id; size = r.size + bits; fields = r.fields ++ fields } ∷ rs)
        (r ∷ added_to id bits fields rs))
    by true later = let one = ends.0 in (omega (arith, one, most), ends-more k rs ends.1)
    by false later = let one = ends.0 in (omega (arith, one), later)

size-most : (k : ℕ) (id : Option ℕ) (rs : List ReportRecord) → Each (EndsBy k) rs
    → size_in id rs ≤ 8 + k * 3145728
size-most k id [] ends = let own = id-most id in omega (arith, own)
size-most k id (r ∷ rs) ends = by (same_key r.id id) (size-most k id rs ends.1) where
  by : (b : Bool) → size_in id rs ≤ 8 + k * 3145728
      → cond b r.size (size_in id rs) ≤ 8 + k * 3145728
  by true later = ends.0
  by false later = later

-- what is held behind so many items that hosts take
pub record Within (k : ℕ) (h : StateRecord) : Type 0 where
  pub now : IsModest h.item_state
  pub kept : Each IsModest h.stack
  pub fields : h.fields ≤ k * 12288
  pub collections : h.collections ≤ k
  pub ends : (d : Direction) → Each (EndsBy k) (reports_of d h.descriptor)

pub within-first : (options : ParseOptions) → options.usages ≡ usages_by.Hosts
    → Within 0 (first_state options)
within-first options hosts = record {
  now = record { size = tt; count = tt; hosts = hosts };
  kept = tt;
  fields = omega arith;
  collections = omega arith;
  ends = none;
}
  where
    none : (d : Direction) → Each (EndsBy 0) (reports_of d (first_state options).descriptor)
    none Input = tt
    none Output = tt
    none Feature = tt

next-ends : (b : Bool) (d : Direction) (k : ℕ) (h : StateRecord) (fields : List FieldRecord)
    → Within k h
    → Each (EndsBy (k + 1)) (cond b (added_to (key_in d h) (bits_of (extent h.item_state)) fields
    (reports_of d h.descriptor)) (reports_of d h.descriptor))
next-ends true d k h fields within = added-ends k (key_in d h) (bits_of (extent h.item_state)) fields
    (reports_of d h.descriptor) (bits-most h.item_state within.now) (within.ends d)
next-ends false d k h fields within = ends-more k (reports_of d h.descriptor) (within.ends d)

one-opened : (h : StateRecord) (o : Option CollectionItem) → length (new_collection h o) ≤ 1
one-opened h None = omega arith
one-opened h (Some kind) = omega arith

pub within-next : (k : ℕ) (h : StateRecord) (x : ItemType) → Within k h → is_moderate x ≡ true
    → Within (k + 1) (next_state h x)
within-next k h x within moderate =
    let made = made-most (data_of x) h.item_state within.now in
    let opens = one-opened h (collection_kind_of x) in
    let fields = within.fields in
    let collections = within.collections in
    record {
      now = modest-behind (is_pop x) h x within.now within.kept moderate;
      kept = stack-behind (is_pop x) (is_push x) h within.now within.kept;
      fields = omega (arith, made, fields);
      collections = omega (arith, opens, collections);
      ends = ends;
    }
  where
    ends : (d : Direction) → Each (EndsBy (k + 1)) (reports_of d (next_state h x).descriptor)
    ends Input = next-ends (adds Input h x) Input k h (fields_of h.item_state h.opened h.fields
        (start_in Input h) (data_of x) (extent h.item_state)) within
    ends Output = next-ends (adds Output h x) Output k h (fields_of h.item_state h.opened h.fields
        (start_in Output h) (data_of x) (extent h.item_state)) within
    ends Feature = next-ends (adds Feature h x) Feature k h (fields_of h.item_state h.opened h.fields
        (start_in Feature h) (data_of x) (extent h.item_state)) within

-- open Pushes and collections are counted

pub pushes-so : (h : StateRecord) (x : ItemType)
    → length (next_stack h x) ≡ pushes_behind (length h.stack) x
pushes-so h x = by (is_pop x) (is_push x) where
  by : (b c : Bool) → length (cond b (take (length h.stack - 1) h.stack)
      (cond c (h.stack ++ pushed_copy h.push_keeps h.item_state ∷ []) h.stack))
      ≡ cond b (length h.stack - 1) (cond c (length h.stack + 1) (length h.stack))
  by true c = simp length-take (omega arith)
  by false true = simp length-append (omega arith)
  by false false = refl

pub opened-so : (h : StateRecord) (x : ItemType)
    → length (next_opened h x) ≡ opened_behind (length h.opened) x
opened-so h x = by (is_end_collection x) (collection_kind_of x) where
  by : (b : Bool) (o : Option CollectionItem)
      → length (cond b (take (length h.opened - 1) h.opened) (h.opened ++ new_collection h o))
      ≡ cond b (length h.opened - 1) (cond (is_some o) (length h.opened + 1) (length h.opened))
  by true o = simp length-take (omega arith)
  by false None = simp length-append (omega arith)
  by false (Some kind) = simp length-append (omega arith)

-- no fault

pops-none : (n : ℕ) → nat_lt 0 n ≡ true → cond (n == 0) (Some TooManyPops) None ≡ None
pops-none n some =
    let more : 0 < n = ltb-true 0 n some in
    let not_none : (n == 0) ≡ false = ne_eqb n 0 (λ e. absurd (omega (arith, more, e))) in
    ap (λ b. cond b (Some TooManyPops) None) not_none

ends-none : (n : ℕ) → nat_lt 0 n ≡ true → cond (n == 0) (Some TooManyEnds) None ≡ None
ends-none n some =
    let more : 0 < n = ltb-true 0 n some in
    let not_none : (n == 0) ≡ false = ne_eqb n 0 (λ e. absurd (omega (arith, more, e))) in
    ap (λ b. cond b (Some TooManyEnds) None) not_none

-- usages as hosts find them have no fault
usages-found : (f : ItemState) → f.usages_by ≡ usages_by.Hosts
    → (us : UsageList) × (usages_of f ≡ Ok us)
usages-found f hosts = by f.usages_by hosts where
  by : (u : UsagesBy) → u ≡ usages_by.Hosts → (us : UsageList) × (usages_under u f ≡ Ok us)
  by usages_by.Hosts e = (_, refl)
  by usages_by.Standard e = cc

none-needed : (us : List Usage) → is_missing_usages (if_no_usages us) ≡ false → if_no_usages us ≡ None
none-needed [] missing = cc
none-needed (u ∷ us) missing = refl

needed-none : (r : Result UsageList MeaningFault) (us : UsageList) → r ≡ Ok us
    → is_missing_usages (needed_usages_fault r) ≡ false → needed_usages_fault r ≡ None
needed-none (Ok vs) us e missing = none-needed vs.usages missing
needed-none (Err fault) us e missing = cc

past-none : (a b : Bool) → a ≡ false → b ≡ false → limit_fault (a || b) ≡ None
past-none a b first second = ap limit_fault (or_from a b first second)

missing-first : (o : Option MeaningFault) (b : Bool)
    → is_missing_usages (first_of o (limit_fault b)) ≡ false → is_missing_usages o ≡ false
missing-first None b e = refl
missing-first (Some f) b e = e

data-none : (n : Counts) (f : ItemState) (flags : Flags) (o : Option Extent)
    → f.usages_by ≡ usages_by.Hosts
    → n.start + bits_of o ≤ last_end → n.fields + fields_made (Some (Input, flags)) o ≤ id_count
    → is_missing_usages (data_fault n f flags o) ≡ false → data_fault n f flags o ≡ None
data-none n f flags None hosts bits fields missing = refl
data-none n f flags (Some e) hosts bits fields missing = by flags.constant missing where
  ends : nat_lt last_end (n.start + e.size * e.count) ≡ false
  ends = le-ltb last_end (n.start + e.size * e.count) bits

  counts : nat_lt id_count (n.fields + field_count flags e.count) ≡ false
  counts = le-ltb id_count (n.fields + field_count flags e.count) fields

  past : limit_fault (nat_lt last_end (n.start + e.size * e.count)
      || nat_lt id_count (n.fields + field_count flags e.count)) ≡ None
  past = past-none (nat_lt last_end (n.start + e.size * e.count))
      (nat_lt id_count (n.fields + field_count flags e.count)) ends counts

  by : (b : Bool)
      → is_missing_usages (first_of (cond b None (needed_usages_fault (usages_of f)))
      (limit_fault (nat_lt last_end (n.start + e.size * e.count)
      || nat_lt id_count (n.fields + field_count flags e.count)))) ≡ false
      → first_of (cond b None (needed_usages_fault (usages_of f)))
      (limit_fault (nat_lt last_end (n.start + e.size * e.count)
      || nat_lt id_count (n.fields + field_count flags e.count))) ≡ None
  by true lacks = past
  by false lacks =
      let found = usages-found f hosts in
      let none = needed-none (usages_of f) found.0 found.1
      (missing-first (needed_usages_fault (usages_of f)) _ lacks) in
      ap (λ o. first_of o (limit_fault (nat_lt last_end (n.start + e.size * e.count)
      || nat_lt id_count (n.fields + field_count flags e.count)))) none ∙ past

-- a data item's
data-fits : (k : ℕ) (h : StateRecord) (d : Direction) (flags : Flags) (n : Counts) → Within k h
    → k ≤ 65536 → n.start ≡ start_in d h → n.fields ≡ h.fields
    → is_missing_usages (data_fault n h.item_state flags (extent h.item_state)) ≡ false
    → data_fault n h.item_state flags (extent h.item_state) ≡ None
data-fits k h d flags n within few start fields missing =
    let bits = bits-most h.item_state within.now in
    let made = made-most (Some (Input, flags)) h.item_state within.now in
    let end = size-most k (key_in d h) (reports_of d h.descriptor) (within.ends d) in
    let so_far = within.fields in
    let room : n.start + bits_of (extent h.item_state) ≤ last_end =
    omega (arith, bits, end, few, start) in
    let ids : n.fields + fields_made (Some (Input, flags)) (extent h.item_state) ≤ id_count =
    omega (arith, made, so_far, few, fields) in
    data-none n h.item_state flags (extent h.item_state) within.now.hosts room ids missing

pub no-fault : (k : ℕ) (h : StateRecord) (x : ItemType) → Within k h → k ≤ 65536
    → has_front (length h.stack) (length h.opened) x ≡ true
    → is_missing_usages (fault_in h x) ≡ false → fault_in h x ≡ None
no-fault k h (item.Global global.Pop) within few front missing =
    pops-none (length h.stack) (and_parts (nat_lt 0 (length h.stack)) true front).0
no-fault k h (item.Main main.EndCollection) within few front missing =
    ends-none (length h.opened) front
no-fault k h (item.Main (main.Collection kind)) within few front missing =
    let found = usages-found h.item_state within.now.hosts in
    let collections = within.collections in
    let room : h.collections < id_count = omega (arith, collections, few) in
    ap (λ r. first_of (usage_fault r) (limit_fault (nat_le id_count h.collections))) found.1
    ∙ ap limit_fault (lt-leb id_count h.collections room)
no-fault k h (item.Main (main.Input flags)) within few front missing =
    data-fits k h Input flags (counts_in h (item.Main (main.Input flags))) within few refl refl missing
no-fault k h (item.Main (main.Output flags)) within few front missing =
    data-fits k h Output flags (counts_in h (item.Main (main.Output flags))) within few refl refl
    missing
no-fault k h (item.Main (main.Feature flags)) within few front missing =
    data-fits k h Feature flags (counts_in h (item.Main (main.Feature flags))) within few refl refl
    missing
no-fault k h x within few front missing = refl
