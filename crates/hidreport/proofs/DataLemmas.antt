-- A data item: its fault, and what it makes.
use Rattle.std.proofs.Common.{◌≡◌, ◌≢◌, ℕ, suc, ◌+◌, ◌-◌, ◌*◌, ◌<◌, Bool, true, false, cond, List}
use Rattle.std.proofs.Common.{[], ◌∷◌, ◌++◌, length, take, Option, None, Some, Result, Ok, refl}
use Rattle.std.proofs.Common.{sym, ap, ◌∙◌, add-zero, append-nil, arith}
use Rattle.std.specs.Prelude.{◌==◌}
use Rattle.std.proofs.Math.Seq.{take-append_seam}
use Rattle.std.proofs.lemmas.Bool.Decides.{nat_tests}
use Rattle.std.proofs.lemmas.Grind.{common_steps}
use Rattle.hidreport_items.specs.declared.global.GlobalItem.{GlobalItem}
use Rattle.hidreport_items.specs.declared.global.GlobalItem.TheVariants as global
use Rattle.hidreport_items.specs.declared.item.ItemType.TheVariants as item
use Rattle.hidreport_items.specs.Flags.{Flags}
use Rattle.hidreport.specs.Kinds.{Direction, Input, Output, Feature}
use Rattle.hidreport.specs.MeaningFault.{MeaningFault, TooManyPops}
use Rattle.hidreport_fields.specs.DataItem.{item_with}
use Rattle.hidreport.specs.Fields.{attributes, list_or_none}
use Rattle.hidreport.specs.Groups.{GroupRecord, GroupedReport, OutlineRecord, carried, group_made}
use Rattle.hidreport.specs.Groups.{listed, named_of, taken_of}
use Rattle.hidreport_fields.specs.ItemParts.{field_count}
use Rattle.hidreport.specs.ItemState.{ItemState, first_of}
use Rattle.hidreport.specs.Parser.Machine.{StateRecord, after_pop, pushed_copy, step, unless_fault}
use Rattle.hidreport.specs.Parser.Machine.{last_item_state, next_item_state, next_state, key_in}
use Rattle.hidreport.specs.Parser.Machine.{start_in}
use Rattle.hidreport_fields.specs.Lookup.{reports_of}
use Rattle.hidreport.specs.Parser.Machine.{size_in, first_id, added_to, with_reports}
use Rattle.hidreport.specs.Making.{extent}
use Rattle.hidreport_fields.specs.Records.{CollectionRecord, DescriptorRecord}
use Rattle.hidreport.specs.Parser.Usages.{HasUsages, usage_list}
use Rattle.hidreport.specs.Usages.{UsageList, usages_of}
use Rattle.hidreport.specs.declared.parser.paged_local.PagedLocal.{PagedLocal}
use Rattle.hidreport.specs.declared.parser.usages.Usages.{Usages}
use Rattle.hidreport.specs.declared.parser.extent.Extent.{Extent}
use Rattle.hidreport.proofs.ListedLemmas.{state-listed}

made-outline : (h : StateRecord) (d : Direction) (flags : Flags) (e : Extent)
    → extent h.item_state ≡ Some e
    → (next_state h (item_with d flags)).outline
    ≡ with_reports d (added_to (key_in d h) (e.size * e.count)
    (group_made h.item_state h.opened h.fields (start_in d h) d flags e ∷ [])
    (reports_of d h.outline)) h.outline
made-outline h Input flags e made = rw made refl
made-outline h Output flags e made = rw made refl
made-outline h Feature flags e made = rw made refl

-- padding has neither usages nor collections
named-by : (b : Bool) (h : StateRecord) (flags : Flags) (us : Usages) → flags.constant ≡ b
    → HasUsages flags h.item_state us
    → named_of flags (usage_list us) ≡ named_of flags (list_or_none (usages_of h.item_state))
named-by true h flags us constant has = rw constant refl
named-by false h flags us constant has =
    sym (ap (λ (l : UsageList). named_of flags l) (ap list_or_none (has constant).0))

taken-by : (b : Bool) (h : StateRecord) (flags : Flags) (count : ℕ) (us : Usages)
    → flags.constant ≡ b → HasUsages flags h.item_state us
    → taken_of flags count (usage_list us)
    ≡ taken_of flags count (list_or_none (usages_of h.item_state))
taken-by true h flags count us constant has = rw constant refl
taken-by false h flags count us constant has =
    sym (ap (λ (l : UsageList). taken_of flags count l) (ap list_or_none (has constant).0))

carried-by : (b : Bool) (h : StateRecord) (flags : Flags) (cs : List CollectionRecord)
    → flags.constant ≡ b → (flags.constant ≡ false → cs ≡ h.opened)
    → (flags.constant ≡ true → cs ≡ []) → cs ≡ carried flags h.opened
carried-by true h flags cs constant around none = none constant ∙ rw constant refl
carried-by false h flags cs constant around none = around constant ∙ rw constant refl

-- the group of an item of a direction with these flags, from what is in force
abbrev pub group_with : ItemState → ℕ → ℕ → Extent → Flags → ℕ → UsageList → Direction
    → List CollectionRecord → GroupRecord
group_with g number first e flags named us d cs = record {
  beginning = record { report_id = g.report_id; number = number; first = first };
  extent = e;
  flags = flags;
  named = named;
  usages = us;
  shared = attributes g cs d flags;
}

group-is : (h : StateRecord) (g : ItemState) (d : Direction) (flags : Flags)
    (cs : List CollectionRecord) (e : Extent) (us : Usages) (first : ℕ)
    → g ≡ h.item_state → (flags.constant ≡ false → cs ≡ h.opened)
    → (flags.constant ≡ true → cs ≡ []) → HasUsages flags h.item_state us
    → first ≡ start_in d h
    → group_with g h.fields first e flags (named_of flags (usage_list us))
    (taken_of flags e.count (usage_list us)) d cs
    ≡ group_made h.item_state h.opened h.fields (start_in d h) d flags e
group-is h g d flags cs e us first same around none has begins =
    let named = named_of flags (usage_list us) in
    let taken = taken_of flags e.count (usage_list us) in
    let all = list_or_none (usages_of h.item_state) in
    ap (λ (f : ItemState). group_with f h.fields first e flags named taken d cs) same
    ∙ ap (λ n. group_with h.item_state h.fields n e flags named taken d cs) begins
    ∙ ap (λ n. group_with h.item_state h.fields (start_in d h) e flags n taken d cs)
    (named-by flags.constant h flags us refl has)
    ∙ ap (λ l. group_with h.item_state h.fields (start_in d h) e flags (named_of flags all) l d cs)
    (taken-by flags.constant h flags e.count us refl has)
    ∙ ap (λ l. group_with h.item_state h.fields (start_in d h) e flags (named_of flags all)
    (taken_of flags e.count all) d l)
    (carried-by flags.constant h flags cs refl around none)

-- as many fields are numbered behind it
pub fields-made : (h : StateRecord) (d : Direction) (flags : Flags) (e : Extent)
    → extent h.item_state ≡ Some e
    → (next_state h (item_with d flags)).fields ≡ h.fields + field_count flags e.count
fields-made h Input flags e made = rw made refl
fields-made h Output flags e made = rw made refl
fields-made h Feature flags e made = rw made refl

-- what is held behind a data item, from what the parser made of it; `g` is what it found in force
pub data-held : (h : StateRecord) (g : ItemState) (d : Direction) (flags : Flags)
    (cs : List CollectionRecord)
    (e : Extent) (us : Usages) (key : Option ℕ) (first bits : ℕ) (rs : OutlineRecord) (n : ℕ)
    → h.descriptor ≡ listed h.outline
    → g ≡ h.item_state → (flags.constant ≡ false → cs ≡ h.opened)
    → (flags.constant ≡ true → cs ≡ []) → extent g ≡ Some e
    → HasUsages flags h.item_state us
    → key ≡ first_of g.report_id (first_id (reports_of d h.descriptor))
    → first ≡ size_in key (reports_of d h.descriptor) → bits ≡ e.size * e.count
    → rs ≡ with_reports d (added_to key bits
    (group_with g h.fields first e flags (named_of flags (usage_list us))
    (taken_of flags e.count (usage_list us)) d cs ∷ [])
    (reports_of d h.outline)) h.outline
    → n ≡ field_count flags e.count
    → record h { descriptor = listed rs; outline = rs; fields = h.fields + n } ≡ record h {
      descriptor = (next_state h (item_with d flags)).descriptor;
      outline = (next_state h (item_with d flags)).outline;
      fields = (next_state h (item_with d flags)).fields;
    }
data-held h g d flags cs e us key first bits rs n laid same around none made has key_is
    first_is bits_are rs_are n_is =
    let x = item_with d flags in
    let old = reports_of d h.outline in
    let made_now : extent h.item_state ≡ Some e = ap extent (sym same) ∙ made in
    let key_now : key ≡ key_in d h = key_is
    ∙ ap (λ (f : ItemState). first_of f.report_id (first_id (reports_of d h.descriptor))) same in
    let begins : first ≡ start_in d h =
    first_is ∙ ap (λ k. size_in k (reports_of d h.descriptor)) key_now in
    let group = group-is h g d flags cs e us first same around none has begins in
    let outline : rs ≡ (next_state h x).outline = rs_are
    ∙ ap (λ (rs : List GroupedReport). with_reports d rs h.outline)
    (ap (λ (y : GroupRecord). added_to key bits (y ∷ []) old) group
    ∙ ap (λ n. added_to key n (group_made h.item_state h.opened h.fields (start_in d h) d flags e
    ∷ []) old) bits_are
    ∙ ap (λ k. added_to k (e.size * e.count)
    (group_made h.item_state h.opened h.fields (start_in d h) d flags e ∷ []) old) key_now)
    ∙ sym (made-outline h d flags e made_now) in
    ap (λ (o : OutlineRecord). record h { descriptor = listed o; outline = o; fields = h.fields + n })
    outline
    ∙ ap (λ (r : DescriptorRecord). record h {
      descriptor = r;
      outline = (next_state h x).outline;
      fields = h.fields + n;
    }) (sym (state-listed h x laid))
    ∙ ap (λ (m : ℕ). record h {
      descriptor = (next_state h x).descriptor;
      outline = (next_state h x).outline;
      fields = m;
    })
    (ap (λ (m : ℕ). h.fields + m) n_is ∙ sym (fields-made h d flags e made_now))

abbrev pub held_result : StateRecord → Result StateRecord MeaningFault
held_result h = Ok h

-- what is held, by its parts
abbrev held_by : StateRecord → ItemState → List ItemState → ℕ → List CollectionRecord → ℕ
    → StateRecord
held_by h f stack fields opened collections = record {
  push_keeps = h.push_keeps;
  item_state = f;
  stack = stack;
  descriptor = h.descriptor;
  outline = h.outline;
  fields = fields;
  opened = opened;
  collections = collections;
}

-- what is held behind an item that makes nothing and has no fault
pub quiet : (h : StateRecord) (f : ItemState) (stack : List ItemState)
    → held_result (held_by h f stack (h.fields + 0) (h.opened ++ []) (h.collections + 0))
    ≡ held_result (record h { item_state = f; stack = stack })
quiet h f stack =
    ap (λ n. held_result (held_by h f stack n (h.opened ++ []) (h.collections + 0)))
    (add-zero h.fields)
    ∙ ap (λ l. held_result (held_by h f stack h.fields l (h.collections + 0)))
    (append-nil h.opened)
    ∙ ap (λ n. held_result (held_by h f stack h.fields h.opened n)) (add-zero h.collections)

pub step-global : (h : StateRecord) (g : GlobalItem) → g ≢ global.Push → g ≢ global.Pop
    → step h (item.Global g) ≡ Ok (record h {
      item_state = record (next_item_state h.item_state
          (item.Global g)) { locals = h.item_state.locals ++ [] };
    })
step-global h global.Push a b = absurd (a refl)
step-global h global.Pop a b = absurd (b refl)
step-global h g a b = quiet h (next_item_state h.item_state (item.Global g)) h.stack

same-item_state : (f : ItemState) (locals : List PagedLocal) → locals ≡ f.locals
    → record f { locals = locals } ≡ f
same-item_state f locals e = ap (λ l. record f { locals = l }) e

-- a Push keeps what is in force
pub step-push : (h : StateRecord)
    → step h (item.Global global.Push) ≡ Ok
    (record h { stack = h.stack ++ pushed_copy h.push_keeps h.item_state ∷ [] })
step-push h =
    quiet h (next_item_state h.item_state (item.Global global.Push))
    (h.stack ++ pushed_copy h.push_keeps h.item_state ∷ [])
    ∙ ap (λ (f : ItemState). held_result
    (record h { item_state = f; stack = h.stack ++ pushed_copy h.push_keeps h.item_state ∷ [] }))
    (same-item_state h.item_state (h.item_state.locals ++ []) (append-nil h.item_state.locals))

pops-by : (b : Bool) (h : StateRecord) → (length h.stack == 0) ≡ b → 0 < length h.stack
    → unless_fault (cond (length h.stack == 0) (Some TooManyPops) None)
    (next_state h (item.Global global.Pop)) ≡ held_result (next_state h (item.Global global.Pop))
pops-by true h e some = absurd
    (let none : length h.stack ≡ 0 = grind (arith, nat_tests) in omega (arith, none, some))
pops-by false h e some = ap (λ b. unless_fault (cond b (Some TooManyPops) None)
    (next_state h (item.Global global.Pop))) e

-- a Pop brings it back
pub step-pop : (h : StateRecord) → 0 < length h.stack
    → step h (item.Global global.Pop) ≡ Ok
    (record h {
      item_state = after_pop h.push_keeps h.item_state (last_item_state h.item_state h.stack);
      stack = take (length h.stack - 1) h.stack;
    })
step-pop h some =
    pops-by (length h.stack == 0) h refl some
    ∙ quiet h (after_pop h.push_keeps h.item_state (last_item_state h.item_state h.stack))
    (take (length h.stack - 1) h.stack)

-- the last of a list
pub last_item_state-end : (f g : ItemState) (gs : List ItemState)
    → last_item_state f (gs ++ g ∷ []) ≡ g
last_item_state-end f g [] = refl
last_item_state-end f g (h ∷ hs) = last_item_state-end h g hs

-- all but the last of a list
pub all-but-last : (g : ItemState) (gs : List ItemState)
    → take (length (gs ++ g ∷ []) - 1) (gs ++ g ∷ []) ≡ gs
all-but-last g gs =
    let size : length (gs ++ g ∷ []) ≡ suc (length gs) = grind (arith, common_steps) in
    ap (λ n. take n (gs ++ g ∷ []))
    (let e : length (gs ++ g ∷ []) - 1 ≡ length gs = omega (arith, size) in e)
    ∙ take-append_seam gs (g ∷ [])
