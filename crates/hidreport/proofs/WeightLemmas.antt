-- What the fields of a data item weigh, from the numbers in force.
use Rattle.std.proofs.Common.{◌≡◌, ◌≤◌, ◌<◌, ◌^◌, ◌||◌, ℕ, zero, suc, ◌+◌, ◌*◌, ◌-◌, Bool, true}
use Rattle.std.proofs.Common.{false, length, Option, None, Some, refl, sym, ap, ◌∙◌, subst, zero-add, arith}
use Rattle.std.specs.Prelude.{nat_lt, sum_by}
use Rattle.std.proofs.Math.Nat.{suc-mul}
use Rattle.std.proofs.lemmas.Bool.Decides.{nat_tests}
use Rattle.std.proofs.lemmas.List.Sums.{sum_by-cons}
use Rattle.hidreport_items.specs.Flags.{Flags}
use Rattle.hidreport.specs.Faults.{Counts, data_fault, id_count, last_end, limit_fault}
use Rattle.hidreport.specs.Fields.{attributes, each_from, fields_of, list_or_none}
use Rattle.hidreport_fields.specs.ItemParts.{field_count}
use Rattle.hidreport.specs.Fields.{Beginning, beginning_at, make_fields, make_place, usage_at}
use Rattle.hidreport.specs.ItemState.{ItemState, first_of}
use Rattle.hidreport.specs.Kinds.{Direction, Input, Output, Feature}
use Rattle.hidreport.specs.Making.{extent}
use Rattle.hidreport.specs.MeaningFault.{BudgetExceeded}
use Rattle.hidreport.specs.Parser.Budget.{is_past, left_behind, past_fault, stop_in, weight_in}
use Rattle.hidreport.specs.Parser.Budget.{weight_of_each}
use Rattle.hidreport_fields.specs.DataItem.{item_with}
use Rattle.hidreport.specs.Parser.Machine.{StateRecord, counts_in, fault_in, first_id, key_in}
use Rattle.hidreport_fields.specs.Lookup.{reports_of}
use Rattle.hidreport.specs.Parser.Machine.{size_in, start_in}
use Rattle.hidreport.specs.Parser.Usages.{HasUsages, usage_list, usages_fault}
use Rattle.hidreport_fields.specs.Records.{Attributes, FieldRecord, VariableRecord}
use Rattle.hidreport.specs.Usages.{UsageList, usages_of}
use Rattle.hidreport.specs.Weight.{collection_weight, field_weight}
use Rattle.hidreport.specs.declared.parser.usages.Usages.{Usages}
use Rattle.hidreport.specs.declared.parser.extent.Extent.{Extent}

-- so many fields of one weight
each-weight : (f : ℕ → FieldRecord) (w : ℕ) → ((c : ℕ) → field_weight (f c) ≡ w) → (c n : ℕ)
    → sum_by field_weight (each_from f c n) ≡ n * w
each-weight f w one c zero = let e : 0 ≡ 0 * w = omega arith in e
each-weight f w one c (suc n) =
    let here = one c in
    let rest = each-weight f w one (c + 1) n in
    let all : sum_by field_weight (each_from f c (suc n)) ≡ field_weight (f c) + sum_by field_weight
    (each_from f (c + 1) n) =
    sum_by-cons field_weight (f c) (each_from f (c + 1) n) in
    let product : suc n * w ≡ n * w + w = suc-mul n w in
    omega (arith, all, here, rest, product)

-- the fields of an item that makes some
made-by : (constant variable : Bool) (b : Beginning) (e : Extent)
    (flags : Flags) (us : UsageList) (shared : Attributes) → flags.constant ≡ constant
    → flags.variable ≡ variable
    → sum_by field_weight (make_fields b e flags us shared) ≡ field_count flags e.count
    * weight_of_each flags (length us.usages) (sum_by collection_weight shared.collections)
made-by true variable b e flags us shared c v = rw c refl
made-by false true b e flags us shared c v =
    rw (c, v) (each-weight (λ n. VariableRecord
    (make_place (beginning_at b e n) e.size) (usage_at us.usages n) shared)
    (1 + sum_by collection_weight shared.collections) (λ n. refl) 0 e.count)
made-by false false b e flags us shared c v = rw (c, v) (omega arith)

-- padding has no usages to weigh
usages-by : (constant : Bool) (flags : Flags) (f : ItemState) (us : Usages) (count around : ℕ)
    → flags.constant ≡ constant → HasUsages flags f us
    → field_count flags count * weight_of_each flags (length (list_or_none (usages_of f)).usages)
    around ≡ field_count flags count * weight_of_each flags (length (usage_list us).usages)
    around
usages-by true flags f us count around c has = rw c refl
usages-by false flags f us count around c has =
    ap (λ (l : UsageList). field_count flags count * weight_of_each flags (length l.usages) around)
    (ap list_or_none (has c).0)

weight-with : (h : StateRecord) (d : Direction) (flags : Flags)
    → weight_in h (item_with d flags) ≡ sum_by field_weight
    (fields_of h.item_state h.opened h.fields (start_in d h) (Some (d, flags))
    (extent h.item_state))
weight-with h Input flags = zero-add _
weight-with h Output flags = zero-add _
weight-with h Feature flags = zero-add _

-- the weight of a data item, from what the parser finds
pub data-weight : (h : StateRecord) (g : ItemState) (d : Direction) (flags : Flags) (e : Extent)
    (us : Usages) → g ≡ h.item_state → extent g ≡ Some e
    → HasUsages flags h.item_state us
    → weight_in h (item_with d flags) ≡ field_count flags e.count * weight_of_each flags
    (length (usage_list us).usages) (sum_by collection_weight h.opened)
data-weight h g d flags e us same made has =
    weight-with h d flags
    ∙ ap (λ o. sum_by field_weight
    (fields_of h.item_state h.opened h.fields (start_in d h) (Some (d, flags)) o))
    (ap extent (sym same) ∙ made)
    ∙ made-by flags.constant flags.variable
    (record { report_id = h.item_state.report_id; number = h.fields; first = start_in d h })
    e
    flags (list_or_none (usages_of h.item_state))
    (attributes h.item_state h.opened d flags) refl refl
    ∙ usages-by flags.constant flags h.item_state us e.count
    (sum_by collection_weight h.opened) refl has

-- the same, from its numbers one by one
pub data-weighs : (h now : StateRecord) (g : ItemState) (d : Direction) (flags : Flags)
    (e : Extent)
    (us : Usages) (n w around : ℕ) → h ≡ now → g ≡ h.item_state
    → extent g ≡ Some e
    → HasUsages flags h.item_state us
    → n ≡ field_count flags e.count → w ≡ weight_of_each flags
    (length (usage_list us).usages) around
    → around ≡ sum_by collection_weight h.opened
    → weight_in now (item_with d flags) ≡ n * w
data-weighs h now g d flags e us n w around view same made has n_is w_is around_is =
    subst (λ (z : StateRecord). weight_in z (item_with d flags) ≡ n * w) view
    (data-weight h g d flags e us same made has
    ∙ ap (λ m. field_count flags e.count * m)
    (sym (w_is ∙ ap (weight_of_each flags (length (usage_list us).usages)) around_is))
    ∙ ap (λ m. m * w) (sym n_is))

-- a data item has no fault where it has the usages that it needs, and its bits and its fields'
-- numbers can be counted
within-limits : (start bits fields n : ℕ) → start + bits < 2 ^ 64 → fields + n ≤ 2 ^ 32
    → limit_fault (nat_lt last_end (start + bits) || nat_lt id_count (fields + n)) ≡ None
within-limits start bits fields n fits ids =
    let near : nat_lt last_end (start + bits) ≡ false = grind (arith, nat_tests) in
    let few : nat_lt id_count (fields + n) ≡ false = grind (arith, nat_tests) in
    ap (λ b. limit_fault (b || nat_lt id_count (fields + n))) near ∙ ap limit_fault few

counted-faultless : (n : Counts) (f : ItemState) (flags : Flags) (e : Extent)
    → extent f ≡ Some e → usages_fault flags f ≡ None → n.start + e.size * e.count < 2 ^ 64
    → n.fields + field_count flags e.count ≤ 2 ^ 32 → data_fault n f flags (extent f) ≡ None
counted-faultless n f flags e made usable fits ids =
    ap (data_fault n f flags) made
    ∙ ap (λ o. first_of o (limit_fault (nat_lt last_end (n.start + e.size * e.count)
    || nat_lt id_count (n.fields + field_count flags e.count)))) usable
    ∙ within-limits n.start (e.size * e.count) n.fields (field_count flags e.count) fits ids

faultless : (h : StateRecord) (d : Direction) (flags : Flags) (e : Extent)
    → extent h.item_state ≡ Some e → usages_fault flags h.item_state ≡ None
    → start_in d h + e.size * e.count < 2 ^ 64 → h.fields + field_count flags e.count ≤ 2 ^ 32
    → fault_in h (item_with d flags) ≡ None
faultless h Input flags e =
    counted-faultless (counts_in h (item_with Input flags)) h.item_state flags e
faultless h Output flags e =
    counted-faultless (counts_in h (item_with Output flags)) h.item_state flags e
faultless h Feature flags e =
    counted-faultless (counts_in h (item_with Feature flags)) h.item_state flags e

pub data-faultless : (h now : StateRecord) (g : ItemState) (d : Direction) (flags : Flags)
    (e : Extent) (key : Option ℕ) (first n : ℕ) → h ≡ now → g ≡ h.item_state
    → extent g ≡ Some e → usages_fault flags h.item_state ≡ None
    → key ≡ first_of g.report_id (first_id (reports_of d h.descriptor))
    → first ≡ size_in key (reports_of d h.descriptor) → first + e.size * e.count < 2 ^ 64
    → n ≡ field_count flags e.count → h.fields + n ≤ 2 ^ 32
    → fault_in now (item_with d flags) ≡ None
data-faultless h now g d flags e key first n view same made usable key_is first_is fits n_is ids =
    let key_now : key ≡ key_in d h = key_is
    ∙ ap (λ (f : ItemState). first_of f.report_id (first_id (reports_of d h.descriptor))) same in
    let first_now : first ≡ start_in d h =
    first_is ∙ ap (λ k. size_in k (reports_of d h.descriptor)) key_now in
    subst (λ (z : StateRecord). fault_in z (item_with d flags) ≡ None) view
    (faultless h d flags e (ap extent (sym same) ∙ made) usable
    (subst (λ k. k + e.size * e.count < 2 ^ 64) first_now fits)
    (subst (λ k. h.fields + k ≤ 2 ^ 32) n_is ids))

-- nothing weighs nothing
pub nothing-past : (left : Option ℕ) → is_past left 0 ≡ false
nothing-past None = refl
nothing-past (Some n) = let e : nat_lt n 0 ≡ false = grind (arith, nat_tests) in e

pub nothing-spent : (left : Option ℕ) → left_behind left 0 ≡ left
nothing-spent None = refl
nothing-spent (Some n) = ap (λ m. Some m) (let e : n - 0 ≡ n = omega arith in e)

-- an item without a fault that is past what is left
pub stop-past : (left : Option ℕ) (h : StateRecord) (d : Direction) (flags : Flags) (w : ℕ)
    → fault_in h (item_with d flags) ≡ None → weight_in h (item_with d flags) ≡ w
    → is_past left w ≡ true
    → stop_in left h (item_with d flags) ≡ Some BudgetExceeded
stop-past left h d flags w faultless weighs past =
    ap (λ o. first_of o (past_fault (is_past left (weight_in h (item_with d flags))))) faultless
    ∙ ap (λ n. past_fault (is_past left n)) weighs ∙ ap past_fault past
