-- Groups of fields: the usages that they take, and the field at a place in one.
use Rattle.std.proofs.Common.{◌≡◌, ◌∙◌, ◌+◌, ◌<◌, ◌≤◌, ℕ, zero, suc, Bool, true, false, List, [], ◌∷◌}
use Rattle.std.proofs.Common.{None, Some, ap, arith, inl, inr, length, min, refl, slice_get}
use Rattle.std.proofs.Common.{subst, sym, take}
use Rattle.std.specs.Prelude.{if◌then◌else◌}
use Rattle.std.proofs.Math.Seq.{take-nil}
use Rattle.hidreport_items.specs.Flags.{Flags}
use Rattle.hidreport.specs.Fields.{Beginning, each_from, make_fields, usage_at}
use Rattle.hidreport_fields.specs.ItemParts.{field_count}
use Rattle.hidreport.specs.Groups.{taken_of}
use Rattle.hidreport.specs.Parser.Groups.{HasFirst}
use Rattle.hidreport.specs.Parser.Layout.{IsPossible, beginning_of, extent_of, laid_out, place_at}
use Rattle.hidreport.specs.Parser.Layout.{shared_list, shared_of, variable_of, variable_with}
use Rattle.hidreport_fields.specs.ItemParts.{attributes_with}
use Rattle.hidreport_fields.specs.Records.{Attributes, CollectionRecord, FieldPlace, FieldRecord}
use Rattle.hidreport_fields.specs.Records.{VariableRecord}
use Rattle.hidreport.specs.Usages.{UsageList}
use Rattle.hidreport_fields.specs.declared.field.usage.Usage.{Usage}
use Rattle.hidreport.specs.declared.parser.extent.Extent.{Extent}
use Rattle.hidreport.specs.declared.parser.layout.Layout.{Layout}
use Rattle.hidreport.proofs.HostUsageLemmas.{listed, some-first}
use Rattle.hidreport.proofs.ListedLemmas.{fields-taken}

-- a field that is made of its place, its usage, and what the fields of its item share
pub made-variable : (l : Layout) (u : Usage) (c : ℕ) (f : FieldRecord) (p : FieldPlace)
    (cs : List CollectionRecord)
    → f ≡ VariableRecord p u (attributes_with l.item.direction l.item.flags l.measures cs)
    → p ≡ place_at l c → cs ≡ shared_list l.collections → f ≡ variable_with l u c
made-variable l u c f p cs made at around =
    let with = attributes_with l.item.direction l.item.flags l.measures in
    made ∙ ap (λ (q : FieldPlace). VariableRecord q u (with cs)) at
    ∙ ap (λ (ds : List CollectionRecord). VariableRecord (place_at l c) u (with ds)) around

each-get : {A : Type 0} (f : ℕ → A) (c n k : ℕ) → k < n
    → slice_get (each_from f c n) k ≡ Some (f (c + k))
each-get f c zero k lt = absurd (omega arith)
each-get f c (suc n) zero lt = ap (λ j. Some (f j)) (let e : c ≡ c + 0 = omega arith in e)
each-get f c (suc n) (suc k) lt = each-get f (c + 1) n k (omega arith)
    ∙ ap (λ j. Some (f j)) (let e : c + 1 + k ≡ c + suc k = omega arith in e)

each-past : {A : Type 0} (f : ℕ → A) (c n k : ℕ) → n ≤ k → slice_get (each_from f c n) k ≡ None
each-past f c zero k le = refl
each-past f c (suc n) zero le = absurd (omega arith)
each-past f c (suc n) (suc k) le = each-past f (c + 1) n k (omega arith)

past-by : (constant variable : Bool) (x y : FieldRecord) (several : List FieldRecord) (n k : ℕ)
    → (n ≤ k → slice_get several k ≡ None)
    → (if constant then 1 else (if variable then n else 1)) ≤ k
    → slice_get (if constant then x ∷ [] else (if variable then several else y ∷ [])) k ≡ None
past-by true variable x y several n zero rest le = absurd (omega arith)
past-by true variable x y several n (suc k) rest le = refl
past-by false true x y several n k rest le = rest le
past-by false false x y several n zero rest le = absurd (omega arith)
past-by false false x y several n (suc k) rest le = refl

-- an item makes no more fields than it counts
pub fields-past : (b : Beginning) (e : Extent) (flags : Flags) (us : UsageList)
    (shared : Attributes) (k : ℕ) → field_count flags e.count ≤ k
    → slice_get (make_fields b e flags us shared) k ≡ None
fields-past b e flags us shared k le = past-by flags.constant flags.variable _ _ _ e.count k
    (each-past _ 0 e.count k) le

get-by : (constant variable : Bool) (x y : FieldRecord) (several : List FieldRecord) (k : ℕ)
    (z : FieldRecord) → constant ≡ false → variable ≡ true → slice_get several k ≡ Some z
    → slice_get (if constant then x ∷ [] else (if variable then several else y ∷ [])) k ≡ Some z
get-by constant variable x y several k z filled multiple is =
    ap (λ (b : Bool). slice_get (if b then x ∷ []
    else (if variable then several else y ∷ [])) k) filled
    ∙ ap (λ (b : Bool). slice_get (if b then several else y ∷ []) k) multiple
    ∙ is

-- the field at a place of a variable item
pub variable-at : (l : Layout) (us : UsageList) (k : ℕ) → l.item.flags.constant ≡ false
    → l.item.flags.variable ≡ true → k < l.count
    → slice_get (laid_out l us) k ≡ Some (variable_of l us k)
variable-at l us k filled multiple lt =
    get-by l.item.flags.constant l.item.flags.variable _ _ (each_from (variable_of l us) 0 l.count) k
    (variable_of l us k) filled multiple (each-get (variable_of l us) 0 l.count k lt
    ∙ ap (λ j. Some (variable_of l us j)) (let e : 0 + k ≡ k = omega arith in e))

-- the fields take the same usages of the first that are taken
pub taken-laid : (l : Layout) (us : UsageList)
    → laid_out l (taken_of l.item.flags l.count us) ≡ laid_out l us
taken-laid l us = fields-taken l.item.flags.constant l.item.flags.variable (beginning_of l)
    (extent_of l) l.item.flags us (shared_of l) refl refl

take-front : {A : Type 0} (count n : ℕ) (xs : List A) → count ≤ n → take count (take n xs) ≡ take count xs
take-front zero n xs le = refl
take-front (suc count) zero xs le = absurd (omega (arith, le))
take-front (suc count) (suc n) [] le = refl
take-front (suc count) (suc n) (x ∷ xs) le =
    ap (λ l. x ∷ l) (take-front count n xs (omega (arith, le)))

-- a variable item takes the same of the first usages, where there are as many as its elements
pub first-taken : (flags : Flags) (count n : ℕ) (own us : UsageList) → flags.constant ≡ false
    → flags.variable ≡ true → count ≤ n → HasFirst n own us
    → taken_of flags count own ≡ taken_of flags count us
first-taken flags count n own us filled multiple le (inl same) = ap (taken_of flags count) same
first-taken flags count n own us filled multiple le (inr first) =
    rw (filled, multiple) (ap (λ (l : List Usage). listed l)
    (ap (take count) first ∙ take-front count n us.usages le))

-- the usage of a variable item's field, of those that are taken

pub at-taken : (us : List Usage) (n c : ℕ) → usage_at us (min c n) ≡ usage_at (take (suc n) us) c
at-taken [] n c = refl
at-taken (u ∷ []) n c = sym (ap (λ l. usage_at (u ∷ l) c) (take-nil n))
at-taken (u ∷ v ∷ us) zero c =
    ap (usage_at (u ∷ v ∷ us)) (let e : min c 0 ≡ 0 = omega arith in e) ∙ behind c
  where
    behind : (c : ℕ) → u ≡ usage_at (u ∷ []) c
    behind c = refl
at-taken (u ∷ v ∷ us) (suc n) zero =
    ap (usage_at (u ∷ v ∷ us)) (let e : min 0 (suc n) ≡ 0 = omega arith in e)
at-taken (u ∷ v ∷ us) (suc n) (suc c) =
    ap (usage_at (u ∷ v ∷ us)) (let e : min (suc c) (suc n) ≡ suc (min c n) = omega arith in e)
    ∙ at-taken (v ∷ us) n c

pub first-possible : (l : Layout) (own us : UsageList) (n : ℕ) → 0 < n → HasFirst n own us
    → IsPossible l us → IsPossible l own
first-possible l own us n pos (inl same) possible = subst (IsPossible l) (sym same) possible
first-possible l own us n pos (inr first) possible = record {
  ids = possible.ids;
  bits = possible.bits;
  count = possible.count;
  usages = λ filled. subst (λ (vs : List Usage). 0 < length vs) (sym first)
      (some-first n us.usages pos (possible.usages filled));
}
