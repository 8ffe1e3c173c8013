-- The walk keeps reports tiled, ids apart and collections listed, whatever a Pop brings back.
use Rattle.std.proofs.Common.{◌≡◌, ◌≢◌, ℕ, zero, suc, ◌+◌, ◌-◌, ◌*◌, ◌<◌, ◌≤◌, ◌⊎◌, inl, inr, Bool}
use Rattle.std.proofs.Common.{true, false, cond, List, [], ◌∷◌, ◌++◌, take, drop, count_by, Option}
use Rattle.std.proofs.Common.{Result, Ok, Err, None, Some, refl, sym, ap, ◌∙◌, subst, append-nil}
use Rattle.std.proofs.Common.{arith}
use Rattle.std.specs.Prelude.{◌==◌, ◌||◌, ◌/◌}
use Rattle.std.proofs.Math.Nat.{add-mul, mul-div_cancel}
use Rattle.std.proofs.lemmas.Grind.{common_steps}
use Rattle.std.proofs.lemmas.Bool.Decides.{nat_tests}
use Rattle.hidreport_items.specs.Flags.{Flags}
use Rattle.hidreport.specs.Fields.{Beginning, beginning_at, each_from, list_or_none}
use Rattle.hidreport_fields.specs.ItemParts.{field_count}
use Rattle.hidreport.specs.Fields.{make_fields, make_place}
use Rattle.hidreport.specs.Fields.{usage_at, variable_fields}
use Rattle.hidreport.specs.ItemState.{ItemState, first_of, local_items}
use Rattle.hidreport.specs.Making.{both_set, extent}
use Rattle.hidreport_fields.specs.ReportIds.{same_key}
use Rattle.hidreport.specs.Parser.Machine.{added_to, first_id, size_in}
use Rattle.hidreport_fields.specs.ReportIds.{id_bits}
use Rattle.hidreport_fields.specs.Records.{Attributes, CollectionRecord, FieldPlace, FieldRecord}
use Rattle.hidreport_fields.specs.Records.{VariableRecord, ArrayRecord, ConstantRecord, ReportRecord}
use Rattle.hidreport_fields.specs.Tiling.{Each, Covers, HasNoRest, HasRange}
use Rattle.hidreport_fields.specs.Records.{place_of, collections_of}
use Rattle.hidreport_fields.specs.Tiling.{IsRangeOf, HaveOwnIds, IsOf}
use Rattle.hidreport_fields.specs.Records.{fields_in_all}
use Rattle.hidreport.specs.Usages.{UsageList, as_single, last_local, maximum_of, minimum_of}
use Rattle.hidreport.specs.Usages.{range_usages, single_usages, usages_of, usages_under}
use Rattle.hidreport.specs.Usages.{usages_with}
use Rattle.hidreport_items.specs.declared.local.LocalItem.{LocalItem}
use Rattle.std.specs.Prelude.{unwrap_or}
use Rattle.hidreport.specs.HostUsages.{host_spans}
use Rattle.hidreport.specs.declared.parser.usages_by.UsagesBy.{UsagesBy}
use Rattle.hidreport.specs.declared.parser.usages_by.UsagesBy.TheVariants as usages_by
use Rattle.hidreport.proofs.HostUsageLemmas.{spans-ranged}
use Rattle.hidreport_fields.specs.declared.field.usage.Usage.{Usage}
use Rattle.hidreport.specs.MeaningFault.{MeaningFault}
use Rattle.hidreport.proofs.OwnCollectionsLemmas.{AreOpened}
use Rattle.hidreport.proofs.ReportLemmas.{same_key-equal}
use Rattle.hidreport.specs.declared.parser.extent.Extent.{Extent}

-- lists

pub each-append : {A : Type 0} (P : A → Type 0) (xs ys : List A) → Each P xs → Each P ys
    → Each P (xs ++ ys)
each-append P [] ys p q = q
each-append P (x ∷ xs) ys p q = (p.0, each-append P xs ys p.1 q)

pub each-take : {A : Type 0} (P : A → Type 0) (n : ℕ) (xs : List A) → Each P xs → Each P (take n xs)
each-take P zero xs p = tt
each-take P (suc n) [] p = tt
each-take P (suc n) (x ∷ xs) p = (p.0, each-take P n xs p.1)

pub each-more : {A : Type 0} (P Q : A → Type 0) (xs : List A) → ((x : A) → P x → Q x) → Each P xs
    → Each Q xs
each-more P Q [] f p = tt
each-more P Q (x ∷ xs) f p = (f x p.0, each-more P Q xs f p.1)

pub count-cons : {A : Type 0} (p : A → Bool) (x : A) (xs : List A)
    → count_by p (x ∷ xs) ≡ cond (p x) 1 0 + count_by p xs
count-cons p x xs = grind (arith, common_steps)

pub count-append : {A : Type 0} (p : A → Bool) (xs ys : List A)
    → count_by p (xs ++ ys) ≡ count_by p xs + count_by p ys
count-append p xs ys = grind (arith, common_steps)

some-more : {A : Type 0} (xs ys : List A) → xs ≢ [] → xs ++ ys ≢ []
some-more [] ys some e = some refl
some-more (x ∷ xs) ys some e = cc

-- the fields of one item

covers-append : (first middle end : ℕ) (fs gs : List FieldRecord) → Covers first fs middle
    → Covers middle gs end → Covers first (fs ++ gs) end
covers-append first middle end [] gs c d = subst (λ n. Covers n gs end) (sym c) d
covers-append first middle end (f ∷ fs) gs c d =
    (c.0, c.1, covers-append (place_of f).end middle end fs gs c.2 d)

abbrev variable_at : Beginning → Extent → UsageList → Attributes → ℕ → FieldRecord
variable_at b e us shared c =
    VariableRecord (make_place (beginning_at b e c) e.size) (usage_at us.usages c) shared

product-some : (a b : ℕ) → 0 < a → 0 < b → 0 < a * b
product-some zero b p q = absurd (omega (arith, p))
product-some (suc a) zero p q = absurd (omega (arith, q))
product-some (suc a) (suc b) p q =
    let e : suc a * suc b ≡ suc b + a * suc b = grind (arith, common_steps) in omega (arith, e)

one-more : (c size : ℕ) → (c + 1) * size ≡ c * size + size
one-more c size = add-mul c 1 size
    ∙ (let e : 1 * size ≡ size = omega arith in ap (λ n. c * size + n) e)

covers-each : (b : Beginning) (e : Extent) (us : UsageList) (shared : Attributes)
    (c more : ℕ) → 0 < e.size
    → Covers (b.first + c * e.size) (each_from (variable_at b e us shared) c more)
    (b.first + (c + more) * e.size)
covers-each b e us shared c zero some =
    ap (λ n. b.first + n * e.size) (let same : c ≡ c + 0 = omega arith in same)
covers-each b e us shared c (suc more) some =
    let next : b.first + (c + 1) * e.size
    ≡ b.first + c * e.size + e.size = omega (arith, one-more c e.size) in
    let whole : c + 1 + more ≡ c + suc more = omega arith in (
      refl,
      omega (arith, some),
      subst (λ n. Covers n (each_from (variable_at b e us shared) (c + 1) more)
          (b.first + (c + suc more) * e.size)) next
          (subst (λ n. Covers (b.first + (c + 1) * e.size)
          (each_from (variable_at b e us shared) (c + 1) more)
          (b.first + n * e.size)) whole
          (covers-each b e us shared (c + 1) more some)),
    )

no-rest : (first size count : ℕ) → 0 < count
    → first + (first + size * count - first) / count * count ≡ first + size * count
no-rest first size count some =
    let inner : first + size * count - first ≡ size * count = omega arith in
    ap (λ n. first + n / count * count) inner
    ∙ ap (λ n. first + n * count) (mul-div_cancel size some)

-- a field's elements have all its bits, its collections are listed, its own report is this one, its
-- range gave its usages
abbrev pub IsWell : List (List CollectionRecord) → Option ℕ → FieldRecord → Type 0
IsWell known id f = HasNoRest f × AreOpened known [] (collections_of f) × IsOf id f × HasRange f

abbrev pub IsMade : List (List CollectionRecord) → Option ℕ → ℕ → ℕ → List FieldRecord → Type 0
IsMade known id first end fields =
    (fields ≢ []) × Covers first fields end × Each (IsWell known id) fields

-- a report that is filled, of fields that are well
abbrev pub IsGood : List (List CollectionRecord) → ReportRecord → Type 0
IsGood known r = IsMade known r.id (id_bits r.id) r.size r.fields

variables-well : (known : List (List CollectionRecord)) (key : Option ℕ)
    (b : Beginning) (e : Extent)
    (us : UsageList) (shared : Attributes) (c more : ℕ)
    → AreOpened known [] shared.collections → (b.report_id ≡ None) ⊎ (b.report_id ≡ key)
    → Each (IsWell known key) (each_from (variable_at b e us shared) c more)
variables-well known key b e us shared c zero l own = tt
variables-well known key b e us shared c (suc more) l own = (
  (tt, l, own, tt),
  variables-well known key b e us shared (c + 1) more l
      own,
)

variables-some : (b : Beginning) (e : Extent) (us : UsageList) (shared : Attributes)
    (c more : ℕ) → 0 < more → each_from (variable_at b e us shared) c more ≢ []
variables-some b e us shared c zero some none = omega (arith, some)
variables-some b e us shared c (suc more) some none = cc

-- usages are those of a range where they are said to be
abbrev pub IsRanged : UsageList → Type 0
IsRanged us = us.is_range ≡ true → IsRangeOf us.usages

ranged-by : (b : Bool) (place : FieldPlace) (us : UsageList) (count : ℕ) (shared : Attributes)
    → us.is_range ≡ b → IsRanged us → HasRange (ArrayRecord place us.usages b count shared)
ranged-by true place us count shared e r = r e
ranged-by false place us count shared e r = tt

made-by : (constant variable : Bool) (known : List (List CollectionRecord))
    (key : Option ℕ)
    (b : Beginning) (e : Extent) (us : UsageList) (shared : Attributes) → 0 < e.size → 0 < e.count
    → AreOpened known [] shared.collections → (b.report_id ≡ None) ⊎ (b.report_id ≡ key)
    → IsRanged us
    → IsMade known key b.first (b.first + e.size * e.count)
    (cond constant (ConstantRecord (make_place b (e.size * e.count)) ∷ [])
    (cond variable (variable_fields b e us shared)
    (ArrayRecord (make_place b (e.size * e.count)) us.usages us.is_range e.count shared
    ∷ [])))
made-by true variable known key b e us shared p q l own r = (
  λ n. cc,
  (refl, omega (arith, product-some e.size e.count p q), refl),
  ((tt, tt, inl refl, tt), tt),
)
made-by false true known key b e us shared p q l own r =
    let begins : b.first + 0 * e.size ≡ b.first = omega arith in
    let ends : b.first + (0 + e.count) * e.size
    ≡ b.first + e.size * e.count = grind (arith, common_steps) in
    let fields = each_from (variable_at b e us shared) 0 e.count in (
      variables-some b e us shared 0 e.count q,
      subst (λ n. Covers n fields (b.first + e.size * e.count)) begins
          (subst (Covers (b.first + 0 * e.size) fields) ends
          (covers-each b e us shared 0 e.count p)),
      variables-well known key b e us shared 0 e.count l own,
    )
made-by false false known key b e us shared p q l own r = (
  λ n. cc,
  (refl, omega (arith, product-some e.size e.count p q), refl),
  (
    (
      no-rest b.first e.size e.count q,
      l,
      own,
      ranged-by us.is_range
          (make_place b (e.size * e.count)) us e.count shared refl r,
    ),
    tt,
  ),
)

-- what an item makes has all its bits
pub made : (known : List (List CollectionRecord)) (key : Option ℕ) (b : Beginning) (e : Extent)
    (flags : Flags) (us : UsageList) (shared : Attributes) → 0 < e.size → 0 < e.count
    → AreOpened known [] shared.collections → (b.report_id ≡ None) ⊎ (b.report_id ≡ key)
    → IsRanged us
    → IsMade known key b.first (b.first + e.size * e.count)
    (make_fields b e flags us shared)
made known key b e flags us shared p q l own r =
    made-by flags.constant flags.variable known key b e us shared p q l own r

-- which usages are of a range

range-by : (low : ℕ) (high page : Option ℕ) → IsRanged (list_or_none (range_usages low high page))
range-by low None page = λ e. cc
range-by low (Some high) None = λ e. cc
range-by low (Some high) (Some page) =
    λ e. record { page = page; low = low; count = high + 1 - low; is = refl }

single-by : (r : Result (List Usage) MeaningFault) → IsRanged (list_or_none (as_single r))
single-by (Ok us) = λ e. cc
single-by (Err fault) = λ e. cc

ranged-in : (low page : Option ℕ) (xs : List LocalItem)
    → IsRanged (list_or_none (usages_with low page xs))
ranged-in (Some low) page xs = range-by low (last_local maximum_of xs) page
ranged-in None page xs = single-by (single_usages page xs)

ranged-under : (by : UsagesBy) (f : ItemState) → IsRanged (list_or_none (usages_under by f))
ranged-under usages_by.Standard f =
    ranged-in (last_local minimum_of (local_items f.locals)) f.usage_page (local_items f.locals)
ranged-under usages_by.Hosts f = spans-ranged (host_spans (unwrap_or f.usage_page 0) f.locals)

pub ranged : (f : ItemState) → IsRanged (list_or_none (usages_of f))
ranged f = ranged-under f.usages_by f

set-by : (size count : ℕ) (b : Bool) (e : Extent) → (size == 0 || count == 0) ≡ b
    → cond b None (Some (record { size = size; count = count })) ≡ Some e → (0 < e.size)
    × (0 < e.count)
set-by size count true e t h = cc
set-by size count false e t h =
    let made : Extent = record { size = size; count = count } in
    let whole : made ≡ e = cc in
    let a : size ≡ e.size = ap (λ (x : Extent). x.size) whole in
    let b : count ≡ e.count = ap (λ (x : Extent). x.count) whole in
    (grind (arith, nat_tests, common_steps), grind (arith, nat_tests, common_steps))

pub both-some : (a b : Option ℕ) (e : Extent) → both_set a b ≡ Some e → (0 < e.size) × (0 < e.count)
both-some (Some size) (Some count) e h = set-by size count (size == 0 || count == 0) e refl h
both-some None count e h = cc
both-some (Some size) None e h = cc

pub extent-some : (f : ItemState) (e : Extent) → extent f ≡ Some e → (0 < e.size) × (0 < e.count)
extent-some f e h = both-some f.report_size f.report_count e h

-- the reports with one item's fields added

good-join : (known : List (List CollectionRecord)) (key : Option ℕ) (r : ReportRecord) (bits : ℕ)
    (fields : List FieldRecord) → key ≡ r.id → IsGood known r
    → IsMade known key r.size (r.size + bits) fields
    → IsGood known (record { id = r.id; size = r.size + bits; fields = r.fields ++ fields })
good-join known key r bits fields same g m = (
  some-more r.fields fields g.0,
  covers-append (id_bits r.id) r.size (r.size + bits) r.fields fields g.1 m.1,
  each-append (IsWell known r.id) r.fields fields g.2
      (subst (λ k. Each (IsWell known k) fields) same m.2),
)

good-by : (b : Bool) (known : List (List CollectionRecord)) (key : Option ℕ) (bits : ℕ)
    (fields : List FieldRecord) (r : ReportRecord) (rs : List ReportRecord) → same_key r.id key ≡ b
    → IsGood known r → Each (IsGood known) rs
    → IsMade known key (cond b r.size (size_in key rs)) (cond b r.size (size_in key rs) + bits)
    fields
    → (IsMade known key (size_in key rs) (size_in key rs + bits) fields
    → Each (IsGood known) (added_to key bits fields rs))
    → Each (IsGood known) (cond b (record
    { id = r.id; size = r.size + bits; fields = r.fields ++ fields } ∷ rs)
    (r ∷ added_to key bits fields rs))
good-by true known key bits fields r rs e g gs m later =
    (good-join known key r bits fields (sym (same_key-equal r.id key e)) g m, gs)
good-by false known key bits fields r rs e g gs m later = (g, later m)

pub added-good : (known : List (List CollectionRecord)) (key : Option ℕ) (bits : ℕ)
    (fields : List FieldRecord) (rs : List ReportRecord) → Each (IsGood known) rs
    → IsMade known key (size_in key rs) (size_in key rs + bits) fields
    → Each (IsGood known) (added_to key bits fields rs)
added-good known key bits fields [] g m = (m, tt)
added-good known key bits fields (r ∷ rs) g m =
    good-by (same_key r.id key) known key bits fields r rs refl g.0 g.1 m
    (added-good known key bits fields rs g.1)

-- ids of reports

abbrev one_if : Bool → ℕ
one_if b = cond b 1 0

abbrev pub with_id : Option ℕ → List ReportRecord → ℕ
with_id id rs = count_by (λ r. same_key r.id id) rs

with_id-cons : (id : Option ℕ) (r : ReportRecord) (rs : List ReportRecord)
    → with_id id (r ∷ rs) ≡ one_if (same_key r.id id) + with_id id rs
with_id-cons id r rs = count-cons (λ (x : ReportRecord). same_key x.id id) r rs

few-by : (b : Bool) (id key : Option ℕ) (bits : ℕ) (fields : List FieldRecord) (r : ReportRecord)
    (rs : List ReportRecord)
    → with_id id (added_to key bits fields rs) ≤ with_id id rs + one_if (same_key key id)
    → with_id id (cond b (record { id = r.id; size = r.size + bits; fields = r.fields ++ fields }
    ∷ rs) (r ∷ added_to key bits fields rs)) ≤ with_id id (r ∷ rs) + one_if (same_key key id)
few-by true id key bits fields r rs later =
    omega (
      arith,
      with_id-cons id r rs,
      with_id-cons id
          (record { id = r.id; size = r.size + bits; fields = r.fields ++ fields }) rs,
    )
few-by false id key bits fields r rs later =
    omega (arith, later, with_id-cons id r rs, with_id-cons id r (added_to key bits fields rs))

few : (id key : Option ℕ) (bits : ℕ) (fields : List FieldRecord) (rs : List ReportRecord)
    → with_id id (added_to key bits fields rs) ≤ with_id id rs + one_if (same_key key id)
few id key bits fields [] = omega
    (arith, with_id-cons id (record { id = key; size = id_bits key + bits; fields = fields }) [])
few id key bits fields (r ∷ rs) =
    few-by (same_key r.id key) id key bits fields r rs (few id key bits fields rs)

found-by : (b : Bool) (id key : Option ℕ) (bits : ℕ) (fields : List FieldRecord) (r : ReportRecord)
    (rs : List ReportRecord) → same_key r.id key ≡ b → 0 < with_id key (r ∷ rs)
    → (0 < with_id key rs → with_id id (added_to key bits fields rs) ≡ with_id id rs)
    → with_id id (cond b (record { id = r.id; size = r.size + bits; fields = r.fields ++ fields }
    ∷ rs) (r ∷ added_to key bits fields rs)) ≡ with_id id (r ∷ rs)
found-by true id key bits fields r rs e some later =
    with_id-cons id (record { id = r.id; size = r.size + bits; fields = r.fields ++ fields }) rs
    ∙ sym (with_id-cons id r rs)
found-by false id key bits fields r rs e some later =
    let behind : 0 < with_id key rs = omega (arith, some, with_id-cons key r rs, ap one_if e) in
    with_id-cons id r (added_to key bits fields rs)
    ∙ ap (λ n. one_if (same_key r.id id) + n) (later behind) ∙ sym (with_id-cons id r rs)

found : (id key : Option ℕ) (bits : ℕ) (fields : List FieldRecord) (rs : List ReportRecord)
    → 0 < with_id key rs → with_id id (added_to key bits fields rs) ≡ with_id id rs
found id key bits fields [] some = absurd (omega (arith, some))
found id key bits fields (r ∷ rs) some =
    found-by (same_key r.id key) id key bits fields r rs refl some (found id key bits fields rs)

pub less-or-not : (a b : ℕ) → (a < b) ⊎ (b ≤ a)
less-or-not a zero = inr (omega arith)
less-or-not zero (suc b) = inl (omega arith)
less-or-not (suc a) (suc b) = elim (less-or-not a b)
    [ inl lt ↦ inl (omega (arith, lt)) | inr ge ↦ inr (omega (arith, ge)) ]

none-or-some : (n : ℕ) → (n ≡ 0) ⊎ (0 < n)
none-or-some zero = inl refl
none-or-some (suc n) = inr (omega arith)

once-by : (b : Bool) (id key : Option ℕ) (bits : ℕ) (fields : List FieldRecord)
    (rs : List ReportRecord) → same_key key id ≡ b → ((id : Option ℕ) → with_id id rs ≤ 1)
    → with_id id (added_to key bits fields rs) ≤ 1
once-by true id key bits fields rs e once =
    let same : key ≡ id = same_key-equal key id e in
    elim (none-or-some (with_id key rs)) [
      | inl none ↦ omega (
        arith,
        few id key bits fields rs,
        ap one_if e,
        ap (λ k. with_id k rs)
            (sym same),
        none,
      )
      | inr some ↦ omega (arith, found id key bits fields rs some, once id)
    ]
once-by false id key bits fields rs e once =
    omega (arith, few id key bits fields rs, ap one_if e, once id)

abbrev HasId : ReportRecord → Type 0
HasId r = r.id ≢ None

ids-by : (b : Bool) (key : Option ℕ) (bits : ℕ) (fields : List FieldRecord) (r : ReportRecord)
    (rs : List ReportRecord) → HasId r → Each HasId rs → Each HasId (added_to key bits fields rs)
    → Each HasId (cond b (record { id = r.id; size = r.size + bits; fields = r.fields ++ fields }
    ∷ rs) (r ∷ added_to key bits fields rs))
ids-by true key bits fields r rs h hs later = (h, hs)
ids-by false key bits fields r rs h hs later = (h, later)

all-ids : (key : Option ℕ) (bits : ℕ) (fields : List FieldRecord) (rs : List ReportRecord)
    → key ≢ None → Each HasId rs → Each HasId (added_to key bits fields rs)
all-ids key bits fields [] some h = (some, tt)
all-ids key bits fields (r ∷ rs) some h =
    ids-by (same_key r.id key) key bits fields r rs h.0 h.1 (all-ids key bits fields rs some h.1)

-- where the first report has an id, every key is one
some-key : (own id : Option ℕ) → same_key id (first_of own id) ≡ false → first_of own id ≢ None
some-key (Some n) id e none = cc
some-key None (Some id) e none = cc
some-key None None e none = cc

first-by : (b : Bool) (own : Option ℕ) (bits : ℕ) (fields : List FieldRecord) (r : ReportRecord)
    (rs : List ReportRecord) → same_key r.id (first_of own r.id) ≡ b → Each HasId rs
    → Each HasId
    (drop 1 (cond b (record { id = r.id; size = r.size + bits; fields = r.fields ++ fields }
    ∷ rs) (r ∷ added_to (first_of own r.id) bits fields rs)))
first-by true own bits fields r rs e h = h
first-by false own bits fields r rs e h =
    all-ids (first_of own r.id) bits fields rs (some-key own r.id e) h

first-added : (own : Option ℕ) (bits : ℕ) (fields : List FieldRecord) (rs : List ReportRecord)
    → Each HasId (drop 1 rs)
    → Each HasId (drop 1 (added_to (first_of own (first_id rs)) bits fields rs))
first-added own bits fields [] h = tt
first-added own bits fields (r ∷ rs) h =
    first-by (same_key r.id (first_of own r.id)) own bits fields r rs refl h

pub added-own : (own : Option ℕ) (bits : ℕ) (fields : List FieldRecord) (rs : List ReportRecord)
    → HaveOwnIds rs → HaveOwnIds (added_to (first_of own (first_id rs)) bits fields rs)
added-own own bits fields rs h = record {
  once = λ id. once-by (same_key (first_of own (first_id rs)) id) id (first_of own (first_id rs))
      bits fields rs refl h.once;
  first = first-added own bits fields rs h.first;
}

-- numbers of fields

abbrev pub with_number : ℕ → List FieldRecord → ℕ
with_number n fields = count_by (λ f. (place_of f).id == n) fields

pub with_number-append : (n : ℕ) (fs gs : List FieldRecord)
    → with_number n (fs ++ gs) ≡ with_number n fs + with_number n gs
with_number-append n fs gs = count-append (λ (f : FieldRecord). (place_of f).id == n) fs gs

with_number-cons : (n : ℕ) (f : FieldRecord) (fs : List FieldRecord)
    → with_number n (f ∷ fs) ≡ one_if ((place_of f).id == n) + with_number n fs
with_number-cons n f fs = count-cons (λ (x : FieldRecord). (place_of x).id == n) f fs

abbrev pub numbered : ℕ → List ReportRecord → ℕ
numbered n rs = with_number n (fields_in_all rs)

numbered-cons : (n : ℕ) (r : ReportRecord) (rs : List ReportRecord)
    → numbered n (r ∷ rs) ≡ with_number n r.fields + numbered n rs
numbered-cons n r rs = with_number-append n r.fields (fields_in_all rs)

numbered-by : (b : Bool) (n : ℕ) (key : Option ℕ) (bits : ℕ) (fields : List FieldRecord)
    (r : ReportRecord) (rs : List ReportRecord)
    → numbered n (added_to key bits fields rs) ≡ numbered n rs + with_number n fields
    → numbered n (cond b (record { id = r.id; size = r.size + bits; fields = r.fields ++ fields }
    ∷ rs) (r ∷ added_to key bits fields rs)) ≡ numbered n (r ∷ rs) + with_number n fields
numbered-by true n key bits fields r rs later =
    let grown : ReportRecord = record
    { id = r.id; size = r.size + bits; fields = r.fields ++ fields } in
    let a = numbered-cons n grown rs in let b = numbered-cons n r rs in
    let c = with_number-append n r.fields fields in omega (arith, a, b, c)
numbered-by false n key bits fields r rs later =
    let a = numbered-cons n r (added_to key bits fields rs) in let b = numbered-cons n r rs in omega
    (arith, a, b, later)

pub numbered-added : (n : ℕ) (key : Option ℕ) (bits : ℕ) (fields : List FieldRecord)
    (rs : List ReportRecord)
    → numbered n (added_to key bits fields rs) ≡ numbered n rs + with_number n fields
numbered-added n key bits fields [] = ap (with_number n) (append-nil fields)
    ∙ (let e : with_number n fields ≡ 0 + with_number n fields = omega arith in e)
numbered-added n key bits fields (r ∷ rs) =
    numbered-by (same_key r.id key) n key bits fields r rs (numbered-added n key bits fields rs)

-- the fields with a number, among those that are numbered from one on
pub record IsFresh (n id count : ℕ) (fields : List FieldRecord) : Type 0 where
  pub once : with_number n fields ≤ 1
  pub above : n < id → with_number n fields ≡ 0
  pub below : id + count ≤ n → with_number n fields ≡ 0

one-by : (b : Bool) (a n : ℕ) → (a == n) ≡ b
    → (one_if (a == n) ≤ 1) × (n < a → one_if (a == n) ≡ 0) × (a < n → one_if (a == n) ≡ 0)
one-by true a n e =
    let same : a ≡ n = grind (arith, nat_tests) in (
      omega (arith, ap one_if e),
      (λ lt. absurd (omega (arith, same, lt))),
      (λ lt. absurd (omega (arith, same, lt))),
    )
one-by false a n e = (omega (arith, ap one_if e), (λ lt. ap one_if e), (λ lt. ap one_if e))

fresh-one : (n id : ℕ) (f : FieldRecord) → (place_of f).id ≡ id → IsFresh n id 1 (f ∷ [])
fresh-one n id f e =
    let c = with_number-cons n f [] in
    let o = one-by ((place_of f).id == n) (place_of f).id n refl in
    record {
      once = omega (arith, c, o.0);
      above = λ lt. omega (arith, c, o.1 (omega (arith, e, lt)));
      below = λ le. omega (arith, c, o.2 (omega (arith, e, le)));
    }

fresh-each : (n : ℕ) (b : Beginning) (e : Extent) (us : UsageList)
    (shared : Attributes) (c more : ℕ)
    → IsFresh n (b.number + c) more (each_from (variable_at b e us shared) c more)
fresh-each n b e us shared c zero =
    record { once = omega arith; above = λ lt. refl; below = λ le. refl }
fresh-each n b e us shared c (suc more) =
    let f = variable_at b e us shared c in
    let rest = fresh-each n b e us shared (c + 1) more in
    let head = with_number-cons n f
    (each_from (variable_at b e us shared) (c + 1) more) in
    let o = one-by ((b.number + c) == n) (b.number + c) n refl in
    record {
      once = elim (none-or-some (one_if ((b.number + c) == n))) [
        | inl none ↦ omega (arith, head, none, rest.once)
        | inr some ↦
            let near : n < b.number + (c + 1) = elim (less-or-not n (b.number + (c + 1)))
            [ inl lt ↦ lt | inr ge ↦ absurd (omega (arith, some, o.2 (omega (arith, ge)))) ] in
            omega (arith, head, o.0, rest.above near)
      ];
      above = λ lt. omega (arith, head, o.1 lt, rest.above (omega (arith, lt)));
      below = λ le. omega (arith, head, o.2 (omega (arith, le)), rest.below (omega (arith, le)));
    }

fresh-by : (constant variable : Bool) (n : ℕ) (b : Beginning) (e : Extent)
    (us : UsageList) (shared : Attributes)
    → IsFresh n b.number (cond constant 1 (cond variable e.count 1))
    (cond constant (ConstantRecord (make_place b (e.size * e.count)) ∷ [])
    (cond variable (variable_fields b e us shared)
    (ArrayRecord (make_place b (e.size * e.count)) us.usages us.is_range e.count shared
    ∷ [])))
fresh-by true variable n b e us shared = fresh-one n b.number _ refl
fresh-by false true n b e us shared =
    subst (λ m. IsFresh n m e.count (each_from (variable_at b e us shared) 0 e.count))
    (let m : b.number + 0 ≡ b.number = omega arith in m)
    (fresh-each n b e us shared 0 e.count)
fresh-by false false n b e us shared = fresh-one n b.number _ refl

-- an item's fields have the numbers from one on, each once
pub fresh : (n : ℕ) (b : Beginning) (e : Extent) (flags : Flags)
    (us : UsageList) (shared : Attributes)
    → IsFresh n b.number (field_count flags e.count) (make_fields b e flags us shared)
fresh n b e flags us shared =
    fresh-by flags.constant flags.variable n b e us shared
