-- The run of a group reads and writes what its fields do.
use Rattle.std.proofs.Common.{◌≡◌, ◌∙◌, ◌+◌, ◌-◌, ◌*◌, ◌/◌, ◌<◌, ℕ, zero, suc, Bool, true, false, List, [], ◌∷◌, ◌++◌}
use Rattle.std.proofs.Common.{Option, ap, append-nil, arith, get_or, length, refl, subst, sym, take}
use Rattle.std.specs.Prelude.{if◌then◌else◌}
use Rattle.std.proofs.lemmas.Grind.{flat_map-append}
use Rattle.hidreport_items.specs.Flags.{Flags}
use Rattle.hidreport_fields.specs.ItemParts.{field_count}
use Rattle.hidreport_fields.specs.Reading.{is_signed}
use Rattle.hidreport_fields.specs.Records.{Attributes, FieldRecord, VariableRecord}
use Rattle.hidreport.specs.Fields.{Beginning, beginning_at, each_from, make_place, usage_at}
use Rattle.hidreport.specs.Groups.{GroupRecord, fields_of_groups, group_fields}
use Rattle.hidreport.specs.Runs.{Joins, RunRecord, run_of, runs_of}
use Rattle.hidreport.specs.SameRuns.{SameRuns}
use Rattle.hidreport.specs.Usages.{UsageList}
use Rattle.hidreport.specs.declared.parser.extent.Extent.{Extent}
use Rattle.hidreport.proofs.GroupLookupLemmas.{groups-next}
use Rattle.hidreport.proofs.JoinLemmas.{joined-same, run_by}
use Rattle.hidreport.proofs.SameRunsLemmas.{same-before, same-behind, same-cons, same-refl, same-then}

-- the run of so many elements of an item, from this one on
abbrev elements : Beginning → Extent → Attributes → ℕ → ℕ → RunRecord
elements b e shared c n = record {
  id = b.report_id;
  first = b.first + c * e.size;
  width = e.size;
  count = n;
  is_signed = is_signed shared;
}

-- the field of one of them
abbrev element_field : Beginning → Extent → UsageList → Attributes → ℕ → FieldRecord
element_field b e us shared c =
    VariableRecord (make_place (beginning_at b e c) e.size) (usage_at us.usages c) shared

one-element : (b : Beginning) (e : Extent) (us : UsageList) (shared : Attributes) (c : ℕ)
    → run_of (element_field b e us shared c) ≡ elements b e shared c 1 ∷ []
one-element b e us shared c =
    let at = b.first + c * e.size in
    let width : at + e.size - at ≡ e.size = omega arith in
    ap (λ (w : ℕ). run_by b.report_id at w 1 (is_signed shared) ∷ []) width

elements-same : (b : Beginning) (e : Extent) (us : UsageList) (shared : Attributes) (c n : ℕ)
    → SameRuns (elements b e shared c (suc n) ∷ [])
    (runs_of (each_from (element_field b e us shared) c (suc n)))
elements-same b e us shared c zero =
    subst (SameRuns (elements b e shared c 1 ∷ [])) (sym (one-element b e us shared c))
    (same-refl (elements b e shared c 1 ∷ []))
elements-same b e us shared c (suc n) =
    let head = elements b e shared c 1 in
    let later = elements b e shared (c + 1) (suc n) in
    let all = elements b e shared c (suc (suc n)) in
    let rest = runs_of (each_from (element_field b e us shared) (c + 1) (suc n)) in
    let at : later.first ≡ head.first + head.width * 1 = omega arith in
    let more : suc (suc n) ≡ 1 + suc n = omega arith in
    let joins : Joins head later all = record {
      id = refl;
      width = refl;
      is_signed = refl;
      first = at;
      is = ap (λ k. run_by b.report_id (b.first + c * e.size) e.size k (is_signed shared)) more;
    } in
    subst (λ (l : List RunRecord). SameRuns (all ∷ []) (l ++ rest)) (sym (one-element b e us shared c))
    (same-then (all ∷ []) (head ∷ later ∷ []) (head ∷ rest) (joined-same head later all joins)
    (same-cons head (later ∷ []) rest (elements-same b e us shared (c + 1) n)))

-- the list of fields, by the flags
several-by : (constant variable : Bool) (x y : FieldRecord) (several : List FieldRecord)
    → constant ≡ false → variable ≡ true
    → (if constant then x ∷ [] else (if variable then several else y ∷ [])) ≡ several
several-by constant variable x y several filled many =
    ap (λ (b : Bool). if b then x ∷ [] else (if variable then several else y ∷ [])) filled
    ∙ ap (λ (b : Bool). if b then several else y ∷ []) many

single-by : (constant variable : Bool) (x y : FieldRecord) (several : List FieldRecord)
    → constant ≡ false → variable ≡ false
    → (if constant then x ∷ [] else (if variable then several else y ∷ [])) ≡ y ∷ []
single-by constant variable x y several filled many =
    ap (λ (b : Bool). if b then x ∷ [] else (if variable then several else y ∷ [])) filled
    ∙ ap (λ (b : Bool). if b then several else y ∷ []) many

padding-by : (constant variable : Bool) (x y : FieldRecord) (several : List FieldRecord)
    → constant ≡ true
    → (if constant then x ∷ [] else (if variable then several else y ∷ [])) ≡ x ∷ []
padding-by constant variable x y several padding =
    ap (λ (b : Bool). if b then x ∷ [] else (if variable then several else y ∷ [])) padding

-- the fields of an item with several elements
some-same : (b : Beginning) (e : Extent) (us : UsageList) (shared : Attributes) (n : ℕ) → 0 < n
    → SameRuns (elements b e shared 0 n ∷ []) (runs_of (each_from (element_field b e us shared) 0 n))
some-same b e us shared zero some = absurd (omega (arith, some))
some-same b e us shared (suc n) some = elements-same b e us shared 0 n

several-counted : (flags : Flags) (n : ℕ) → flags.constant ≡ false → flags.variable ≡ true
    → field_count flags n ≡ n
several-counted flags n filled many =
    ap (λ (b : Bool). if b then 1 else (if flags.variable then n else 1)) filled
    ∙ ap (λ (b : Bool). if b then n else 1) many

pub variable-run : (g : GroupRecord) (id : Option ℕ) (first width count fields : ℕ) (signed : Bool)
    → g.flags.constant ≡ false → g.flags.variable ≡ true
    → fields ≡ field_count g.flags g.extent.count → 0 < fields
    → id ≡ g.beginning.report_id → first ≡ g.beginning.first → width ≡ g.extent.size
    → count ≡ g.extent.count → signed ≡ is_signed g.shared
    → SameRuns (run_by id first width count signed ∷ []) (runs_of (group_fields g))
variable-run g id first width count fields signed filled many all some own at wide counted sign =
    let enough : 0 < g.extent.count =
    omega (arith, some, all, several-counted g.flags g.extent.count filled many) in
    let from : first ≡ g.beginning.first + 0 * g.extent.size = omega (arith, at) in
    let is : run_by id first width count signed
    ≡ elements g.beginning g.extent g.shared 0 g.extent.count =
    ap (λ (i : Option ℕ). run_by i first width count signed) own
    ∙ ap (λ (n : ℕ). run_by g.beginning.report_id n width count signed) from
    ∙ ap (λ (w : ℕ). run_by g.beginning.report_id (g.beginning.first + 0 * g.extent.size) w count
    signed) wide
    ∙ ap (λ (n : ℕ). run_by g.beginning.report_id (g.beginning.first + 0 * g.extent.size)
    g.extent.size n signed) counted
    ∙ ap (run_by g.beginning.report_id (g.beginning.first + 0 * g.extent.size) g.extent.size
    g.extent.count) sign in
    subst (λ (l : List FieldRecord). SameRuns (run_by id first width count signed ∷ []) (runs_of l))
    (sym (several-by g.flags.constant g.flags.variable _ _ _ filled many))
    (subst (λ (r : RunRecord). SameRuns (r ∷ []) (runs_of
    (each_from (element_field g.beginning g.extent g.usages g.shared) 0 g.extent.count))) (sym is)
    (some-same g.beginning g.extent g.usages g.shared g.extent.count enough))

abbrev array_width : GroupRecord → ℕ
array_width g =
    (g.beginning.first + g.extent.size * g.extent.count - g.beginning.first) / g.extent.count

pub array-run : (g : GroupRecord) (id : Option ℕ) (first end width count : ℕ) (signed : Bool)
    → g.flags.constant ≡ false → g.flags.variable ≡ false
    → id ≡ g.beginning.report_id → first ≡ g.beginning.first
    → end ≡ g.beginning.first + g.extent.size * g.extent.count → width ≡ (end - first) / count
    → count ≡ g.extent.count → signed ≡ is_signed g.shared
    → SameRuns (run_by id first width count signed ∷ []) (runs_of (group_fields g))
array-run g id first end width count signed filled single own at upto wide counted sign =
    let each : width ≡ array_width g =
    wide ∙ ap (λ n. (n - first) / count) upto
    ∙ ap (λ n. (g.beginning.first + g.extent.size * g.extent.count - n) / count) at
    ∙ ap (λ n. (g.beginning.first + g.extent.size * g.extent.count - g.beginning.first) / n) counted in
    let is : run_by id first width count signed
    ≡ run_by g.beginning.report_id g.beginning.first (array_width g) g.extent.count
    (is_signed g.shared) =
    ap (λ (i : Option ℕ). run_by i first width count signed) own
    ∙ ap (λ (n : ℕ). run_by g.beginning.report_id n width count signed) at
    ∙ ap (λ (w : ℕ). run_by g.beginning.report_id g.beginning.first w count signed) each
    ∙ ap (λ (n : ℕ). run_by g.beginning.report_id g.beginning.first (array_width g) n signed) counted
    ∙ ap (run_by g.beginning.report_id g.beginning.first (array_width g) g.extent.count) sign in
    let run = run_by id first width count signed in
    subst (λ (l : List FieldRecord). SameRuns (run ∷ []) (runs_of l))
    (sym (single-by g.flags.constant g.flags.variable _ _ _ filled single))
    (subst (λ (r : RunRecord). SameRuns (run ∷ []) (r ∷ [])) is (same-refl (run ∷ [])))

pub no-run : (g : GroupRecord) → g.flags.constant ≡ true → runs_of (group_fields g) ≡ []
no-run g padding =
    ap runs_of (padding-by g.flags.constant g.flags.variable _ _ _ padding)

pub no-elements : (g : GroupRecord) → g.flags.constant ≡ false → g.flags.variable ≡ true
    → g.extent.count ≡ 0 → runs_of (group_fields g) ≡ []
no-elements g filled many none =
    ap runs_of (several-by g.flags.constant g.flags.variable _ _ _ filled many
    ∙ ap (each_from (element_field g.beginning g.extent g.usages g.shared) 0) none)

-- one group more
runs-next : (gs : List GroupRecord) (i : ℕ) (g : GroupRecord) → i < length gs
    → g ≡ get_or gs i g → runs_of (fields_of_groups (take (i + 1) gs))
    ≡ runs_of (fields_of_groups (take i gs)) ++ runs_of (group_fields g)
runs-next gs i g lt e =
    ap runs_of (groups-next gs i g lt e)
    ∙ flat_map-append run_of (fields_of_groups (take i gs)) (group_fields g)

pub group-next : (gs : List GroupRecord) (i : ℕ) (g : GroupRecord) (old new : List RunRecord)
    (run : RunRecord) → i < length gs → g ≡ get_or gs i g
    → SameRuns old (runs_of (fields_of_groups (take i gs))) → SameRuns new (old ++ run ∷ [])
    → SameRuns (run ∷ []) (runs_of (group_fields g))
    → SameRuns new (runs_of (fields_of_groups (take (i + 1) gs)))
group-next gs i g old new run lt e so_far more is =
    let own = runs_of (fields_of_groups (take i gs)) in
    subst (SameRuns new) (sym (runs-next gs i g lt e))
    (same-then new (old ++ run ∷ []) (own ++ runs_of (group_fields g)) more
    (same-then (old ++ run ∷ []) (own ++ run ∷ []) (own ++ runs_of (group_fields g))
    (same-before old own (run ∷ []) so_far)
    (same-behind own (run ∷ []) (runs_of (group_fields g)) is)))

pub group-padding : (gs : List GroupRecord) (i : ℕ) (g : GroupRecord) (runs : List RunRecord)
    → i < length gs → g ≡ get_or gs i g
    → SameRuns runs (runs_of (fields_of_groups (take i gs))) → runs_of (group_fields g) ≡ []
    → SameRuns runs (runs_of (fields_of_groups (take (i + 1) gs)))
group-padding gs i g runs lt e so_far none =
    let own = runs_of (fields_of_groups (take i gs)) in
    subst (SameRuns runs) (sym (runs-next gs i g lt e ∙ ap (λ l. own ++ l) none ∙ append-nil own))
    so_far
