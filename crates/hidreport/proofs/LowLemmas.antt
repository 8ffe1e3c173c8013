-- Runs of the low bits of values are those of fields of these bits.
use Rattle.std.proofs.Common.{◌≡◌, ◌∙◌, ◌+◌, ◌-◌, ◌*◌, ◌/◌, ◌<◌, ℕ, zero, suc, Bool, true, false, cond, List, [], ◌∷◌, ◌++◌}
use Rattle.std.proofs.Common.{ap, append-nil, arith, get_or, length, map, nat_lt}
use Rattle.std.proofs.Common.{refl, sym, take}
use Rattle.std.specs.Prelude.{flat_map, sum_by}
use Rattle.std.proofs.lemmas.Grind.{common_steps, flat_map-append}
use Rattle.std.proofs.lemmas.List.{map-append}
use Rattle.std.proofs.lemmas.List.Sums.{sum_by-append, sum_by-cons}
use Rattle.hidreport_fields.specs.Reading.{element_width, is_signed}
use Rattle.hidreport_fields.specs.Records.{Attributes, ArrayRecord, ConstantRecord, FieldPlace}
use Rattle.hidreport_fields.specs.Records.{FieldRecord, VariableRecord}
use Rattle.hidreport_fields.specs.WritingValues.{value_count}
use Rattle.hidreport_fields.specs.declared.field.usage.Usage.{Usage}
use Rattle.hidreport.specs.Fields.{each_from}
use Rattle.hidreport.specs.LowBits.{low_fields, low_place, low_run, low_runs}
use Rattle.hidreport.specs.Runs.{RunRecord, run_of, runs_of}
use Rattle.hidreport.proofs.JoinLemmas.{run_by}

-- the array of one element that has the low bits of another's
abbrev low_element : FieldPlace → List Usage → Bool → Attributes → ℕ → ℕ → FieldRecord
low_element place usages is_range shared width index =
    ArrayRecord (low_place place (place.first + width * index)) usages is_range 1 shared

each-runs : (h : ℕ → FieldRecord) (r : ℕ → RunRecord) → ((k : ℕ) → run_of (h k) ≡ r k ∷ [])
    → (c n : ℕ) → runs_of (each_from h c n) ≡ each_from r c n
each-runs h r is c zero = refl
each-runs h r is c (suc n) =
    ap (λ l. l ++ runs_of (each_from h (c + 1) n)) (is c)
    ∙ ap (λ l. r c ∷ l) (each-runs h r is (c + 1) n)

low-variable : (b : Bool) (place : FieldPlace) (usage : Usage) (shared : Attributes)
    → let run = run_by place.report_id place.first (place.«end» - place.first) 1 (is_signed shared) in
    (cond b (each_from (low_run run) 0 1) (run ∷ [])) ++ []
    ≡ runs_of (cond b (VariableRecord (low_place place place.first) usage shared ∷ [])
    (VariableRecord place usage shared ∷ []))
low-variable true place usage shared =
    let at : place.first + (place.«end» - place.first) * 0 ≡ place.first = omega arith in
    let width : place.first + 32 - place.first ≡ 32 = omega arith in
    ap (λ (n : ℕ). run_by place.report_id n 32 1 (is_signed shared) ∷ []) at
    ∙ ap (λ (w : ℕ). run_by place.report_id place.first w 1 (is_signed shared) ∷ []) (sym width)
low-variable false place usage shared = refl

one-low : (place : FieldPlace) (usages : List Usage) (is_range : Bool) (shared : Attributes)
    (width count index : ℕ)
    → run_of (low_element place usages is_range shared width index)
    ≡ low_run (run_by place.report_id place.first width count (is_signed shared)) index ∷ []
one-low place usages is_range shared width count index =
    let at = place.first + width * index in
    let is : (at + 32 - at) / 1 ≡ 32 = omega arith in
    ap (λ (w : ℕ). run_by place.report_id at w 1 (is_signed shared) ∷ []) is

low-array : (b : Bool) (place : FieldPlace) (usages : List Usage) (is_range : Bool) (count : ℕ)
    (shared : Attributes)
    → let width = element_width place.first place.«end» count in
    let run = run_by place.report_id place.first width count (is_signed shared) in
    (cond b (each_from (low_run run) 0 count) (run ∷ [])) ++ []
    ≡ runs_of (cond b (each_from (low_element place usages is_range shared width) 0 count)
    (ArrayRecord place usages is_range count shared ∷ []))
low-array true place usages is_range count shared =
    let width = element_width place.first place.«end» count in
    let run = run_by place.report_id place.first width count (is_signed shared) in
    append-nil (each_from (low_run run) 0 count)
    ∙ sym (each-runs (low_element place usages is_range shared width) (low_run run)
    (one-low place usages is_range shared width count) 0 count)
low-array false place usages is_range count shared = refl

-- of one field
low-field : (field : FieldRecord) → flat_map low_runs (run_of field) ≡ runs_of (low_fields field)
low-field (VariableRecord place usage shared) =
    low-variable (nat_lt 32 (place.«end» - place.first)) place usage shared
low-field (ArrayRecord place usages is_range count shared) =
    low-array (nat_lt 32 (element_width place.first place.«end» count)) place usages is_range count
    shared
low-field (ConstantRecord place) = refl

-- one field more
low-next : {X : Type 0} (h : X → FieldRecord) (xs : List X) (i : ℕ) (x : X) → i < length xs
    → x ≡ get_or xs i x
    → runs_of (flat_map low_fields (map h (take (i + 1) xs)))
    ≡ runs_of (flat_map low_fields (map h (take i xs))) ++ runs_of (low_fields (h x))
low-next h xs i x lt e =
    let next : take (i + 1) xs ≡ take i xs ++ x ∷ [] = grind (arith, common_steps) in
    ap (λ l. runs_of (flat_map low_fields (map h l))) next
    ∙ ap (λ l. runs_of (flat_map low_fields l)) (map-append h (take i xs) (x ∷ []))
    ∙ ap runs_of (flat_map-append low_fields (map h (take i xs)) (h x ∷ [])
    ∙ ap (λ l. flat_map low_fields (map h (take i xs)) ++ l) (append-nil (low_fields (h x))))
    ∙ flat_map-append run_of (flat_map low_fields (map h (take i xs))) (low_fields (h x))

pub low-some : {X : Type 0} (h : X → FieldRecord) (xs : List X) (i : ℕ) (x : X)
    (old new : List RunRecord) (run : RunRecord) → i < length xs → x ≡ get_or xs i x
    → old ≡ runs_of (flat_map low_fields (map h (take i xs))) → new ≡ old ++ low_runs run
    → run_of (h x) ≡ run ∷ [] → new ≡ runs_of (flat_map low_fields (map h (take (i + 1) xs)))
low-some h xs i x old new run lt e so_far more is =
    let own : low_runs run ≡ runs_of (low_fields (h x)) =
    sym (append-nil (low_runs run)) ∙ ap (flat_map low_runs) (sym is) ∙ low-field (h x) in
    more ∙ ap (λ l. l ++ low_runs run) so_far
    ∙ ap (λ l. runs_of (flat_map low_fields (map h (take i xs))) ++ l) own
    ∙ sym (low-next h xs i x lt e)

pub low-none : {X : Type 0} (h : X → FieldRecord) (xs : List X) (i : ℕ) (x : X)
    (runs : List RunRecord) → i < length xs → x ≡ get_or xs i x
    → runs ≡ runs_of (flat_map low_fields (map h (take i xs))) → run_of (h x) ≡ []
    → runs ≡ runs_of (flat_map low_fields (map h (take (i + 1) xs)))
low-none h xs i x runs lt e so_far none =
    let own : runs_of (low_fields (h x)) ≡ [] =
    sym (low-field (h x)) ∙ ap (flat_map low_runs) none in
    so_far
    ∙ sym (low-next h xs i x lt e
    ∙ ap (λ l. runs_of (flat_map low_fields (map h (take i xs))) ++ l) own
    ∙ append-nil (runs_of (flat_map low_fields (map h (take i xs)))))

-- by the width of a run
pub wide-runs : (run : RunRecord) → nat_lt 32 run.width ≡ true
    → low_runs run ≡ each_from (low_run run) 0 run.count
wide-runs run wide = ap (λ (b : Bool). cond b (each_from (low_run run) 0 run.count) (run ∷ [])) wide

pub narrow-runs : (run : RunRecord) → nat_lt 32 run.width ≡ false → low_runs run ≡ run ∷ []
narrow-runs run narrow =
    ap (λ (b : Bool). cond b (each_from (low_run run) 0 run.count) (run ∷ [])) narrow

-- as many values as the fields have
each-one : (h : ℕ → FieldRecord) → ((k : ℕ) → value_count (h k) ≡ 1) → (c n : ℕ)
    → sum_by value_count (each_from h c n) ≡ n
each-one h one c zero = refl
each-one h one c (suc n) =
    let rest = each-one h one (c + 1) n in
    let here = one c in
    let parts = sum_by-cons value_count (h c) (each_from h (c + 1) n) in
    omega (arith, parts, here, rest)

variable-counted : (b : Bool) (x y : FieldRecord) → value_count x ≡ 1 → value_count y ≡ 1
    → sum_by value_count (cond b (x ∷ []) (y ∷ [])) ≡ 1
variable-counted true x y one same = sum_by-cons value_count x [] ∙ ap (λ n. n + 0) one
variable-counted false x y one same = sum_by-cons value_count y [] ∙ ap (λ n. n + 0) same

array-counted : (b : Bool) (xs : List FieldRecord) (y : FieldRecord) (n : ℕ)
    → sum_by value_count xs ≡ n → value_count y ≡ n → sum_by value_count (cond b xs (y ∷ [])) ≡ n
array-counted true xs y n all same = all
array-counted false xs y n all same =
    sum_by-cons value_count y [] ∙ (let e : value_count y + 0 ≡ n = omega (arith, same) in e)

field-counted : (field : FieldRecord) → sum_by value_count (low_fields field) ≡ value_count field
field-counted (VariableRecord place usage shared) =
    variable-counted (nat_lt 32 (place.«end» - place.first)) _ _ refl refl
field-counted (ArrayRecord place usages is_range count shared) =
    let width = element_width place.first place.«end» count in
    array-counted (nat_lt 32 width) _ _ count
    (each-one (low_element place usages is_range shared width) (λ k. refl) 0 count) refl
field-counted (ConstantRecord place) = refl

pub low-counted : (fields : List FieldRecord)
    → sum_by value_count (flat_map low_fields fields) ≡ sum_by value_count fields
low-counted [] = refl
low-counted (field ∷ fields) =
    sum_by-append value_count (low_fields field) (flat_map low_fields fields)
    ∙ ap (λ n. n + sum_by value_count (flat_map low_fields fields)) (field-counted field)
    ∙ ap (λ n. value_count field + n) (low-counted fields)
    ∙ sym (sum_by-cons value_count field fields)
