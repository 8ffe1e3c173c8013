-- Bytes that a report has all of have the low bits of each of its values.
use Rattle.std.proofs.Common.{◌≡◌, ◌∙◌, ◌+◌, ◌-◌, ◌*◌, ◌/◌, ◌<◌, ◌≤◌, ℕ, zero, suc, ℤ, Bool, true, false, cond}
use Rattle.std.proofs.Common.{List, [], ◌∷◌, ◌++◌, length, Option, Result, Ok, Err, IsOk}
use Rattle.std.proofs.Common.{arith, nat_lt, refl, subst, sym}
use Rattle.std.specs.Prelude.{flat_map, sum_by}
use Rattle.std.proofs.lemmas.Bool.Decides.{nat_tests}
use Rattle.hidreport_lists.specs.Answer.{Refusal}
use Rattle.hidreport_fields.specs.Reading.{ValueRecord, element_width, reads, values_of, with_id}
use Rattle.hidreport_fields.specs.Records.{Attributes, ArrayRecord, ConstantRecord, FieldPlace}
use Rattle.hidreport_fields.specs.Records.{FieldRecord, ReportRecord, VariableRecord, own_id, place_of}
use Rattle.hidreport_fields.specs.ReportIds.{id_bits}
use Rattle.hidreport_fields.specs.Tiling.{Covers, Each, HasNoRest, IsOf}
use Rattle.hidreport_fields.specs.WritingLaws.{numbers_of, reads_numbers}
use Rattle.hidreport_fields.specs.WritingValues.{value_count}
use Rattle.hidreport_fields.specs.declared.field.usage.Usage.{Usage}
use Rattle.hidreport.specs.Fields.{each_from}
use Rattle.hidreport.specs.LowBits.{IsReadWhole, low_fields, low_place}
use Rattle.hidreport.specs.Reader.{before_numbers, report_numbers}
use Rattle.hidreport.specs.Runs.{RunRecord, StandFor, count_in, runs_of}
use Rattle.hidreport.specs.Working.{IsNarrow}
use Rattle.hidreport.proofs.LowLemmas.{low-counted}
use Rattle.hidreport.proofs.RunListLemmas.{own-by}
use Rattle.hidreport.proofs.RunReadLemmas.{own-passes}
use Rattle.hidreport.proofs.SameRunsLemmas.{same-refl, same-stand}
use Rattle.hidreport.proofs.WorkLemmas.{covers-up, values-ok}

-- the bytes are of the report that has this id
abbrev pub Passes : Option ℕ → List ℕ → Type 0
Passes id bytes = with_id id bytes (Ok (tt {0})) ≡ Ok (tt {0})

numbers-ok : (r : Result (List ValueRecord) Refusal) → IsOk r → IsOk (numbers_of r)
numbers-ok (Ok values) ok = refl
numbers-ok (Err refusal) ok = cc

before-ok : (r rest : Result (List ℤ) Refusal) → IsOk r → IsOk rest → IsOk (before_numbers r rest)
before-ok (Ok xs) (Ok ys) ok more = refl
before-ok (Ok xs) (Err refusal) ok more = cc
before-ok (Err refusal) rest ok more = cc

both-ok : (xs ys : List FieldRecord) (bytes : List ℕ) → IsOk (report_numbers xs bytes)
    → IsOk (report_numbers ys bytes) → IsOk (report_numbers (xs ++ ys) bytes)
both-ok [] ys bytes ok more = more
both-ok (x ∷ xs) ys bytes ok more = by (reads_numbers x bytes) (report_numbers xs bytes) ok
    (both-ok xs ys bytes) where
      by : (r rest : Result (List ℤ) Refusal) → IsOk (before_numbers r rest)
          → (IsOk rest → IsOk (report_numbers ys bytes) → IsOk (report_numbers (xs ++ ys) bytes))
          → IsOk (before_numbers r (report_numbers (xs ++ ys) bytes))
      by (Ok a) (Ok b) both rest = before-ok (Ok a) (report_numbers (xs ++ ys) bytes) refl (rest refl more)
      by (Ok a) (Err e) both rest = cc
      by (Err e) rest both later = cc

-- a field whose values have at most 32 bits
one-ok : (f : FieldRecord) (bytes : List ℕ) → HasNoRest f
    → (place_of f).first < (place_of f).«end» → (place_of f).«end» ≤ 8 * length bytes → IsNarrow f
    → Passes (own_id f) bytes → IsOk (report_numbers (f ∷ []) bytes)
one-ok f bytes whole some within narrow own =
    let ok : IsOk (reads f bytes) =
    subst (λ (r : Result (List ValueRecord) Refusal). IsOk r)
    (sym (own-passes (own_id f) bytes own (values_of f bytes)))
    (values-ok f bytes whole some within narrow) in
    before-ok (reads_numbers f bytes) (Ok []) (numbers-ok (reads f bytes) ok) refl

each-ok : (h : ℕ → FieldRecord) (bytes : List ℕ) (end : ℕ)
    → ((k : ℕ) → k < end → IsOk (report_numbers (h k ∷ []) bytes)) → (c n : ℕ) → c + n ≡ end
    → IsOk (report_numbers (each_from h c n) bytes)
each-ok h bytes end one c zero all = refl
each-ok h bytes end one c (suc n) all =
    both-ok (h c ∷ []) (each_from h (c + 1) n) bytes (one c (omega (arith, all)))
    (each-ok h bytes end one (c + 1) n (omega (arith, all)))

mul-up : (w a b : ℕ) → a ≤ b → w * a ≤ w * b
mul-up w a b le = grind arith

-- the low bits of an element
element-ok : (place : FieldPlace) (usages : List Usage) (is_range : Bool) (shared : Attributes)
    (width count index : ℕ) (bytes : List ℕ) → 32 < width
    → place.first + width * count ≤ 8 * length bytes → index < count
    → Passes place.report_id bytes
    → IsOk (report_numbers (ArrayRecord (low_place place (place.first + width * index)) usages
    is_range 1 shared ∷ []) bytes)
element-ok place usages is_range shared width count index bytes wide within there own =
    let at = place.first + width * index in
    let f = ArrayRecord (low_place place at) usages is_range 1 shared in
    let up : width * (index + 1) ≤ width * count = mul-up width (index + 1) count (omega (arith, there)) in
    let step : width * (index + 1) ≡ width * index + width = grind arith in
    let has : (at + 32 - at) / 1 ≡ 32 = omega arith in
    let whole : at + (at + 32 - at) / 1 * 1 ≡ at + 32 = omega (arith, has) in
    let narrow : (at + 32 - at) / 1 ≤ 32 = omega (arith, has) in
    one-ok f bytes whole (omega arith) (omega (arith, wide, up, step, within)) narrow own

-- and those of a field
variable-ok : (b : Bool) (place : FieldPlace) (usage : Usage) (shared : Attributes) (bytes : List ℕ)
    → nat_lt 32 (place.«end» - place.first) ≡ b → place.first < place.«end»
    → place.«end» ≤ 8 * length bytes → Passes place.report_id bytes
    → IsOk (report_numbers (cond b (VariableRecord (low_place place place.first) usage shared ∷ [])
    (VariableRecord place usage shared ∷ [])) bytes)
variable-ok true place usage shared bytes is some within own =
    let wide : 32 < place.«end» - place.first = grind (arith, nat_tests) in
    let narrow : place.first + 32 - place.first ≤ 32 = omega arith in
    one-ok (VariableRecord (low_place place place.first) usage shared) bytes tt (omega arith)
    (omega (arith, wide, within)) narrow own
variable-ok false place usage shared bytes is some within own =
    let narrow : place.«end» - place.first ≤ 32 = grind (arith, nat_tests) in
    one-ok (VariableRecord place usage shared) bytes tt some within narrow own

array-ok : (b : Bool) (place : FieldPlace) (usages : List Usage) (is_range : Bool) (count : ℕ)
    (shared : Attributes) (bytes : List ℕ)
    → nat_lt 32 (element_width place.first place.«end» count) ≡ b
    → place.first + element_width place.first place.«end» count * count ≡ place.«end»
    → place.first < place.«end» → place.«end» ≤ 8 * length bytes → Passes place.report_id bytes
    → IsOk (report_numbers (cond b (each_from (λ index. ArrayRecord (low_place place
    (place.first + element_width place.first place.«end» count * index)) usages is_range 1 shared) 0
    count) (ArrayRecord place usages is_range count shared ∷ [])) bytes)
array-ok true place usages is_range count shared bytes is whole some within own =
    let width = element_width place.first place.«end» count in
    let wide : 32 < width = grind (arith, nat_tests) in
    let held : place.first + width * count ≤ 8 * length bytes = omega (arith, whole, within) in
    each-ok _ bytes count (λ k lt. element-ok place usages is_range shared width count k bytes wide
    held lt own) 0 count (omega arith)
array-ok false place usages is_range count shared bytes is whole some within own =
    let narrow : element_width place.first place.«end» count ≤ 32 = grind (arith, nat_tests) in
    one-ok (ArrayRecord place usages is_range count shared) bytes whole some within narrow own

field-ok : (f : FieldRecord) (bytes : List ℕ) → HasNoRest f
    → (place_of f).first < (place_of f).«end» → (place_of f).«end» ≤ 8 * length bytes
    → Passes (own_id f) bytes → IsOk (report_numbers (low_fields f) bytes)
field-ok (VariableRecord place usage shared) bytes whole some within own =
    variable-ok (nat_lt 32 (place.«end» - place.first)) place usage shared bytes refl some within own
field-ok (ArrayRecord place usages is_range count shared) bytes whole some within own =
    array-ok (nat_lt 32 (element_width place.first place.«end» count)) place usages is_range count
    shared bytes refl whole some within own
field-ok (ConstantRecord place) bytes whole some within own =
    before-ok (reads_numbers (ConstantRecord place) bytes) (Ok [])
    (numbers-ok (reads (ConstantRecord place) bytes) (subst (λ (r : Result (List ValueRecord) Refusal). IsOk r)
    (sym (own-passes (own_id (ConstantRecord place)) bytes own (Ok []))) refl)) refl

-- the fields of a report
pub low-read : (id : Option ℕ) (bytes : List ℕ) (first end : ℕ) (fields : List FieldRecord)
    → Passes id bytes → end ≤ 8 * length bytes → Covers first fields end → Each HasNoRest fields
    → Each (IsOf id) fields → IsOk (report_numbers (flat_map low_fields fields) bytes)
low-read id bytes first end [] own within covers whole are = refl
low-read id bytes first end (f ∷ fields) own within covers whole are =
    let rest : (place_of f).«end» ≤ end = covers-up (place_of f).«end» end fields covers.2 in
    let some : (place_of f).first < (place_of f).«end» = omega (arith, covers.0, covers.1) in
    let held : (place_of f).«end» ≤ 8 * length bytes = omega (arith, rest, within) in
    both-ok (low_fields f) (flat_map low_fields fields) bytes
    (field-ok f bytes whole.0 some held (own-by (own_id f) id bytes are.0 own))
    (low-read id bytes (place_of f).«end» end fields own within covers.2 whole.1 are.1)

-- what such runs stand for

pub low-stands : (fields : List FieldRecord) (runs : List RunRecord)
    → runs ≡ runs_of (flat_map low_fields fields) → StandFor (flat_map low_fields fields) runs
low-stands fields runs is =
    let own = runs_of (flat_map low_fields fields) in
    subst (StandFor (flat_map low_fields fields)) (sym is)
    (same-stand (flat_map low_fields fields) own (same-refl own))

pub low-count : (fields : List FieldRecord) (runs : List RunRecord)
    → runs ≡ runs_of (flat_map low_fields fields) → count_in runs ≡ sum_by value_count fields
low-count fields runs is = (low-stands fields runs is).count ∙ low-counted fields

pub low-whole : (report : ReportRecord) (runs : List RunRecord)
    → runs ≡ runs_of (flat_map low_fields report.fields) → IsReadWhole report runs
low-whole report runs is = λ filled bytes enough own.
    subst (λ (r : Result (List ℤ) Refusal). IsOk r)
    (sym ((low-stands report.fields runs is).reads bytes))
    (low-read report.id bytes (id_bits report.id) report.size report.fields own enough filled.covers
    filled.elements filled.own)
