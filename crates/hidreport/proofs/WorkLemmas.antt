-- A report that is found by its bytes, and as many bytes as it has: each of its fields is read and
-- written.
use Rattle.std.proofs.Common.{◌≡◌, ℕ, zero, suc, ◌+◌, ◌*◌, ◌-◌, ◌<◌, ◌≤◌, ◌⊎◌, inl, inr, Bool, true}
use Rattle.std.proofs.Common.{◌&&◌}
use Rattle.std.proofs.Common.{false, cond, nat_le, nat_lt, ◌||◌, List, [], ◌∷◌, length, Option}
use Rattle.std.proofs.Common.{None, Some, IfSome, IsOk, Result, Ok, Err, ℤ, refl, sym, subst, ap}
use Rattle.std.proofs.Common.{arith}
use Rattle.std.specs.Prelude.{◌==◌}
use Rattle.std.specs.List.{list_all}
use Rattle.std.proofs.lemmas.Bool.Decides.{nat_tests}
use Rattle.std.proofs.lemmas.Grind.{common_steps}
use Rattle.hidreport_lists.specs.Answer.{Refusal, OutOfBounds, MismatchingReportId}
use Rattle.hidreport_fields.specs.Lookup.{find_report, reports_of}
use Rattle.hidreport_fields.specs.ReportIds.{id_bits}
use Rattle.hidreport_fields.specs.Reading.{ValueRecord, before_values, element, element_width, each_value}
use Rattle.hidreport_fields.specs.Reading.{is_signed, one_value, read_bits, reads, values_of, with_id}
use Rattle.hidreport_fields.specs.Reading.{element_of, reads_element}
use Rattle.hidreport_fields.specs.Records.{element_count}
use Rattle.hidreport_fields.specs.Records.{DescriptorRecord, FieldRecord, VariableRecord, ArrayRecord}
use Rattle.hidreport_fields.specs.Records.{ConstantRecord, ReportRecord, own_id, place_of}
use Rattle.hidreport_fields.specs.Tiling.{Covers, Each, HasNoRest, IsFilled, IsOf, IsTiled}
use Rattle.hidreport.specs.Working.{AllWork, FieldWorks, IsNarrow}
use Rattle.hidreport_fields.specs.WritingValues.{begins_in_id, fits, has_sign, placed, put, value_count}
use Rattle.hidreport_fields.specs.WritingValues.{value_width, where_read, written}
use Rattle.hidreport_fields.specs.declared.field.insert_error.InsertError.TheVariants as refused
use Rattle.hidreport_fields.specs.declared.field.data_item.Direction.{Direction}
use Rattle.hidreport.proofs.OwnReportsLemmas.{HoldsOfOwn, filled-of, found-holds}

else-ok : {A E : Type 0} (c : Bool) (x y : Result A E) → c ≡ false → IsOk y → IsOk (cond c x y)
else-ok true x y e ok = cc
else-ok false x y e ok = ok

then-ok : {A E : Type 0} (c : Bool) (x y : Result A E) → c ≡ true → IsOk x → IsOk (cond c x y)
then-ok true x y e ok = ok
then-ok false x y e ok = cc

-- bits that are there are read
bits-ok : (first end : ℕ) (signed : Bool) (bytes : List ℕ) → first < end → end - first ≤ 32
    → end ≤ 8 * length bytes → IsOk (read_bits first end signed bytes)
bits-ok first end signed bytes some narrow within =
    let clear : (nat_le end first
    || (nat_lt 32 (end - first) || nat_lt (8 * length bytes) end)) ≡ false =
    grind (arith, nat_tests) in
    else-ok (nat_le end first || (nat_lt 32 (end - first) || nat_lt (8 * length bytes) end))
    (Err OutOfBounds) (Ok _) clear refl

one-ok : (r : Result ValueRecord Refusal) → IsOk r → IsOk (one_value r)
one-ok (Ok x) ok = refl
one-ok (Err f) ok = cc

before-ok : (r : Result ValueRecord Refusal) (rest : Result (List ValueRecord) Refusal) → IsOk r
    → IsOk rest → IsOk (before_values r rest)
before-ok (Ok x) (Ok xs) ok more = refl
before-ok (Ok x) (Err f) ok more = cc
before-ok (Err f) rest ok more = cc

mul-up : (w a b : ℕ) → a ≤ b → w * a ≤ w * b
mul-up w a b le = grind arith

-- one element
element-ok : (first end count : ℕ) (signed : Bool) (bytes : List ℕ) (index : ℕ)
    → 0 < element_width first end count → element_width first end count ≤ 32
    → first + element_width first end count * count ≤ 8 * length bytes → index < count
    → IsOk (element first end count signed bytes index)
element-ok first end count signed bytes index some narrow within there =
    let w = element_width first end count in
    let up : w * (index + 1) ≤ w * count = mul-up w (index + 1) count (omega (arith, there)) in
    let step : w * (index + 1) ≡ w * index + w = grind arith in
    let behind : first + w * index + w ≤ 8 * length bytes = omega (arith, up, step, within) in
    bits-ok (first + w * index) (first + w * index + w) signed bytes (omega (arith, some))
    (omega (arith, narrow)) behind

elements-ok : (first end count : ℕ) (signed : Bool) (bytes : List ℕ) (index more : ℕ)
    → 0 < element_width first end count → element_width first end count ≤ 32
    → first + element_width first end count * count ≤ 8 * length bytes → index + more ≡ count
    → IsOk (each_value (element first end count signed bytes) index more)
elements-ok first end count signed bytes index zero some narrow within all = refl
elements-ok first end count signed bytes index (suc more) some narrow within all =
    before-ok (element first end count signed bytes index)
    (each_value (element first end count signed bytes) (index + 1) more)
    (element-ok first end count signed bytes index some narrow within (omega (arith, all)))
    (elements-ok first end count signed bytes (index + 1) more some narrow within
    (omega (arith, all)))

-- as far as a field goes
wide-of : (w count : ℕ) → 0 < w * count → 0 < w
wide-of zero count h = grind (arith, h)
wide-of (suc w) count h = omega arith

pub values-ok : (f : FieldRecord) (bytes : List ℕ) → HasNoRest f
    → (place_of f).first < (place_of f).«end» → (place_of f).«end» ≤ 8 * length bytes → IsNarrow f
    → IsOk (values_of f bytes)
values-ok (VariableRecord place usage shared) bytes whole some within narrow =
    one-ok (read_bits place.first place.«end» (is_signed shared) bytes)
    (bits-ok place.first place.«end» (is_signed shared) bytes some narrow within)
values-ok (ArrayRecord place usages is_range count shared) bytes whole some within narrow =
    let w = element_width place.first place.«end» count in
    let wide : 0 < w = wide-of w count (omega (arith, whole, some)) in
    elements-ok place.first place.«end» count (is_signed shared) bytes 0 count wide narrow
    (omega (arith, whole, within)) (omega arith)
values-ok (ConstantRecord place) bytes whole some within narrow = refl

-- and so far one of its elements
one-of-ok : (f : FieldRecord) (bytes : List ℕ) (index : ℕ) → HasNoRest f
    → (place_of f).first < (place_of f).«end» → (place_of f).«end» ≤ 8 * length bytes → IsNarrow f
    → index < element_count f → IsOk (element_of f bytes index)
one-of-ok (VariableRecord place usage shared) bytes index whole some within narrow there =
    absurd (omega (arith, there))
one-of-ok (ArrayRecord place usages is_range count shared) bytes index whole some within narrow
    there =
    let w = element_width place.first place.«end» count in
    let wide : 0 < w = wide-of w count (omega (arith, whole, some)) in
    element-ok place.first place.«end» count (is_signed shared) bytes index wide narrow
    (omega (arith, whole, within)) there
one-of-ok (ConstantRecord place) bytes index whole some within narrow there =
    absurd (omega (arith, there))

-- and is of the report
with-ok : {A : Type 0} (own : Option ℕ) (b : ℕ) (bytes : List ℕ) (answer : Result A Refusal)
    → (own ≡ None) ⊎ (own ≡ Some b) → IsOk answer → IsOk (with_id own (b ∷ bytes) answer)
with-ok None b bytes answer is ok = ok
with-ok (Some n) b bytes answer (inl none) ok = cc
with-ok (Some n) b bytes answer (inr some) ok =
    let is : n ≡ b = cc in
    let same : (b == n) ≡ true = grind (arith, common_steps, is) in
    then-ok (b == n) answer (Err MismatchingReportId) same ok

reads-ok : (f : FieldRecord) (b : ℕ) (bytes : List ℕ) → (own_id f ≡ None) ⊎ (own_id f ≡ Some b)
    → IsOk (values_of f (b ∷ bytes)) → IsOk (reads f (b ∷ bytes))
reads-ok f b bytes own ok = with-ok (own_id f) b bytes (values_of f (b ∷ bytes)) own ok

reads-one-ok : (f : FieldRecord) (b : ℕ) (bytes : List ℕ) (index : ℕ)
    → (own_id f ≡ None) ⊎ (own_id f ≡ Some b) → index < element_count f
    → IsOk (element_of f (b ∷ bytes) index) → IsOk (reads_element f (b ∷ bytes) index)
reads-one-ok f b bytes index own there ok =
    let within : nat_lt index (element_count f) ≡ true = grind (arith, nat_tests, there) in
    then-ok (nat_lt index (element_count f))
    (with_id (own_id f) (b ∷ bytes) (element_of f (b ∷ bytes) index)) (Err OutOfBounds) within
    (with-ok (own_id f) b bytes (element_of f (b ∷ bytes) index) own ok)

-- what is read is written, where it doesn't begin in the id
placed-ok : {A : Type 0} (f : FieldRecord) (first : ℕ) (numbers : List ℤ) (bytes : List ℕ)
    (r : Result A Refusal) → IsOk r → begins_in_id (own_id f) first ≡ false
    → list_all (fits (value_width f) (has_sign f)) numbers ≡ true
    → IsOk (where_read r (placed f first numbers bytes))
placed-ok f first numbers bytes (Err refusal) ok clear fit = cc
placed-ok f first numbers bytes (Ok values) ok clear fit =
    else-ok (begins_in_id (own_id f) first) (Err refused.OutOfBounds)
    (cond (list_all (fits (value_width f) (has_sign f)) numbers)
    (Ok (put first (value_width f) numbers bytes)) (Err refused.DoesNotFit)) clear
    (then-ok (list_all (fits (value_width f) (has_sign f)) numbers)
    (Ok (put first (value_width f) numbers bytes)) (Err refused.DoesNotFit) fit refl)

written-ok : (f : FieldRecord) (numbers : List ℤ) (bytes : List ℕ) → IsOk (reads f bytes)
    → begins_in_id (own_id f) (place_of f).first ≡ false → length numbers ≡ value_count f
    → list_all (fits (value_width f) (has_sign f)) numbers ≡ true → IsOk (written f numbers bytes)
written-ok f numbers bytes ok clear count fit =
    let same : (length numbers == value_count f) ≡ true = grind (arith, nat_tests, count) in
    then-ok (length numbers == value_count f)
    (where_read (reads f bytes) (placed f (place_of f).first numbers bytes))
    (Err refused.WrongCount) same
    (placed-ok f (place_of f).first numbers bytes (reads f bytes) ok clear fit)

clear-of-id : (own id : Option ℕ) (first : ℕ) → (own ≡ None) ⊎ (own ≡ id) → id_bits id ≤ first
    → begins_in_id own first ≡ false
clear-of-id None id first is from = refl
clear-of-id (Some n) None first (inl e) from = cc
clear-of-id (Some n) None first (inr e) from = cc
clear-of-id (Some n) (Some m) first is from = grind (arith, nat_tests, from)

pub covers-up : (first end : ℕ) (fields : List FieldRecord) → Covers first fields end → first ≤ end
covers-up first end [] covers = omega (arith, covers)
covers-up first end (f ∷ fields) covers =
    let rest = covers-up (place_of f).«end» end fields covers.2 in
    omega (arith, covers.0, covers.1, rest)

one-fits : (f : FieldRecord) (number : ℤ) → fits (value_width f) (has_sign f) number ≡ true
    → list_all (fits (value_width f) (has_sign f)) (number ∷ []) ≡ true
one-fits f number fit = ap (λ t. t && true) fit

-- the fields of a report
pub fields-work : (id : Option ℕ) (b : ℕ) (bytes : List ℕ) (first end : ℕ) (fields : List FieldRecord)
    → ((f : FieldRecord) → IsOf id f → (own_id f ≡ None) ⊎ (own_id f ≡ Some b))
    → id_bits id ≤ first → end ≤ 8 * length (b ∷ bytes) → Covers first fields end
    → Each HasNoRest fields → Each (IsOf id) fields → Each (FieldWorks (b ∷ bytes)) fields
fields-work id b bytes first end [] own from within covers whole are = tt
fields-work id b bytes first end (f ∷ fields) own from within covers whole are =
    let rest : (place_of f).«end» ≤ end = covers-up (place_of f).«end» end fields covers.2 in
    let some : (place_of f).first < (place_of f).«end» = omega (arith, covers.0, covers.1) in
    let held : (place_of f).«end» ≤ 8 * length (b ∷ bytes) = omega (arith, rest, within) in
    let behind : id_bits id ≤ (place_of f).first = omega (arith, covers.0, from) in
    let after : id_bits id ≤ (place_of f).«end» = omega (arith, behind, some) in
    let read : IsNarrow f → IsOk (reads f (b ∷ bytes)) =
    λ narrow. reads-ok f b bytes (own f are.0) (values-ok f (b ∷ bytes) whole.0 some held narrow) in
    let one : IsNarrow f → (index : ℕ) → index < element_count f
    → IsOk (reads_element f (b ∷ bytes) index) =
    λ narrow index there. reads-one-ok f b bytes index (own f are.0) there
    (one-of-ok f (b ∷ bytes) index whole.0 some held narrow there) in (
      record {
        reads = read;
        writes = λ narrow numbers count fit. written-ok f numbers (b ∷ bytes) (read narrow)
            (clear-of-id (own_id f) id (place_of f).first are.0 behind) count fit;
        reads_one = one;
        writes_one = λ narrow index number there fit.
            placed-ok f ((place_of f).first + value_width f * index) (number ∷ []) (b ∷ bytes)
            (reads_element f (b ∷ bytes) index) (one narrow index there)
            (clear-of-id (own_id f) id ((place_of f).first + value_width f * index) are.0
            (omega (arith, behind))) (one-fits f number fit);
      },
      fields-work id b bytes (place_of f).«end» end fields own after within covers.2 whole.1 are.1,
    )

report-works : (b : ℕ) (bytes : List ℕ) → HoldsOfOwn (AllWork (b ∷ bytes)) b
report-works b bytes r filled own enough =
    fields-work r.id b bytes (id_bits r.id) r.size r.fields own (omega arith) enough filled.covers
    filled.elements filled.own

found-works : (rs : List ReportRecord) (bytes : List ℕ) → Each IsFilled rs
    → IfSome (find_report rs bytes) (AllWork bytes)
found-works rs bytes filled = found-holds (AllWork bytes) bytes rs
    (λ b more e. subst (λ l. HoldsOfOwn (AllWork l) b) (sym e) (report-works b more)) filled

-- those of any direction
pub works-of : (way : Direction) (d : DescriptorRecord) (bytes : List ℕ) → IsTiled d
    → IfSome (find_report (reports_of way d) bytes) (AllWork bytes)
works-of way d bytes t = found-works (reports_of way d) bytes (filled-of way d t)
