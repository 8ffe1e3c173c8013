-- All values of a field, written one after the other.
use Rattle.std.proofs.Common.{◌≡◌, ℕ, zero, suc, ◌+◌, ◌<◌, List, [], ◌∷◌, length, take}
use Rattle.std.proofs.Common.{slice_set, Option, None, Some, IsOk, Result, Ok, Err, Bool, true}
use Rattle.std.proofs.Common.{false, not, cond, nat_le, nat_lt, ◌||◌, ◌*◌, ◌-◌, ◌≤◌}
use Rattle.std.proofs.Common.{◌⊎◌, inl, inr, refl, ap, sym, ◌∙◌, arith}
use Rattle.std.proofs.Math.Dec.{leb}
use Rattle.std.proofs.Math.Seq.{drop-nil, take-nil}
use Rattle.std.proofs.lemmas.Bool.Decides.{nat_tests}
use Rattle.std.specs.Prelude.{◌==◌, slice_get}
use Rattle.hidreport.specs.Answer.{Refusal, OutOfBounds, MismatchingReportId}
use Rattle.hidreport_fields.proofs.ElementLemmas.{elements-outside, elements-readable-by}
use Rattle.hidreport.specs.Reading.{ValueRecord, before_values, element, each_value, with_id}
use Rattle.hidreport.specs.Reading.{element_width}
use Rattle.hidreport_c.proofs.ListsLemmas.{written-none}
use Rattle.hidreport_c.specs.Answer.{as_answer, offset_of, array_after}
use Rattle.hidreport_c.specs.Status.{by_status, status_of}
use Rattle.hidreport_c.specs.Value.{acceptance, elements_at, id_of, value_numbers, values_at}
use Rattle.hidreport_c.specs.declared.structs.HidreportField.{HidreportField}

pub accepted-ok : {A : Type 0} (r : Result A Refusal) → IsOk r → by_status (acceptance r) ≡ Ok tt
accepted-ok (Ok x) ok = refl
accepted-ok (Err refusal) ok = cc

pub ok-is : (r : Result (List ValueRecord) Refusal) → IsOk r → (xs : List ValueRecord) × (r ≡ Ok xs)
ok-is (Ok xs) ok = (xs, refl)
ok-is (Err refusal) ok = cc

-- one more is written behind those before it
pub set-written : {A : Type 0} (xs old : List A) (j : ℕ) (x : A) → slice_get xs j ≡ Some x
    → j < length old
    → slice_set (array_after (take j xs) old) j x ≡ array_after (take (suc j) xs) old
set-written [] old j x at within = cc
set-written (y ∷ xs) [] j x at within = absurd (omega (arith, within))
set-written (y ∷ xs) (o ∷ old) zero x at within =
    let same : y ≡ x = cc in
    ap (λ rest. x ∷ rest) (sym (written-none old)) ∙ ap (λ z. z ∷ array_after [] old) (sym same)
set-written (y ∷ xs) (o ∷ old) (suc j) x at within =
    ap (λ rest. y ∷ rest) (set-written xs old j x at (omega (arith, within)))

-- where all are written, or the array is full, nothing more is
pub written-whole : {A : Type 0} (xs old : List A) (i : ℕ) → (length xs ≤ i) ⊎ (length old ≤ i)
    → array_after (take i xs) old ≡ array_after xs old
written-whole [] old i past = ap (λ ys. array_after ys old) (take-nil i)
written-whole (x ∷ xs) [] i past = drop-nil (length (take i (x ∷ xs)))
    ∙ sym (drop-nil (length (x ∷ xs)))
written-whole (x ∷ xs) (o ∷ old) zero (inl past) = absurd (omega (arith, past))
written-whole (x ∷ xs) (o ∷ old) zero (inr past) = absurd (omega (arith, past))
written-whole (x ∷ xs) (o ∷ old) (suc i) (inl past) =
    ap (λ rest. x ∷ rest) (written-whole xs old i (inl (omega (arith, past))))
written-whole (x ∷ xs) (o ∷ old) (suc i) (inr past) =
    ap (λ rest. x ∷ rest) (written-whole xs old i (inr (omega (arith, past))))

before-parts : (a : Result ValueRecord Refusal) (rest : Result (List ValueRecord) Refusal)
    (all : List ValueRecord) → before_values a rest ≡ Ok all
    → (x : ValueRecord) × (xs : List ValueRecord) × (a ≡ Ok x) × (rest ≡ Ok xs) × (x ∷ xs ≡ all)
before-parts (Err e) rest all h = cc
before-parts (Ok x) (Err e) all h = cc
before-parts (Ok x) (Ok xs) all h = (x, xs, refl, refl, cc)

-- there are as many values as elements
pub elements-length : (first end count : ℕ) (s : Bool) (bytes : List ℕ) (index more : ℕ)
    (all : List ValueRecord)
    → each_value (element first end count s bytes) index more ≡ Ok all → length all ≡ more
elements-length first end count s bytes index zero all h =
    let none : [] ≡ all = cc in ap length (sym none)
elements-length first end count s bytes index (suc more) all h =
    let parts = before-parts (element first end count s bytes index)
    (each_value (element first end count s bytes) (index + 1) more) all h in
    ap length (sym parts.4)
    ∙ ap suc (elements-length first end count s bytes (index + 1) more parts.1 parts.3)

pub refused-where : (b : Bool) (x : ValueRecord) → b ≡ true
    → cond b (Err OutOfBounds) (Ok x) ≡ Err OutOfBounds
refused-where true x h = refl
refused-where false x h = cc

-- bits are read where they are 1 to 32, and end within
inside : (a w n : ℕ) → 0 < w → w ≤ 32 → a + w ≤ n
    → (nat_le (a + w) a || (nat_lt 32 (a + w - a) || nat_lt n (a + w))) ≡ false
inside a w n some narrow within = grind (arith, nat_tests)

outside : (a w n : ℕ) → (0 < w → w ≤ 32 → n < a + w)
    → (nat_le (a + w) a || (nat_lt 32 (a + w - a) || nat_lt n (a + w))) ≡ true
outside a w n past = grind (arith, nat_tests)

-- one more of the same width
pub one-more : (w count last : ℕ) → count ≡ last + 1 → w * count ≡ w * last + w
one-more w count last is = ap (λ n. w * n) is ∙ omega arith

-- all values are there where the last one has 1 to 32 bits and ends in the bytes
pub elements-accepted : (first end count last : ℕ) (s : Bool) (bytes : List ℕ) (w : ℕ)
    → count ≡ last + 1 → w ≡ element_width first end count → 0 < w → w ≤ 32
    → first + w * last + w ≤ 8 * length bytes
    → IsOk (each_value (element first end count s bytes) 0 count)
elements-accepted first end count last s bytes w counts is some narrow within =
    elements-readable-by first end count s bytes count last w (first + w * last) counts is refl
    (ap not (inside (first + w * last) w (8 * length bytes) some narrow within))

-- and none is where it hasn't, or doesn't
pub elements-past : (first end count last : ℕ) (s : Bool) (bytes : List ℕ) (w : ℕ)
    → count ≡ last + 1 → w ≡ element_width first end count
    → (0 < w → w ≤ 32 → 8 * length bytes < first + w * last + w)
    → each_value (element first end count s bytes) 0 count ≡ Err OutOfBounds
elements-past first end count last s bytes w counts is past =
    let width = element_width first end count in
    elements-outside first end count s bytes count last (omega (arith, counts))
    (refused-where _ _ (outside (first + width * last) width (8 * length bytes)
    (rw (sym is) past)))

abbrev given : ValueRecord → Result ValueRecord Refusal
given x = Ok x

same-value : (x y : ValueRecord) → given x ≡ given y → Some x ≡ Some y
same-value x y h = cc

-- each value stands at its index
pub element-listed : (first end count : ℕ) (s : Bool) (bytes : List ℕ) (index more : ℕ)
    (all : List ValueRecord) (j : ℕ) (x : ValueRecord)
    → each_value (element first end count s bytes) index more ≡ Ok all → j < more
    → element first end count s bytes (index + j) ≡ Ok x → slice_get all j ≡ Some x
element-listed first end count s bytes index zero all j x h within found =
    absurd (omega (arith, within))
element-listed first end count s bytes index (suc more) all zero x h within found =
    let parts = before-parts (element first end count s bytes index)
    (each_value (element first end count s bytes) (index + 1) more) all h in
    let here : index + 0 ≡ index = omega arith in
    let is = sym parts.2 ∙ ap (λ i. element first end count s bytes i) (sym here) ∙ found in
    ap (λ l. slice_get l 0) (sym parts.4) ∙ same-value parts.0 x is
element-listed first end count s bytes index (suc more) all (suc j) x h within found =
    let parts = before-parts (element first end count s bytes index)
    (each_value (element first end count s bytes) (index + 1) more) all h in
    let here : index + 1 + j ≡ index + suc j = omega arith in
    ap (λ l. slice_get l (suc j)) (sym parts.4)
    ∙ element-listed first end count s bytes (index + 1) more parts.1 j x parts.3
    (omega (arith, within)) (ap (λ i. element first end count s bytes i) here ∙ found)

pub refused-not-ok : (r : Result (List ValueRecord) Refusal) (all : List ValueRecord)
    → r ≡ Err OutOfBounds → r ≡ Ok all → ⊥
refused-not-ok (Ok xs) all refused ok = cc
refused-not-ok (Err e) all refused ok = cc

test-place : {A : Type 0} (b : Bool) (x : A) (r : Refusal) → cond b (Err OutOfBounds) (Ok x) ≡ Err r
    → offset_of r ≡ 0
test-place true x r h = let is : OutOfBounds ≡ r = cc in ap offset_of (sym is)
test-place false x r h = cc

first-place : (a : Result ValueRecord Refusal) (rest : Result (List ValueRecord) Refusal)
    (r : Refusal) → before_values a rest ≡ Err r
    → (a ≡ Err r → offset_of r ≡ 0) → (rest ≡ Err r → offset_of r ≡ 0) → offset_of r ≡ 0
first-place (Err e) rest r h one more = let is : e ≡ r = cc in one (ap (λ (z : Refusal). Err z) is)
first-place (Ok x) (Err e) r h one more =
    let is : e ≡ r = cc in more (ap (λ (z : Refusal). Err z) is)
first-place (Ok x) (Ok xs) r h one more = cc

byte-place : (b : Bool) (a : Result (List ValueRecord) Refusal) (r : Refusal)
    → cond b a (Err MismatchingReportId) ≡ Err r → (a ≡ Err r → offset_of r ≡ 0) → offset_of r ≡ 0
byte-place true a r h more = more h
byte-place false a r h more = let is : MismatchingReportId ≡ r = cc in ap offset_of (sym is)

elements-place : (first end count : ℕ) (s : Bool) (bytes : List ℕ) (index more : ℕ) (r : Refusal)
    → each_value (element first end count s bytes) index more ≡ Err r → offset_of r ≡ 0
elements-place first end count s bytes index zero r h = cc
elements-place first end count s bytes index (suc more) r h =
    first-place (element first end count s bytes index)
    (each_value (element first end count s bytes) (index + 1) more) r h
    (λ e. test-place _ _ r e) (λ e. elements-place first end count s bytes (index + 1) more r e)

id-place : (id : Option ℕ) (bytes : List ℕ) (a : Result (List ValueRecord) Refusal) (r : Refusal)
    → with_id id bytes a ≡ Err r → (a ≡ Err r → offset_of r ≡ 0) → offset_of r ≡ 0
id-place None bytes a r h more = more h
id-place (Some id) [] a r h more = let is : OutOfBounds ≡ r = cc in ap offset_of (sym is)
id-place (Some id) (b ∷ bytes) a r h more = byte-place (b == id) a r h more

told : (a : Result (List ValueRecord) Refusal) (status : ℕ)
    → ((r : Refusal) → a ≡ Err r → offset_of r ≡ 0) → Err status ≡ by_status (acceptance a)
    → record { count = 0; offset = 0; status = status } ≡ as_answer (value_numbers a)
told (Ok xs) status place h = cc
told (Err r) status place h =
    let is : status ≡ status_of r = cc in
    ap (λ s. record { count = 0; offset = 0; status = s }) is
    ∙ ap (λ o. record { count = 0; offset = o; status = status_of r }) (sym (place r refl))

-- a refusal of values has no place
pub values-place : (f : HidreportField) (bytes : List ℕ) (r : Refusal)
    → values_at f bytes ≡ Err r → offset_of r ≡ 0
values-place f bytes r e = id-place (id_of f) bytes (elements_at f bytes) r e
    (λ inside. elements-place f.first_bit f.end_bit f.value_count _ bytes 0 f.value_count r inside)

pub values-refused : (f : HidreportField) (bytes : List ℕ) (status : ℕ)
    → Err status ≡ by_status (acceptance (values_at f bytes))
    → record { count = 0; offset = 0; status = status }
    ≡ as_answer (value_numbers (values_at f bytes))
values-refused f bytes status h = told (values_at f bytes) status (values-place f bytes) h
