-- What was written is read.
use Rattle.std.proofs.Common.{◌≡◌, ℕ, zero, suc, ◌+◌, ◌-◌, ◌*◌, ◌<◌, ◌≤◌, Bool, true}
use Rattle.std.proofs.Common.{◌/◌, ◌%◌, ◌&&◌, false, cond, ◌||◌, ◌==◌, nat_lt, nat_le, List, [], ◌∷◌, length, get_or}
use Rattle.std.proofs.Common.{Option, Some, None, Result, Ok, Err, IsOk, map, refl, sym, ap, subst, ◌∙◌}
use Rattle.std.proofs.Common.{arith, ℤ, pos}
use Rattle.std.specs.List.{list_all}
use Rattle.std.proofs.Math.Nat.{mul-le-mul_left}
use Rattle.std.proofs.lemmas.Bool.Decides.{nat_tests}
use Rattle.std.proofs.lemmas.Nat.{div-mul-add, mod-mul-add}
use Rattle.std.proofs.Math.Nat.{mul_comm}
use Rattle.hidreport_lists.specs.Answer.{Refusal, OutOfBounds, MismatchingReportId}
use Rattle.hidreport_fields.specs.BitValue.{as_word, bit, value}
use Rattle.hidreport_fields.specs.Choosing.{value_number}
use Rattle.hidreport_fields.specs.Reading.{ValueRecord, before_values, each_value}
use Rattle.hidreport_fields.specs.Reading.{read_bits, with_id}
use Rattle.hidreport_fields.specs.WritingValues.{fits, number_bit, put}
use Rattle.hidreport_fields.specs.WritingLaws.{numbers_of}
use Rattle.hidreport_fields.proofs.PutBitsLemmas.{after-inside}
use Rattle.hidreport_fields.proofs.PutValuesLemmas.{put-bit}
use Rattle.hidreport_fields.proofs.ValueBitsLemmas.{number-read, value-of-bits}

-- bits are read as a number
pub record ReadsAs (answer : Result ValueRecord Refusal) (number : ℤ) : Type 0 where
  pub value : ValueRecord
  pub is : answer ≡ Ok value
  pub says : value_number value ≡ number

-- the test of a range that is read
pub readable : (b : Bool) (x : ValueRecord) → IsOk (cond b (Err OutOfBounds) (Ok x)) → b ≡ false
readable true x ok = cc
readable false x ok = refl

-- bits of a number that they hold are read as this number
pub bits-read : (first end : ℕ) (s : Bool) (old new : List ℕ) (z : ℤ) → length new ≡ length old
    → IsOk (read_bits first end s old) → fits (end - first) s z ≡ true
    → ((i : ℕ) → i < end - first → bit new (first + i) ≡ number_bit z i)
    → ReadsAs (read_bits first end s new) z
bits-read first end s old new z size ok fit each =
    let t : (nat_le end first || (nat_lt 32 (end - first) || nat_lt (8 * length old) end)) ≡ false =
    readable _ _ ok in
    let some : first < end = grind (arith, nat_tests, t) in
    let narrow : end - first ≤ 32 = grind (arith, nat_tests, t) in
    let same : (nat_le end first || (nat_lt 32 (end - first) || nat_lt (8 * length new) end))
    ≡ false = ap (λ k. nat_le end first || (nat_lt 32 (end - first) || nat_lt (8 * k) end)) size ∙ t
    in record {
      value = record { word = as_word (value new first (end - first) s); is_signed = s };
      is = ap (λ b. cond b (Err OutOfBounds)
          (Ok (record { word = as_word (value new first (end - first) s); is_signed = s }))) same;
      says = number-read new first (end - first) s narrow
          ∙ value-of-bits new first (end - first) s z (omega arith) fit each;
    }

-- a bit of a number that was put at an index
pub put-element : (first w : ℕ) (numbers : List ℤ) (old : List ℕ) (k i : ℕ) → k < length numbers
    → i < w → first + w * k + w ≤ 8 * length old
    → bit (put first w numbers old) (first + w * k + i) ≡ number_bit (get_or numbers k (pos 0)) i
put-element first w numbers old k i within lt room =
    let n = first + w * k + i in
    let some : w * (k + 1) ≤ w * length numbers = mul-le-mul_left w (omega arith) in
    let parts : w * (k + 1) ≡ w * k + w = omega arith in
    let below : n < first + w * length numbers = omega arith in
    let offset : n - first ≡ k * w + i = turned first w k i (mul_comm w k) in
    let index : (n - first) / w ≡ k = ap (λ m. m / w) offset ∙ div-mul-add k w i lt in
    let inside : (n - first) % w ≡ i = ap (λ m. m % w) offset ∙ mod-mul-add k w i lt in
    put-bit first w numbers old n (omega arith)
    ∙ after-inside first w numbers old n (omega arith) below
    ∙ ap (λ m. number_bit (get_or numbers m (pos 0)) ((n - first) % w)) index
    ∙ ap (number_bit (get_or numbers k (pos 0))) inside where
      turned : (first w k i : ℕ) → w * k ≡ k * w → first + w * k + i - first ≡ k * w + i
      turned first w k i e = omega arith

-- a number that is read, before others
pub number-before : (a : Result ValueRecord Refusal) (rest : Result (List ValueRecord) Refusal)
    (x : ValueRecord) (z : ℤ) (numbers : List ℤ) → a ≡ Ok x → value_number x ≡ z
    → numbers_of rest ≡ Ok numbers → numbers_of (before_values a rest) ≡ Ok (z ∷ numbers)
number-before (Err e) rest x z numbers p q r = cc
number-before (Ok y) (Err e) x z numbers p q r = cc
number-before (Ok y) (Ok ys) x z numbers p q r =
    let same : y ≡ x = cc in
    let more : map value_number ys ≡ numbers = cc in
    ap (λ n. Ok (n ∷ map value_number ys)) (ap value_number same ∙ q) ∙ ap (λ l. Ok (z ∷ l)) more

-- values that are read one by one are these numbers
pub each-read : (f : ℕ → Result ValueRecord Refusal) (numbers : List ℤ) (index : ℕ)
    → ((i : ℕ) → i < length numbers → ReadsAs (f (index + i)) (get_or numbers i (pos 0)))
    → numbers_of (each_value f index (length numbers)) ≡ Ok numbers
each-read f [] index each = refl
each-read f (z ∷ numbers) index each =
    let none : index + 0 ≡ index = omega arith in
    let head = each 0 (omega arith) in
    let first : f index ≡ Ok head.value = sym (ap f none) ∙ head.is in
    let rest = each-read f numbers (index + 1) (λ i lt.
    let next : index + suc i ≡ index + 1 + i = omega arith in
    subst (λ k. ReadsAs (f k) (get_or numbers i (pos 0))) next (each (suc i) (omega arith))) in
    number-before (f index) (each_value f (index + 1) (length numbers)) head.value z numbers first head.says
    rest

-- where all elements are read, so is each
pub each-readable : (f : ℕ → Result ValueRecord Refusal) (index more k : ℕ)
    → IsOk (each_value f index more) → k < more → IsOk (f (index + k))
each-readable f index zero k ok lt = absurd (omega arith)
each-readable f index (suc more) zero ok lt =
    let none : index + 0 ≡ index = omega arith in
    subst (λ i. IsOk (f i)) (sym none) (head-ok (f index) (each_value f (index + 1) more) ok) where
      head-ok : (a : Result ValueRecord Refusal) (rest : Result (List ValueRecord) Refusal)
          → IsOk (before_values a rest) → IsOk a
      head-ok (Ok x) rest ok = refl
      head-ok (Err e) rest ok = ok
each-readable f index (suc more) (suc k) ok lt =
    let next : index + 1 + k ≡ index + suc k = omega arith in
    subst (λ i. IsOk (f i)) next
    (each-readable f (index + 1) more k (rest-ok (f index) (each_value f (index + 1) more) ok)
    (omega arith)) where
      rest-ok : (a : Result ValueRecord Refusal) (rest : Result (List ValueRecord) Refusal)
          → IsOk (before_values a rest) → IsOk rest
      rest-ok (Ok x) (Ok xs) ok = refl
      rest-ok (Ok x) (Err e) ok = ok
      rest-ok (Err e) rest ok = cc

-- each of the numbers fits where all do
pub fit-at : (w : ℕ) (s : Bool) (numbers : List ℤ) (k : ℕ) → list_all (fits w s) numbers ≡ true
    → k < length numbers → fits w s (get_or numbers k (pos 0)) ≡ true
fit-at w s [] k all lt = absurd (omega arith)
fit-at w s (z ∷ numbers) zero all lt = both-first (fits w s z) (list_all (fits w s) numbers) all where
  both-first : (a b : Bool) → (a && b) ≡ true → a ≡ true
  both-first true b h = refl
  both-first false b h = h
fit-at w s (z ∷ numbers) (suc k) all lt =
    fit-at w s numbers k (both-second (fits w s z) (list_all (fits w s) numbers) all) (omega arith)
  where
    both-second : (a b : Bool) → (a && b) ≡ true → b ≡ true
    both-second true b h = h
    both-second false b h = cc

-- an id that lets an answer through lets each through
pub id-passes : {A B : Type 0} (id : Option ℕ) (bytes : List ℕ) (a : Result A Refusal)
    (b : Result B Refusal) → IsOk (with_id id bytes a) → with_id id bytes b ≡ b
id-passes None bytes a b ok = refl
id-passes (Some id) [] a b ok = cc
id-passes (Some id) (c ∷ bytes) a b ok = by (c == id) a b ok where
  by : {A B : Type 0} (t : Bool) (a : Result A Refusal) (b : Result B Refusal)
      → IsOk (cond t a (Err MismatchingReportId)) → cond t b (Err MismatchingReportId) ≡ b
  by true a b ok = refl
  by false a b ok = cc
