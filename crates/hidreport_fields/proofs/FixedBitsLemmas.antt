-- A value fixes the bits that it is read from.
use Rattle.std.proofs.Common.{◌≡◌, ◌↔◌, ℕ, zero, suc, ◌+◌, ◌-◌, ◌*◌, ◌^◌, ◌<◌, ◌≤◌, ◌⊎◌, inl, inr}
use Rattle.std.proofs.Common.{Bool, true, false, cond, ◌||◌, nat_le, nat_lt, List, [], ◌∷◌, Option}
use Rattle.std.proofs.Common.{None, Some, Result, Ok, Err, refl, sym, ap, ◌∙◌, subst, arith}
use Rattle.std.specs.Prelude.{pos, ◌-ℤ◌, ◌==◌, length}
use Rattle.std.proofs.Math.Pow.{pow_mono}
use Rattle.std.proofs.Math.Nat.{mul-add}
use Rattle.std.proofs.lemmas.Bool.Decides.{nat_tests}
use Rattle.std.proofs.lemmas.Grind.{common_steps}
use Rattle.hidreport_lists.specs.Answer.{Refusal, OutOfBounds, MismatchingReportId}
use Rattle.hidreport_fields.specs.BitValue.{as_word, bit, sum_of_bits, value}
use Rattle.hidreport_fields.specs.Reading.{ValueRecord, before_values, element, element_width}
use Rattle.hidreport_fields.specs.Reading.{each_value, is_signed, one_value, read_bits}
use Rattle.hidreport_fields.specs.Records.{own_id}
use Rattle.hidreport_fields.specs.Reading.{values_of, with_id}
use Rattle.hidreport_fields.specs.Records.{FieldRecord, VariableRecord, ArrayRecord, ConstantRecord}
use Rattle.hidreport_fields.specs.Bits.{AgreeOn, FixesBits, covered_bits}
use Rattle.hidreport_fields.specs.Records.{place_of}
use Rattle.hidreport_fields.proofs.BitLemmas.{below-word, bit-small, plain-word, sum-small, zero-or-one}

-- a number below P, and P once or not at all: the sum tells both
abbrev Told : ℕ → ℕ → ℕ → ℕ → Type 0
Told x y b c = (b ≡ c) × (x ≡ y)

told-by : (x y P b c : ℕ) → (b ≡ 0) ⊎ (b ≡ 1) → (c ≡ 0) ⊎ (c ≡ 1) → x < P → y < P
    → x + b * P ≡ y + c * P → Told x y b c
told-by x y P b c (inl p) (inl q) u v e =
    let f : x + 0 * P ≡ y + 0 * P = sym (ap (λ n. x + n * P) p) ∙ e
    ∙ ap (λ n. y + n * P) q in (p ∙ sym q, omega (arith, f))
told-by x y P b c (inl p) (inr q) u v e =
    let f : x + 0 * P ≡ y + 1 * P = sym (ap (λ n. x + n * P) p) ∙ e
    ∙ ap (λ n. y + n * P) q in absurd (omega (arith, f, u, v))
told-by x y P b c (inr p) (inl q) u v e =
    let f : x + 1 * P ≡ y + 0 * P = sym (ap (λ n. x + n * P) p) ∙ e
    ∙ ap (λ n. y + n * P) q in absurd (omega (arith, f, u, v))
told-by x y P b c (inr p) (inr q) u v e =
    let f : x + 1 * P ≡ y + 1 * P = sym (ap (λ n. x + n * P) p) ∙ e
    ∙ ap (λ n. y + n * P) q in (p ∙ sym q, omega (arith, f))

told : (x y P b c : ℕ) → b < 2 → c < 2 → x < P → y < P → x + b * P ≡ y + c * P → Told x y b c
told x y P b c bs cs u v e = told-by x y P b c (zero-or-one b bs) (zero-or-one c cs) u v e

-- one bit more
agree-more : (bytes other : List ℕ) (s w : ℕ) → AgreeOn s w bytes other
    → bit bytes (s + w) ≡ bit other (s + w) → AgreeOn s (suc w) bytes other
agree-more bytes other s w agree top i lt = agree-by (nat_lt i w) refl where
  agree-by : (b : Bool) → nat_lt i w ≡ b → bit bytes (s + i) ≡ bit other (s + i)
  agree-by true e = agree i (grind (arith, nat_tests))
  agree-by false e = let same : i ≡ w = grind (arith, nat_tests, common_steps) in ap
      (λ n. bit bytes (s + n)) same ∙ top ∙ sym (ap (λ n. bit other (s + n)) same)

pub sum-told : (bytes other : List ℕ) (s w : ℕ) → sum_of_bits bytes s w ≡ sum_of_bits other s w
    → AgreeOn s w bytes other
sum-told bytes other s zero e = λ i lt. absurd (omega (arith, lt))
sum-told bytes other s (suc w) e =
    let t = told (sum_of_bits bytes s w) (sum_of_bits other s w) (2 ^ w) (bit bytes (s + w))
    (bit other (s + w)) (bit-small bytes (s + w)) (bit-small other (s + w))
    (sum-small bytes s w) (sum-small other s w) e in
    agree-more bytes other s w (sum-told bytes other s w t.1) t.0

pub sum-same : (bytes other : List ℕ) (s w : ℕ) → AgreeOn s w bytes other
    → sum_of_bits bytes s w ≡ sum_of_bits other s w
sum-same bytes other s zero agree = refl
sum-same bytes other s (suc w) agree =
    ap (λ n. n + bit bytes (s + w) * 2 ^ w)
    (sum-same bytes other s w (λ i lt. agree i (omega (arith, lt))))
    ∙ ap (λ n. sum_of_bits other s w + n * 2 ^ w) (agree w (omega arith))

-- a signed value as 32 bits
signed-by : (x y P b c : ℕ) → (b ≡ 0) ⊎ (b ≡ 1) → (c ≡ 0) ⊎ (c ≡ 1) → x < P → y < P → P ≤ 2 ^ 31
    → as_word (pos x -ℤ pos (b * P)) ≡ as_word (pos y -ℤ pos (c * P)) → Told x y b c
signed-by x y P b c (inl p) (inl q) u v le e =
    let f : as_word (pos x -ℤ pos (0 * P)) ≡ as_word (pos y -ℤ pos (0 * P)) =
    sym (ap (λ n. as_word (pos x -ℤ pos (n * P))) p) ∙ e
    ∙ ap (λ n. as_word (pos y -ℤ pos (n * P))) q in
    (p ∙ sym q, sym (plain-word x P) ∙ f ∙ plain-word y P)
signed-by x y P b c (inl p) (inr q) u v le e =
    let f : x ≡ as_word (pos y -ℤ pos (1 * P)) =
    sym (ap (λ n. as_word (pos x -ℤ pos (n * P))) p ∙ plain-word x P) ∙ e
    ∙ ap (λ n. as_word (pos y -ℤ pos (n * P))) q in
    let one : 1 * P ≡ P = omega arith in
    let g : x ≡ 2 ^ 32 - (P - y) = f ∙ ap (λ n. as_word (pos y -ℤ pos n)) one ∙ below-word y P v in
    absurd (omega (arith, g, u, v, le))
signed-by x y P b c (inr p) (inl q) u v le e =
    let f : as_word (pos x -ℤ pos (1 * P)) ≡ y = sym (ap (λ n. as_word (pos x -ℤ pos (n * P))) p)
    ∙ e ∙ (ap (λ n. as_word (pos y -ℤ pos (n * P))) q ∙ plain-word y P) in
    let one : 1 * P ≡ P = omega arith in
    let g : 2 ^ 32 - (P - x) ≡ y = sym (ap (λ n. as_word (pos x -ℤ pos n)) one ∙ below-word x P u)
    ∙ f in
    absurd (omega (arith, g, u, v, le))
signed-by x y P b c (inr p) (inr q) u v le e =
    let one : 1 * P ≡ P = omega arith in
    let f : as_word (pos x -ℤ pos (1 * P)) ≡ as_word (pos y -ℤ pos (1 * P)) =
    sym (ap (λ n. as_word (pos x -ℤ pos (n * P))) p) ∙ e
    ∙ ap (λ n. as_word (pos y -ℤ pos (n * P))) q in
    let g : 2 ^ 32 - (P - x) ≡ 2 ^ 32 - (P - y) =
    sym (ap (λ n. as_word (pos x -ℤ pos n)) one ∙ below-word x P u) ∙ f
    ∙ (ap (λ n. as_word (pos y -ℤ pos n)) one ∙ below-word y P v) in
    (p ∙ sym q, omega (arith, g, u, v, le))

word-told : (bytes other : List ℕ) (s w : ℕ) (signed : Bool) → w ≤ 32
    → as_word (value bytes s w signed) ≡ as_word (value other s w signed) → AgreeOn s w bytes other
word-told bytes other s w false le e = sum-told bytes other s w e
word-told bytes other s zero true le e = λ i lt. absurd (omega (arith, lt))
word-told bytes other s (suc w) true le e =
    let narrow : w ≤ 31 = omega (arith, le) in
    let small : 2 ^ w ≤ 2 ^ 31 = pow_mono narrow in
    let t = signed-by (sum_of_bits bytes s w) (sum_of_bits other s w) (2 ^ w) (bit bytes (s + w))
    (bit other (s + w)) (zero-or-one (bit bytes (s + w)) (bit-small bytes (s + w)))
    (zero-or-one (bit other (s + w)) (bit-small other (s + w))) (sum-small bytes s w)
    (sum-small other s w) small e in
    agree-more bytes other s w (sum-told bytes other s w t.1) t.0

pub word-same : (bytes other : List ℕ) (s w : ℕ) (signed : Bool) → AgreeOn s w bytes other
    → value bytes s w signed ≡ value other s w signed
word-same bytes other s w false agree = ap pos (sum-same bytes other s w agree)
word-same bytes other s zero true agree = refl
word-same bytes other s (suc w) true agree =
    ap (λ n. pos n -ℤ pos (bit bytes (s + w) * 2 ^ w))
    (sum-same bytes other s w (λ i lt. agree i (omega (arith, lt))))
    ∙ ap (λ n. pos (sum_of_bits other s w) -ℤ pos (n * 2 ^ w)) (agree w (omega arith))

-- a range of bits that is read

abbrev record_of : List ℕ → ℕ → ℕ → Bool → ValueRecord
record_of bytes s w signed = record { word = as_word (value bytes s w signed); is_signed = signed }

read-by : (a b c : Bool) (width : ℕ) (x y : ValueRecord) → nat_lt 32 width ≡ b
    → cond (a || (b || c)) (Err OutOfBounds) (Ok x) ≡ Ok y → (x ≡ y) × (width ≤ 32)
read-by true b c width x y e r = cc
read-by false true c width x y e r = cc
read-by false false true width x y e r = cc
read-by false false false width x y e r = (cc, grind (arith, nat_tests))

read-told : (first end : ℕ) (signed : Bool) (bytes : List ℕ) (x : ValueRecord)
    → read_bits first end signed bytes ≡ Ok x
    → (record_of bytes first (end - first) signed ≡ x) × (end - first ≤ 32)
read-told first end signed bytes x r =
    read-by (nat_le end first) (nat_lt 32 (end - first)) (nat_lt (8 * length bytes) end)
    (end - first) (record_of bytes first (end - first) signed) x refl r

read-fixes : (first end : ℕ) (signed : Bool) (bytes other : List ℕ) (x y : ValueRecord)
    → read_bits first end signed bytes ≡ Ok x → read_bits first end signed other ≡ Ok y
    → (x ≡ y) ↔ AgreeOn first (end - first) bytes other
read-fixes first end signed bytes other x y r q =
    let a = read-told first end signed bytes x r in
    let b = read-told first end signed other y q in (
      (λ e. word-told bytes other first (end - first) signed a.1
          (ap (λ (v : ValueRecord). v.word) (a.0 ∙ e ∙ sym b.0))),
      (λ agree. sym a.0
          ∙ ap (λ v. record { word = as_word v; is_signed = signed })
          (word-same bytes other first (end - first) signed agree) ∙ b.0),
    )

-- elements, one behind the other

abbrev SameList : List ValueRecord → List ValueRecord → Type 0
SameList xs ys = xs ≡ ys

pair-told : (x y : ValueRecord) (xs ys : List ValueRecord) → SameList (x ∷ xs) (y ∷ ys)
    → (x ≡ y) × SameList xs ys
pair-told x y xs ys e = (cc, cc)

pair-same : (x y : ValueRecord) (xs ys : List ValueRecord) → x ≡ y → SameList xs ys
    → SameList (x ∷ xs) (y ∷ ys)
pair-same x y xs ys p q = ap (λ v. v ∷ xs) p ∙ ap (λ l. y ∷ l) q

-- the first value, and those behind it
record Split (head : Result ValueRecord Refusal) (rest : Result (List ValueRecord) Refusal)
    (all : List ValueRecord) : Type 0 where
  first : ValueRecord
  more : List ValueRecord
  is_first : head ≡ Ok first
  is_rest : rest ≡ Ok more
  is_all : first ∷ more ≡ all

split : (head : Result ValueRecord Refusal) (rest : Result (List ValueRecord) Refusal)
    (all : List ValueRecord) → before_values head rest ≡ Ok all → Split head rest all
split (Err e) rest all h = cc
split (Ok x) (Err e) all h = cc
split (Ok x) (Ok xs) all h = record
    { first = x; more = xs; is_first = refl; is_rest = refl; is_all = cc }

agree-front : (bytes other : List ℕ) (s a b : ℕ) → AgreeOn s (a + b) bytes other
    → AgreeOn s a bytes other
agree-front bytes other s a b agree i lt = agree i (omega (arith, lt))

agree-back : (bytes other : List ℕ) (s a b : ℕ) → AgreeOn s (a + b) bytes other
    → AgreeOn (s + a) b bytes other
agree-back bytes other s a b agree i lt =
    let same : s + (a + i) ≡ s + a + i = omega arith in
    sym (ap (bit bytes) same) ∙ agree (a + i) (omega (arith, lt)) ∙ ap (bit other) same

agree-both : (bytes other : List ℕ) (s a b : ℕ) → AgreeOn s a bytes other
    → AgreeOn (s + a) b bytes other → AgreeOn s (a + b) bytes other
agree-both bytes other s a b front back i lt = agree-at (nat_lt i a) refl where
  agree-at : (c : Bool) → nat_lt i a ≡ c → bit bytes (s + i) ≡ bit other (s + i)
  agree-at true e = front i (grind (arith, nat_tests))
  agree-at false e =
      let behind : a ≤ i = grind (arith, nat_tests, common_steps) in
      let same : s + a + (i - a) ≡ s + i = omega (arith, behind) in
      sym (ap (bit bytes) same) ∙ back (i - a) (omega (arith, lt, behind)) ∙ ap (bit other) same

next_place : (first w index : ℕ) → first + w * (index + 1) ≡ first + w * index + w
next_place first w index =
    let e : w * (index + 1) ≡ w * index + w = mul-add w index 1
    ∙ (let o : w * 1 ≡ w = omega arith in ap (λ n. w * index + n) o) in omega (arith, e)

one_more_width : (w more : ℕ) → w * suc more ≡ w + w * more
one_more_width w more = grind (arith, common_steps)

elements-fix : (first end count : ℕ) (signed : Bool) (bytes other : List ℕ) (index more : ℕ)
    (xs ys : List ValueRecord)
    → each_value (element first end count signed bytes) index more ≡ Ok xs
    → each_value (element first end count signed other) index more ≡ Ok ys
    → (xs ≡ ys) ↔ AgreeOn (first + element_width first end count * index)
    (element_width first end count * more) bytes other
elements-fix first end count signed bytes other index zero xs ys p q =
    let a : [] ≡ xs = cc in let b : [] ≡ ys = cc in
    let none : element_width first end count * 0 ≡ 0 = omega arith in
    ((λ e i lt. absurd (omega (arith, lt, none))), (λ agree. sym a ∙ b))
elements-fix first end count signed bytes other index (suc more) xs ys p q =
    let w = element_width first end count in
    let s = first + w * index in
    let a = split (element first end count signed bytes index)
    (each_value (element first end count signed bytes) (index + 1) more) xs p in
    let b = split (element first end count signed other index)
    (each_value (element first end count signed other) (index + 1) more) ys q in
    let head = read-fixes s (s + w) signed bytes other a.first b.first a.is_first b.is_first in
    let rest = elements-fix first end count signed bytes other (index + 1) more a.more b.more
    a.is_rest b.is_rest in
    let width : s + w - s ≡ w = omega arith in
    let next : first + w * (index + 1) ≡ s + w = next_place first w index in
    let whole : w * suc more ≡ w + w * more = one_more_width w more in (
      (λ e.
          let t = pair-told a.first b.first a.more b.more (a.is_all ∙ e ∙ sym b.is_all) in
          subst (λ n. AgreeOn s n bytes other) (sym whole)
          (agree-both bytes other s w (w * more)
          (subst (λ n. AgreeOn s n bytes other) width (head.0 t.0))
          (subst (λ n. AgreeOn n (w * more) bytes other) next (rest.0 t.1)))),
      (λ agree.
          let all = subst (λ n. AgreeOn s n bytes other) whole agree in
          sym a.is_all ∙ pair-same a.first b.first a.more b.more
          (head.1 (subst (λ n. AgreeOn s n bytes other) (sym width)
          (agree-front bytes other s w (w * more) all)))
          (rest.1 (subst (λ n. AgreeOn n (w * more) bytes other) (sym next)
          (agree-back bytes other s w (w * more) all))) ∙ b.is_all),
    )

-- a field

strip-by : (b : Bool) (answer : Result (List ValueRecord) Refusal) (xs : List ValueRecord)
    → cond b answer (Err MismatchingReportId) ≡ Ok xs → answer ≡ Ok xs
strip-by true answer xs e = e
strip-by false answer xs e = cc

strip : (id : Option ℕ) (bytes : List ℕ) (answer : Result (List ValueRecord) Refusal)
    (xs : List ValueRecord) → with_id id bytes answer ≡ Ok xs → answer ≡ Ok xs
strip None bytes answer xs e = e
strip (Some id) [] answer xs e = cc
strip (Some id) (b ∷ bytes) answer xs e = strip-by (b == id) answer xs e

record One (r : Result ValueRecord Refusal) (xs : List ValueRecord) : Type 0 where
  value : ValueRecord
  is_value : r ≡ Ok value
  is_list : value ∷ [] ≡ xs

one-of : (r : Result ValueRecord Refusal) (xs : List ValueRecord) → one_value r ≡ Ok xs → One r xs
one-of (Ok x) xs e = record { value = x; is_value = refl; is_list = cc }
one-of (Err f) xs e = cc

values-fix : (field : FieldRecord) (bytes other : List ℕ) (xs ys : List ValueRecord)
    → values_of field bytes ≡ Ok xs → values_of field other ≡ Ok ys
    → (xs ≡ ys) ↔ AgreeOn (place_of field).first (covered_bits field) bytes other
values-fix (VariableRecord place usage shared) bytes other xs ys p q =
    let a = one-of (read_bits place.first place.«end» (is_signed shared) bytes) xs p in
    let b = one-of (read_bits place.first place.«end» (is_signed shared) other) ys q in
    let fix = read-fixes place.first place.«end» (is_signed shared) bytes other a.value b.value
    a.is_value b.is_value in (
      (λ e. fix.0 (pair-told a.value b.value [] [] (a.is_list ∙ e ∙ sym b.is_list)).0),
      (λ agree. sym a.is_list ∙ ap (λ v. v ∷ []) (fix.1 agree) ∙ b.is_list),
    )
values-fix (ArrayRecord place usages is_range count shared) bytes other xs ys p q =
    let fix = elements-fix place.first place.«end» count (is_signed shared) bytes other 0 count xs
    ys p q in
    let w = element_width place.first place.«end» count in
    let begin : place.first + w * 0 ≡ place.first = omega arith in (
      (λ e. subst (λ n. AgreeOn n (w * count) bytes other) begin (fix.0 e)),
      (λ agree. fix.1 (subst (λ n. AgreeOn n (w * count) bytes other) (sym begin) agree)),
    )
values-fix (ConstantRecord place) bytes other xs ys p q =
    let a : [] ≡ xs = cc in let b : [] ≡ ys = cc in
    ((λ e i lt. absurd (omega (arith, lt))), (λ agree. sym a ∙ b))

-- the values of a field fix just the bits of its elements
pub fixes : (field : FieldRecord) (bytes : List ℕ) → FixesBits field bytes
fixes field bytes other xs ys p q =
    values-fix field bytes other xs ys (strip (own_id field) bytes (values_of field bytes) xs p)
    (strip (own_id field) other (values_of field other) ys q)
