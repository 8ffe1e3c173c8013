-- The elements of an array, one after the other.
use Rattle.std.proofs.Common.{◌≡◌, ℕ, zero, suc, ◌+◌, ◌-◌, ◌*◌, ◌<◌, ◌≤◌, Bool, true, false, cond}
use Rattle.std.proofs.Common.{◌||◌, nat_le, nat_lt, IsOk, List, [], ◌∷◌, ◌++◌, length}
use Rattle.std.proofs.Common.{not, Result, Ok, Err, refl, ap, sym, ◌∙◌, arith}
use Rattle.std.proofs.Math.Nat.{mul-le-mul_left}
use Rattle.std.proofs.lemmas.Bool.Decides.{nat_tests}
use Rattle.hidreport_lists.specs.Answer.{Refusal, OutOfBounds}
use Rattle.hidreport_fields.specs.Reading.{ValueRecord, before_values, element, each_value}
use Rattle.hidreport_fields.specs.Reading.{element_width}
use Rattle.hidreport_fields.specs.WritingValues.{are_readable}

-- an element is refused as out of bounds alone
test_refusal : {A : Type 0} (b : Bool) (x : A) (r : Refusal) → cond b (Err OutOfBounds) (Ok x) ≡ Err r
    → r ≡ OutOfBounds
test_refusal true x r h = cc
test_refusal false x r h = cc

element_refusal : (first end count : ℕ) (s : Bool) (bytes : List ℕ) (i : ℕ) (r : Refusal)
    → element first end count s bytes i ≡ Err r → r ≡ OutOfBounds
element_refusal first end count s bytes i r h = test_refusal _ _ r h

-- a refusal of the elements behind one refuses all, whatever that one is
before_refused : (a : Result ValueRecord Refusal) (rest : Result (List ValueRecord) Refusal)
    → ((r : Refusal) → a ≡ Err r → r ≡ OutOfBounds) → rest ≡ Err OutOfBounds
    → before_values a rest ≡ Err OutOfBounds
before_refused (Err e) rest only h = ap (λ (r : Refusal). Err r) (only e refl)
before_refused (Ok x) (Err e) only h = h
before_refused (Ok x) (Ok xs) only h = cc

-- so does a refusal of the first
refused_first : (a : Result ValueRecord Refusal) (rest : Result (List ValueRecord) Refusal)
    → a ≡ Err OutOfBounds → before_values a rest ≡ Err OutOfBounds
refused_first (Err e) rest h = let same : e ≡ OutOfBounds = cc in ap (λ (r : Refusal). Err r) same
refused_first (Ok x) rest h = cc

-- where one element is refused, so are all
elements-refused : (first end count : ℕ) (s : Bool) (bytes : List ℕ) (index more j : ℕ)
    → j < more
    → element first end count s bytes (index + j) ≡ Err OutOfBounds
    → each_value (element first end count s bytes) index more ≡ Err OutOfBounds
elements-refused first end count s bytes index zero j within h = absurd (omega arith)
elements-refused first end count s bytes index (suc more) zero within h =
    let here : index + 0 ≡ index = omega arith in
    let e = ap (λ i. element first end count s bytes i) here in
    refused_first (element first end count s bytes index)
    (each_value (element first end count s bytes) (index + 1) more) (sym e ∙ h)
elements-refused first end count s bytes index (suc more) (suc j) within h =
    let here : index + 1 + j ≡ index + suc j = omega arith in
    let fewer : j < more = omega arith in
    let e = ap (λ i. element first end count s bytes i) here in
    before_refused (element first end count s bytes index)
    (each_value (element first end count s bytes) (index + 1) more)
    (element_refusal first end count s bytes index)
    (elements-refused first end count s bytes (index + 1) more j fewer (e ∙ h))

-- the same from the first element on
pub elements-outside : (first end count : ℕ) (s : Bool) (bytes : List ℕ) (more j : ℕ)
    → j < more
    → element first end count s bytes j ≡ Err OutOfBounds
    → each_value (element first end count s bytes) 0 more ≡ Err OutOfBounds
elements-outside first end count s bytes more j within h =
    let here : 0 + j ≡ j = omega arith in
    elements-refused first end count s bytes 0 more j within
    (ap (λ i. element first end count s bytes i) here ∙ h)

-- one more at the end
before_values-next : (a : Result ValueRecord Refusal) (b c : Result (List ValueRecord) Refusal)
    (xs : List ValueRecord) (x : ValueRecord) → before_values a b ≡ Ok xs
    → ((ys : List ValueRecord) → b ≡ Ok ys → c ≡ Ok (ys ++ x ∷ []))
    → before_values a c ≡ Ok (xs ++ x ∷ [])
before_values-next (Err e) b c xs x h more = cc
before_values-next (Ok y) (Err e) c xs x h more = cc
before_values-next (Ok y) (Ok ys) c xs x h more =
    let rest = more ys refl in
    let whole : y ∷ ys ≡ xs = cc in
    rw (rest, sym whole) refl

-- one element alone
last_of_one : (a : Result ValueRecord Refusal) (xs : List ValueRecord) (x : ValueRecord) → [] ≡ xs
    → a ≡ Ok x → before_values a (Ok []) ≡ Ok (xs ++ x ∷ [])
last_of_one (Err e) xs x none found = cc
last_of_one (Ok y) xs x none found = let same : y ≡ x = cc in rw (sym none, same) refl

elements-next : (first end count : ℕ) (s : Bool) (bytes : List ℕ) (index more : ℕ)
    (xs : List ValueRecord) (x : ValueRecord)
    → each_value (element first end count s bytes) index more ≡ Ok xs
    → element first end count s bytes (index + more) ≡ Ok x
    → each_value (element first end count s bytes) index (suc more) ≡ Ok (xs ++ x ∷ [])
elements-next first end count s bytes index zero xs x h found =
    let here : index + 0 ≡ index = omega arith in
    let e = ap (λ i. element first end count s bytes i) here in
    let none : [] ≡ xs = cc in
    last_of_one (element first end count s bytes index) xs x none (sym e ∙ found)
elements-next first end count s bytes index (suc more) xs x h found =
    let here : index + 1 + more ≡ index + suc more = omega arith in
    let e = ap (λ i. element first end count s bytes i) here in
    before_values-next (element first end count s bytes index)
    (each_value (element first end count s bytes) (index + 1) more)
    (each_value (element first end count s bytes) (index + 1) (suc more)) xs x h
    (λ ys rest. elements-next first end count s bytes (index + 1) more ys x rest (e ∙ found))

-- the same for the elements from the first on
pub elements-more : (first end count : ℕ) (s : Bool) (bytes : List ℕ) (n : ℕ)
    (xs : List ValueRecord) (x : ValueRecord)
    → each_value (element first end count s bytes) 0 n ≡ Ok xs
    → element first end count s bytes n ≡ Ok x
    → each_value (element first end count s bytes) 0 (n + 1) ≡ Ok (xs ++ x ∷ [])
elements-more first end count s bytes n xs x h found =
    let here : 0 + n ≡ n = omega arith in
    let more : n + 1 ≡ suc n = omega arith in
    let at = ap (λ i. element first end count s bytes i) here in
    ap (λ k. each_value (element first end count s bytes) 0 k) more
    ∙ elements-next first end count s bytes 0 n xs x h (at ∙ found)

-- bits that lie before readable bits of the same number are readable
refused_before : (a w x y n : ℕ) → x ≤ y
    → (nat_le (a + x + w) (a + x) || (nat_lt 32 (a + x + w - (a + x)) || nat_lt n (a + x + w)))
    ≡ true
    → (nat_le (a + y + w) (a + y) || (nat_lt 32 (a + y + w - (a + y)) || nat_lt n (a + y + w)))
    ≡ true
refused_before a w x y n le h = grind (arith, nat_tests)

-- what is refused under a stronger test only is given where the weaker test lets it through
is_ok_unless : {A : Type 0} (b c : Bool) (x y : A) → (b ≡ true → c ≡ true)
    → IsOk (cond c (Err OutOfBounds) (Ok y)) → IsOk (cond b (Err OutOfBounds) (Ok x))
is_ok_unless true true x y h ok = ok
is_ok_unless true false x y h ok = let no : false ≡ true = h refl in cc
is_ok_unless false c x y h ok = refl

-- an element before a readable one is readable
element-before : (first end count : ℕ) (s : Bool) (bytes : List ℕ) (i j : ℕ) → i ≤ j
    → IsOk (element first end count s bytes j) → IsOk (element first end count s bytes i)
element-before first end count s bytes i j le ok =
    let w = element_width first end count in
    is_ok_unless _ _ _ _ (refused_before first w (w * i) (w * j) (8 * length bytes)
    (mul-le-mul_left w le)) ok

-- a readable element before readable ones
before_readable : (a : Result ValueRecord Refusal) (rest : Result (List ValueRecord) Refusal)
    → IsOk a → IsOk rest → IsOk (before_values a rest)
before_readable (Err e) rest here more = here
before_readable (Ok x) (Err e) here more = more
before_readable (Ok x) (Ok xs) here more = refl

-- where each element is readable, so are all
elements-readable : (first end count : ℕ) (s : Bool) (bytes : List ℕ) (index more : ℕ)
    → ((k : ℕ) → k < index + more → IsOk (element first end count s bytes k))
    → IsOk (each_value (element first end count s bytes) index more)
elements-readable first end count s bytes index zero each = refl
elements-readable first end count s bytes index (suc more) each =
    before_readable (element first end count s bytes index)
    (each_value (element first end count s bytes) (index + 1) more) (each index (omega arith))
    (elements-readable first end count s bytes (index + 1) more
    (λ k below. each k (omega arith)))

-- where the last element is readable, so are all
elements-from-last : (first end count : ℕ) (s : Bool) (bytes : List ℕ) (n last : ℕ)
    → n ≡ last + 1 → IsOk (element first end count s bytes last)
    → IsOk (each_value (element first end count s bytes) 0 n)
elements-from-last first end count s bytes n last e readable =
    elements-readable first end count s bytes 0 n
    (λ k below. element-before first end count s bytes k last (omega arith) readable)

-- an element by the test of its bits
readable-by : {A : Type 0} (t : Bool) (x : A) → not t ≡ true → IsOk (cond t (Err OutOfBounds) (Ok x))
readable-by true x h = cc
readable-by false x h = refl

refused-by : {A : Type 0} (t : Bool) (x : A) → not t ≡ false → cond t (Err OutOfBounds) (Ok x) ≡ Err OutOfBounds
refused-by true x h = refl
refused-by false x h = cc

-- the bits of the last element, by its width and its place as they were computed
last-bits : (first end count : ℕ) (bytes : List ℕ) (last w p : ℕ) (t : Bool)
    → w ≡ element_width first end count → p ≡ first + w * last → are_readable p (p + w) bytes ≡ t
    → are_readable (first + element_width first end count * last)
    (first + element_width first end count * last + element_width first end count) bytes ≡ t
last-bits first end count bytes last w p t ew ep read =
    sym (ap (λ k. are_readable k (k + w) bytes) (ep ∙ ap (λ k. first + k * last) ew)
    ∙ ap (λ k. are_readable (first + element_width first end count * last)
    (first + element_width first end count * last + k) bytes) ew) ∙ read

-- where the last element's bits can be read, so can all elements
pub elements-readable-by : (first end count : ℕ) (s : Bool) (bytes : List ℕ) (n last w p : ℕ)
    → n ≡ last + 1 → w ≡ element_width first end count → p ≡ first + w * last
    → are_readable p (p + w) bytes ≡ true
    → IsOk (each_value (element first end count s bytes) 0 n)
elements-readable-by first end count s bytes n last w p e ew ep t =
    elements-from-last first end count s bytes n last e
    (readable-by _ _ (last-bits first end count bytes last w p true ew ep t))

pub elements-refused-by : (first end count : ℕ) (s : Bool) (bytes : List ℕ) (n last w p : ℕ)
    → n ≡ last + 1 → w ≡ element_width first end count → p ≡ first + w * last
    → are_readable p (p + w) bytes ≡ false
    → each_value (element first end count s bytes) 0 n ≡ Err OutOfBounds
elements-refused-by first end count s bytes n last w p e ew ep t =
    elements-outside first end count s bytes n last (omega (arith, e))
    (refused-by _ _ (last-bits first end count bytes last w p false ew ep t))

-- what can be read has some bits, at most 32, and all of them in the bytes
pub readable-bits : (p w : ℕ) (bytes : List ℕ) → are_readable p (p + w) bytes ≡ true
    → (0 < w) × (w ≤ 32) × (p + w ≤ 8 * length bytes)
readable-bits p w bytes t =
    let width : p + w - p ≡ w = omega arith in
    let e = sym (ap (λ k. not (nat_le (p + w) p || (nat_lt 32 k || nat_lt (8 * length bytes) (p + w))))
    width) ∙ t in (
      grind (arith, nat_tests, e),
      grind (arith, nat_tests, e),
      grind (arith, nat_tests, e),
    )
