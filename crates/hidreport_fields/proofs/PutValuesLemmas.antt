-- Numbers put side by side, one after the other.
use Rattle.std.proofs.Common.{◌≡◌, ℕ, zero, suc, ◌+◌, ◌-◌, ◌*◌, ◌/◌, ◌%◌, ◌^◌, ◌<◌, ◌≤◌, ◌⊎◌, inl, inr}
use Rattle.std.proofs.Common.{List, [], ◌∷◌, length, take, refl, sym, ap, subst, ◌∙◌, arith, get_or, ℤ, pos}
use Rattle.std.proofs.Math.Nat.{div-lt_iff_lt-mul, mul_comm}
use Rattle.std.proofs.lemmas.List.{get_or-take, length-take-le, get_or_default}
use Rattle.std.proofs.lemmas.Nat.{div-mul-add, mod-mul-add}
use Rattle.hidreport_items.specs.Spelling.{AreBytes}
use Rattle.hidreport_fields.specs.BitValue.{bit}
use Rattle.hidreport_fields.specs.WritingValues.{bit_after, bytes_of, number_bit, number_of, put}
use Rattle.hidreport_fields.proofs.PutBitsLemmas.{Placed, after-bits, after-inside, after-none}
use Rattle.hidreport_fields.proofs.PutBitsLemmas.{after-one, after-outside, place-of}
use Rattle.hidreport_fields.proofs.WrittenBitsLemmas.{bytes-bit, bytes-same, length-bytes_of}

-- the same bits make the same bytes
number-agree : (f g : ℕ → ℕ) (s w : ℕ) → ((i : ℕ) → i < w → f (s + i) ≡ g (s + i))
    → number_of f s w ≡ number_of g s w
number-agree f g s zero each = refl
number-agree f g s (suc w) each =
    ap (λ n. n + f (s + w) * 2 ^ w) (number-agree f g s w (λ i lt. each i (omega (arith, lt))))
    ∙ ap (λ n. number_of g s w + n * 2 ^ w) (each w (omega arith))

pub bytes-agree : (f g : ℕ → ℕ) (s m : ℕ) → ((i : ℕ) → i < 8 * m → f (s + i) ≡ g (s + i))
    → bytes_of f s m ≡ bytes_of g s m
bytes-agree f g s zero each = refl
bytes-agree f g s (suc m) each =
    let next = λ (i : ℕ). let e : s + 8 + i ≡ s + (8 + i) = omega arith in e in
    ap (λ n. n ∷ bytes_of f (s + 8) m)
    (number-agree f g s 8 (λ i lt. each i (omega (arith, lt))))
    ∙ ap (λ l. number_of g s 8 ∷ l) (bytes-agree f g (s + 8) m
    (λ i lt. ap f (next i) ∙ each (8 + i) (omega (arith, lt)) ∙ sym (ap g (next i))))

pub length-put : (first w : ℕ) (numbers : List ℤ) (bytes : List ℕ)
    → length (put first w numbers bytes) ≡ length bytes
length-put first w numbers bytes =
    length-bytes_of (bit_after first w numbers bytes) 0 (length bytes)

-- a bit of bytes that numbers were put into
pub put-bit : (first w : ℕ) (numbers : List ℤ) (bytes : List ℕ) (n : ℕ) → n < 8 * length bytes
    → bit (put first w numbers bytes) n ≡ bit_after first w numbers bytes n
put-bit first w numbers bytes n lt =
    let e : 0 + n ≡ n = omega arith in
    bytes-bit (bit_after first w numbers bytes) (after-bits first w numbers bytes) 0 (length bytes)
    n lt ∙ ap (bit_after first w numbers bytes) e

-- of some bits below w times i there are some each
positive : (w i n first : ℕ) → first ≤ n → n < first + w * i → 0 < w
positive zero i n first le lt = absurd (let none : zero * i ≡ 0 = omega arith in omega arith)
positive (suc w) i n first le lt = omega arith

below-by : {X : Type 0} (n first w i : ℕ) (xs : List X) → length xs ≡ i → n < first + w * i
    → n < first + w * length xs
below-by n first w i xs e lt = subst (λ k. n < first + w * k) (sym e) lt

turned-below : (n w i : ℕ) → n < w * i → n < i * w
turned-below n w i lt = subst (λ k. n < k) (mul_comm w i) lt

-- a bit of the numbers before one more
before-more : (first w : ℕ) (numbers : List ℤ) (bytes : List ℕ) (i n : ℕ) → i < length numbers
    → n < first + w * i → Placed n first (first + w * i)
    → bit_after first w (take i numbers) bytes n ≡ bit_after first w (take (i + 1) numbers) bytes n
before-more first w numbers bytes i n more lt (inl below) =
    after-outside first w (take i numbers) bytes n (inl below)
    ∙ sym (after-outside first w (take (i + 1) numbers) bytes n (inl below))
before-more first w numbers bytes i n more lt (inr (inl both)) =
    let some : 0 < w = positive w i n first both.0 lt in
    let few : length (take i numbers) ≡ i = length-take-le i numbers (omega arith) in
    let one-more : length (take (i + 1) numbers) ≡ i + 1 =
    length-take-le (i + 1) numbers (omega arith) in
    let room : n < first + w * length (take i numbers) = below-by n first w i (take i numbers) few lt in
    let wide : w * i ≤ w * (i + 1) = omega arith in
    let room-more : n < first + w * length (take (i + 1) numbers) =
    below-by n first w (i + 1) (take (i + 1) numbers) one-more (omega arith) in
    let k = (n - first) / w in
    let offset : n - first < i * w = turned-below (n - first) w i (omega (arith, both.0)) in
    let index : k < i = (div-lt_iff_lt-mul some).1 offset in
    let same : get_or (take i numbers) k (pos 0) ≡ get_or (take (i + 1) numbers) k (pos 0) =
    get_or-take i numbers k (pos 0) index
    ∙ sym (get_or-take (i + 1) numbers k (pos 0) (omega arith)) in
    after-inside first w (take i numbers) bytes n both.0 room
    ∙ ap (λ z. number_bit z ((n - first) % w)) same
    ∙ sym (after-inside first w (take (i + 1) numbers) bytes n both.0 room-more)
before-more first w numbers bytes i n more lt (inr (inr ge)) = absurd (omega (arith, ge, lt))

-- a bit of the number behind those
more-bit : (first w : ℕ) (numbers : List ℤ) (bytes : List ℕ) (i n : ℕ) (number : ℤ)
    → i < length numbers → number ≡ get_or numbers i number → first + w * i ≤ n
    → n < first + w * i + w
    → bit_after first w (take (i + 1) numbers) bytes n ≡ number_bit number (n - (first + w * i))
more-bit first w numbers bytes i n number more is from lt =
    let r = n - (first + w * i) in
    let small : r < w = omega arith in
    let all : length (take (i + 1) numbers) ≡ i + 1 = length-take-le (i + 1) numbers (omega arith) in
    let wide : w * (i + 1) ≡ w * i + w = omega arith in
    let room : n < first + w * length (take (i + 1) numbers) =
    below-by n first w (i + 1) (take (i + 1) numbers) all (omega arith) in
    let parts : n - first ≡ i * w + r = split n first w i (mul_comm w i) from in
    let index : (n - first) / w ≡ i = ap (λ k. k / w) parts ∙ div-mul-add i w r small in
    let within : (n - first) % w ≡ r = ap (λ k. k % w) parts ∙ mod-mul-add i w r small in
    let here : get_or (take (i + 1) numbers) i (pos 0) ≡ number =
    get_or-take (i + 1) numbers i (pos 0) (omega arith)
    ∙ get_or_default numbers i (pos 0) number more ∙ sym is in
    let start : first ≤ n = omega arith in
    after-inside first w (take (i + 1) numbers) bytes n start room
    ∙ ap (λ k. number_bit (get_or (take (i + 1) numbers) k (pos 0)) ((n - first) % w)) index
    ∙ ap (λ z. number_bit z ((n - first) % w)) here ∙ ap (number_bit number) within where
      split : (n first w i : ℕ) → w * i ≡ i * w → first + w * i ≤ n
          → n - first ≡ i * w + (n - (first + w * i))
      split n first w i e le = omega arith

-- one number more, behind those that were put
more-after : (first w : ℕ) (numbers : List ℤ) (bytes : List ℕ) (i n : ℕ) (number : ℤ)
    → i < length numbers → number ≡ get_or numbers i number → n < 8 * length bytes
    → Placed n (first + w * i) (first + w * i + w)
    → bit_after (first + w * i) w (number ∷ []) (put first w (take i numbers) bytes) n
    ≡ bit_after first w (take (i + 1) numbers) bytes n
more-after first w numbers bytes i n number more is lt (inl below) =
    let P = put first w (take i numbers) bytes in
    after-none (first + w * i) w number P n (inl below)
    ∙ put-bit first w (take i numbers) bytes n lt
    ∙ before-more first w numbers bytes i n more below (place-of n first (first + w * i))
more-after first w numbers bytes i n number more is lt (inr (inl both)) =
    let P = put first w (take i numbers) bytes in
    after-one (first + w * i) w number P n both.0 both.1
    ∙ sym (more-bit first w numbers bytes i n number more is both.0 both.1)
more-after first w numbers bytes i n number more is lt (inr (inr ge)) =
    let P = put first w (take i numbers) bytes in
    let few : length (take i numbers) ≡ i = length-take-le i numbers (omega arith) in
    let all : length (take (i + 1) numbers) ≡ i + 1 = length-take-le (i + 1) numbers (omega arith) in
    let wide : w * (i + 1) ≡ w * i + w = omega arith in
    let past : first + w * length (take i numbers) ≤ n =
    subst (λ k. first + w * k ≤ n) (sym few) (omega arith) in
    let past-all : first + w * length (take (i + 1) numbers) ≤ n =
    subst (λ k. first + w * k ≤ n) (sym all) (omega arith) in
    after-none (first + w * i) w number P n (inr ge)
    ∙ put-bit first w (take i numbers) bytes n lt
    ∙ after-outside first w (take i numbers) bytes n (inr past)
    ∙ sym (after-outside first w (take (i + 1) numbers) bytes n (inr past-all))

pub put-more : (first w : ℕ) (numbers : List ℤ) (bytes : List ℕ) (i : ℕ) (number : ℤ)
    → i < length numbers → number ≡ get_or numbers i number
    → put (first + w * i) w (number ∷ []) (put first w (take i numbers) bytes)
    ≡ put first w (take (i + 1) numbers) bytes
put-more first w numbers bytes i number more is =
    let P = put first w (take i numbers) bytes in
    let f = bit_after (first + w * i) w (number ∷ []) P in
    let g = bit_after first w (take (i + 1) numbers) bytes in
    ap (bytes_of f 0) (length-put first w (take i numbers) bytes)
    ∙ bytes-agree f g 0 (length bytes) (λ n lt.
    let e : 0 + n ≡ n = omega arith in
    ap f e ∙ more-after first w numbers bytes i n number more is lt
    (place-of n (first + w * i) (first + w * i + w)) ∙ sym (ap g e))

-- no numbers change nothing
pub put-none : (first w : ℕ) (bytes : List ℕ) → AreBytes bytes → put first w [] bytes ≡ bytes
put-none first w bytes are =
    bytes-same (bit_after first w [] bytes) (after-bits first w [] bytes) bytes are 0
    (λ n lt. let e : 0 + n ≡ n = omega arith in ap (bit_after first w [] bytes) e
    ∙ after-outside first w [] bytes n (none n (place-of n first first))) where
      none : (n : ℕ) → Placed n first first → (n < first) ⊎ (first + w * 0 ≤ n)
      none n (inl below) = inl below
      none n (inr (inl both)) = inl both.1
      none n (inr (inr ge)) = inr (omega arith)
