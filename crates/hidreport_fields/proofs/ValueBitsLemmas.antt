-- Values and their bits in two's complement.
use Rattle.std.proofs.Common.{◌≡◌, ℕ, zero, suc, ◌+◌, ◌-◌, ◌*◌, ◌^◌, ◌<◌, ◌≤◌, ◌⊎◌, inl, inr, Bool, true}
use Rattle.std.proofs.Common.{false, nat_lt, ℤ, pos, negsuc, ◌-ℤ◌, List, refl, sym, ap, subst, ◌∙◌, arith}
use Rattle.std.proofs.Common.{FitsSigned}
use Rattle.std.specs.Int.{bit_at, w32, cast_signed}
use Rattle.std.proofs.Math.Nat.{two-pow-succ}
use Rattle.std.proofs.Math.Pow.{pow_mono}
use Rattle.std.proofs.lemmas.Bool.Decides.{nat_tests}
use Rattle.std.proofs.lemmas.Int.{ints, to_z-of_z}
use Rattle.std.proofs.lemmas.Nat.{pow_pos}
use Rattle.std.proofs.lemmas.Nat.Bits.{bit_at_above, bit_at-lt, same_from_bits_below}
use Rattle.hidreport_fields.specs.BitValue.{as_word, bit, sum_of_bits, value}
use Rattle.hidreport_fields.specs.Choosing.{value_number}
use Rattle.hidreport_fields.specs.WritingValues.{fits, number_bit, number_of}
use Rattle.hidreport_fields.proofs.BitLemmas.{bit-small, sum-small, zero-or-one}
use Rattle.hidreport_fields.proofs.WrittenBitsLemmas.{AreBits, number-bit, number-small}

-- a sum of bits is a number made of them
sum-number : (bytes : List ℕ) (s w : ℕ) → sum_of_bits bytes s w ≡ number_of (bit bytes) s w
sum-number bytes s zero = refl
sum-number bytes s (suc w) = ap (λ n. n + bit bytes (s + w) * 2 ^ w) (sum-number bytes s w)

pub sum-bit : (bytes : List ℕ) (s w i : ℕ) → i < w
    → bit_at (sum_of_bits bytes s w) i ≡ bit bytes (s + i)
sum-bit bytes s w i lt = ap (λ n. bit_at n i) (sum-number bytes s w)
    ∙ number-bit (bit bytes) (bit-small bytes) s w i lt

-- a number is made of its bits
own-number : (x w : ℕ) → x < 2 ^ w → number_of (bit_at x) 0 w ≡ x
own-number x w lt = same_from_bits_below w (number_of (bit_at x) 0 w) x
    (number-small (bit_at x) (bit_at-lt x) 0 w) lt
    (λ i h. let e : 0 + i ≡ i = omega arith in
    number-bit (bit_at x) (bit_at-lt x) 0 w i h ∙ ap (bit_at x) e)

-- each bit turned
abbrev turned : ℕ → ℕ → ℕ
turned x i = 1 - bit_at x i

turned-bits : (x : ℕ) → AreBits (turned x)
turned-bits x n = omega arith

both-sum : (a b t u p : ℕ) → a + b + 1 ≡ p → t + u ≡ 1 → a + t * p + (b + u * p) + 1 ≡ p + p
both-sum a b zero u p e f =
    let one : u ≡ 1 = omega arith in
    let g : u * p ≡ 1 * p = ap (λ n. n * p) one in
    omega arith
both-sum a b (suc zero) u p e f =
    let none : u ≡ 0 = omega arith in
    let g : u * p ≡ 0 * p = ap (λ n. n * p) none in
    omega arith
both-sum a b (suc (suc t)) u p e f = absurd (omega arith)

turned-sum : (x w : ℕ) → number_of (turned x) 0 w + number_of (bit_at x) 0 w + 1 ≡ 2 ^ w
turned-sum x zero = refl
turned-sum x (suc w) =
    let small : bit_at x (0 + w) < 2 = bit_at-lt x (0 + w) in
    let one : 1 - bit_at x (0 + w) + bit_at x (0 + w) ≡ 1 = omega arith in
    both-sum (number_of (turned x) 0 w) (number_of (bit_at x) 0 w) (1 - bit_at x (0 + w))
    (bit_at x (0 + w)) (2 ^ w) (turned-sum x w) one ∙ sym (two-pow-succ w)

-- the bits of what is missing to all ones
pub complement-bit : (x w i : ℕ) → x < 2 ^ w → i < w → bit_at (2 ^ w - 1 - x) i ≡ 1 - bit_at x i
complement-bit x w i lt below =
    let all = turned-sum x w in
    let own : number_of (bit_at x) 0 w ≡ x = own-number x w lt in
    let is : 2 ^ w - 1 - x ≡ number_of (turned x) 0 w = omega arith in
    let e : 0 + i ≡ i = omega arith in
    ap (λ n. bit_at n i) is ∙ number-bit (turned x) (turned-bits x) 0 w i below
    ∙ ap (λ n. 1 - bit_at x n) e

-- x and a top bit, signed
pub top-clear : (x P : ℕ) → pos x -ℤ pos (0 * P) ≡ pos x
top-clear x P = omega (arith, ints)

pub top-set : (x P : ℕ) → x < P → pos x -ℤ pos (1 * P) ≡ negsuc (P - 1 - x)
top-set x P lt = omega (arith, ints)

-- a number that so many bits hold is the value of bits that are its own
pub value-of-bits : (bytes : List ℕ) (s w : ℕ) (signed : Bool) (z : ℤ) → 0 < w
    → fits w signed z ≡ true → ((i : ℕ) → i < w → bit bytes (s + i) ≡ number_bit z i)
    → value bytes s w signed ≡ z
value-of-bits bytes s zero signed z some fit each = absurd (omega arith)
value-of-bits bytes s (suc w) false (negsuc n) some fit each = cc
value-of-bits bytes s (suc w) false (pos n) some fit each =
    let lt : n < 2 ^ suc w = grind (arith, nat_tests, fit) in
    ap pos (same_from_bits_below (suc w) (sum_of_bits bytes s (suc w)) n
    (sum-small bytes s (suc w)) lt (λ i h. sum-bit bytes s (suc w) i h ∙ each i h))
value-of-bits bytes s (suc w) true (pos n) some fit each =
    let less : suc w - 1 ≡ w = omega arith in
    let lt : n < 2 ^ w = subst (λ k. n < 2 ^ k) less (grind (arith, nat_tests, fit)) in
    let top : bit bytes (s + w) ≡ 0 = each w (omega arith) ∙ bit_at_above n w w lt (omega arith) in
    let sum : sum_of_bits bytes s w ≡ n = same_from_bits_below w (sum_of_bits bytes s w) n
    (sum-small bytes s w) lt (λ i h. sum-bit bytes s w i h ∙ each i (omega arith)) in
    ap (λ b. pos (sum_of_bits bytes s w) -ℤ pos (b * 2 ^ w)) top
    ∙ top-clear (sum_of_bits bytes s w) (2 ^ w) ∙ ap pos sum
value-of-bits bytes s (suc w) true (negsuc n) some fit each =
    let less : suc w - 1 ≡ w = omega arith in
    let lt : n < 2 ^ w = subst (λ k. n < 2 ^ k) less (grind (arith, nat_tests, fit)) in
    let above : bit_at n w ≡ 0 = bit_at_above n w w lt (omega arith) in
    let top : bit bytes (s + w) ≡ 1 = each w (omega arith) ∙ ap (λ b. 1 - b) above in
    let positive : 0 < 2 ^ w = pow_pos w in
    let sum : sum_of_bits bytes s w ≡ 2 ^ w - 1 - n =
    same_from_bits_below w (sum_of_bits bytes s w) (2 ^ w - 1 - n) (sum-small bytes s w)
    (omega arith) (λ i h. sum-bit bytes s w i h ∙ each i (omega arith)
    ∙ sym (complement-bit n w i lt h)) in
    let back : 2 ^ w - 1 - sum_of_bits bytes s w ≡ n = omega arith in
    ap (λ b. pos (sum_of_bits bytes s w) -ℤ pos (b * 2 ^ w)) top
    ∙ top-set (sum_of_bits bytes s w) (2 ^ w) (sum-small bytes s w) ∙ ap negsuc back

-- a value's bits in two's complement are those that it is read from
pub value-bits : (bytes : List ℕ) (s w : ℕ) (signed : Bool) (i : ℕ) → i < w
    → number_bit (value bytes s w signed) i ≡ bit bytes (s + i)
value-bits bytes s w false i lt = sum-bit bytes s w i lt
value-bits bytes s zero true i lt = absurd (omega arith)
value-bits bytes s (suc w) true i lt =
    value-top bytes s w i lt (zero-or-one (bit bytes (s + w)) (bit-small bytes (s + w))) where
      value-top : (bytes : List ℕ) (s w i : ℕ) → i < suc w
          → (bit bytes (s + w) ≡ 0) ⊎ (bit bytes (s + w) ≡ 1)
          → number_bit (value bytes s (suc w) true) i ≡ bit bytes (s + i)
      value-top bytes s w i lt (inl clear) =
          let x = sum_of_bits bytes s w in
          ap (λ z. number_bit z i) (ap (λ b. pos x -ℤ pos (b * 2 ^ w)) clear ∙ top-clear x (2 ^ w))
          ∙ below-top (nat_lt i w) refl where
            below-top : (t : Bool) → nat_lt i w ≡ t → bit_at (sum_of_bits bytes s w) i ≡ bit bytes (s + i)
            below-top true e = sum-bit bytes s w i (grind (arith, nat_tests))
            below-top false e =
                let same : i ≡ w = grind (arith, nat_tests) in
                bit_at_above (sum_of_bits bytes s w) w i (sum-small bytes s w) (omega arith)
                ∙ sym clear ∙ sym (ap (λ k. bit bytes (s + k)) same)
      value-top bytes s w i lt (inr set) =
          let x = sum_of_bits bytes s w in
          ap (λ z. number_bit z i) (ap (λ b. pos x -ℤ pos (b * 2 ^ w)) set
          ∙ top-set x (2 ^ w) (sum-small bytes s w)) ∙ below-top (nat_lt i w) refl where
            below-top : (t : Bool) → nat_lt i w ≡ t
                → 1 - bit_at (2 ^ w - 1 - sum_of_bits bytes s w) i ≡ bit bytes (s + i)
            below-top true e =
                let x = sum_of_bits bytes s w in
                let h : i < w = grind (arith, nat_tests) in
                let lt : bit_at x i < 2 = bit_at-lt x i in
                let twice : 1 - (1 - bit_at x i) ≡ bit_at x i = omega arith in
                ap (λ b. 1 - b) (complement-bit x w i (sum-small bytes s w) h) ∙ twice
                ∙ sum-bit bytes s w i h
            below-top false e =
                let same : i ≡ w = grind (arith, nat_tests) in
                let positive : 0 < 2 ^ w = pow_pos w in
                ap (λ b. 1 - b) (bit_at_above (2 ^ w - 1 - sum_of_bits bytes s w) w i (omega arith)
                (omega arith)) ∙ sym set ∙ sym (ap (λ k. bit bytes (s + k)) same)

-- the number of a value that was read is that value
pub number-read : (bytes : List ℕ) (s w : ℕ) (signed : Bool) → w ≤ 32
    → value_number (record { word = as_word (value bytes s w signed); is_signed = signed })
    ≡ value bytes s w signed
number-read bytes s w false le = refl
number-read bytes s zero true le = refl
number-read bytes s (suc w) true le =
    word-back (value bytes s (suc w) true) (value-fits bytes s w le) where
      word-back : (z : ℤ) → FitsSigned w32 z → cast_signed w32 (as_word z) ≡ z
      word-back (pos n) f = to_z-of_z w32 (pos n) f
      word-back (negsuc n) f =
          let e : 2 ^ 32 - (n + 1) ≡ 2 ^ 32 - suc n = omega arith in
          ap (cast_signed w32) e ∙ to_z-of_z w32 (negsuc n) f

      value-fits : (bytes : List ℕ) (s w : ℕ) → suc w ≤ 32 → FitsSigned w32 (value bytes s (suc w) true)
      value-fits bytes s w le = fits-by (bit bytes (s + w)) (sum_of_bits bytes s w) w le
          (sum-small bytes s w) (zero-or-one (bit bytes (s + w)) (bit-small bytes (s + w))) where
            fits-by : (b x w : ℕ) → suc w ≤ 32 → x < 2 ^ w → (b ≡ 0) ⊎ (b ≡ 1)
                → FitsSigned w32 (pos x -ℤ pos (b * 2 ^ w))
            fits-by b x w le small (inl clear) =
                let narrow : w ≤ 31 = omega arith in
                let bound : 2 ^ w ≤ 2 ^ 31 = pow_mono narrow in
                subst (FitsSigned w32)
                (sym (ap (λ n. pos x -ℤ pos (n * 2 ^ w)) clear ∙ top-clear x (2 ^ w)))
                (record { sfits = omega arith })
            fits-by b x w le small (inr set) =
                let narrow : w ≤ 31 = omega arith in
                let bound : 2 ^ w ≤ 2 ^ 31 = pow_mono narrow in
                subst (FitsSigned w32)
                (sym (ap (λ n. pos x -ℤ pos (n * 2 ^ w)) set ∙ top-set x (2 ^ w) small))
                (record { sfits = omega arith })
