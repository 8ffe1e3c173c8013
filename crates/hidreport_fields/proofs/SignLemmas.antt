-- A sum of bits as a number, with the sign of its top bit.
use Rattle.std.proofs.Common.{◌≡◌, ℕ, zero, suc, ◌+◌, ◌-◌, ◌*◌, ◌/◌, ◌%◌, ◌^◌, ◌<◌, ◌≤◌, ◌⊎◌, inl, inr}
use Rattle.std.proofs.Common.{Bool, true, false, nat_lt, pos, ◌-ℤ◌, List, refl, sym, ap, subst, ◌∙◌, arith}
use Rattle.std.proofs.Common.{to_z, of_z}
use Rattle.std.specs.Int.{w64}
use Rattle.std.proofs.Math.Nat.{div-eq_of_lt, div-lt_iff_lt-mul, two-pow-succ}
use Rattle.std.proofs.Math.Pow.{pow_mono}
use Rattle.std.proofs.lemmas.Bool.Decides.{nat_tests}
use Rattle.std.proofs.lemmas.Int.{ints}
use Rattle.std.proofs.lemmas.Nat.{pow_pos}
use Rattle.hidreport_fields.specs.BitValue.{bit, sum_of_bits, value}
use Rattle.hidreport_fields.proofs.BitLemmas.{below-top, bit-small, doubled-fits, power-fits}
use Rattle.hidreport_fields.proofs.BitLemmas.{sum-small, zero-or-one}
use Rattle.hidreport_fields.proofs.ValueBitsLemmas.{top-clear}

-- a small number as 64 bits
pub small-number : (n : ℕ) → n < 2 ^ 33 → to_z w64 n ≡ pos n
small-number n lt = omega (arith, ints)

less-number : (n p : ℕ) → n < 2 ^ 33 → p < 2 ^ 33
    → to_z w64 (of_z w64 (to_z w64 n -ℤ to_z w64 p)) ≡ pos n -ℤ pos p
less-number n p lt below = omega (arith, ints)

-- so many bits are a small number
pub sum-narrow : (bytes : List ℕ) (first width sum : ℕ) → width ≤ 32
    → sum ≡ sum_of_bits bytes first width → sum < 2 ^ 33
sum-narrow bytes first width sum narrow e =
    let bound : 2 ^ width ≤ 2 ^ 32 = pow_mono narrow in
    let top : 2 ^ 32 ≡ 4294967296 = refl in
    let small = sum-small bytes first width in
    omega (arith, e, bound, small, top)

-- without a sign it is the sum
pub plain-number : (bytes : List ℕ) (first width sum : ℕ) → width ≤ 32
    → sum ≡ sum_of_bits bytes first width → to_z w64 sum ≡ value bytes first width false
plain-number bytes first width sum narrow e =
    small-number sum (sum-narrow bytes first width sum narrow e) ∙ ap pos e

clear-by : (x P b sum : ℕ) → (b ≡ 0) ⊎ (b ≡ 1) → sum ≡ x + b * P → sum < P
    → pos sum ≡ pos x -ℤ pos (b * P)
clear-by x P b sum (inl p) e small =
    let f : sum ≡ x + 0 * P = e ∙ ap (λ n. x + n * P) p in
    let g : sum ≡ x = omega (arith, f) in
    ap pos g ∙ sym (ap (λ n. pos x -ℤ pos (n * P)) p ∙ top-clear x P)
clear-by x P b sum (inr p) e small =
    let f : sum ≡ x + 1 * P = e ∙ ap (λ n. x + n * P) p in absurd (omega (arith, f, small))

-- where the top bit is clear
pub clear-number : (bytes : List ℕ) (first width sum : ℕ) → 0 < width → width ≤ 32
    → sum ≡ sum_of_bits bytes first width
    → sum < 1 * 2 ^ (width - 1) % 18446744073709551616
    → to_z w64 sum ≡ value bytes first width true
clear-number bytes first zero sum some narrow e small = absurd (omega (arith, some))
clear-number bytes first (suc w) sum some narrow e small =
    small-number sum (sum-narrow bytes first (suc w) sum narrow e)
    ∙ clear-by (sum_of_bits bytes first w) (2 ^ w) (bit bytes (first + w)) sum
    (zero-or-one (bit bytes (first + w)) (bit-small bytes (first + w))) e
    (below-top w sum narrow small)

set-by : (x P b sum : ℕ) → (b ≡ 0) ⊎ (b ≡ 1) → sum ≡ x + b * P → x < P → P ≤ sum
    → pos sum -ℤ pos (P + P) ≡ pos x -ℤ pos (b * P)
set-by x P b sum (inl p) e below large =
    let f : sum ≡ x + 0 * P = e ∙ ap (λ n. x + n * P) p in absurd (omega (arith, f, below, large))
set-by x P b sum (inr p) e below large =
    let f : sum ≡ x + 1 * P = e ∙ ap (λ n. x + n * P) p in
    let one : 1 * P ≡ P = omega arith in
    let g : pos sum -ℤ pos (P + P) ≡ pos x -ℤ pos P = omega (arith, ints, f) in
    g ∙ sym (ap (λ n. pos x -ℤ pos (n * P)) p ∙ ap (λ n. pos x -ℤ pos n) one)

-- where it is set, 2 to the width is taken away
pub set-number : (bytes : List ℕ) (first width sum : ℕ) → 0 < width → width ≤ 32
    → sum ≡ sum_of_bits bytes first width
    → 1 * 2 ^ (width - 1) % 18446744073709551616 ≤ sum
    → to_z w64 (of_z w64 (to_z w64 sum -ℤ to_z w64 (1 * 2 ^ width % 18446744073709551616)))
    ≡ value bytes first width true
set-number bytes first zero sum some narrow e large = absurd (omega (arith, some))
set-number bytes first (suc w) sum some narrow e large =
    let P = 2 ^ w in
    let double : 2 ^ suc w ≡ P + P = two-pow-succ w in
    let fits : P + P < 2 ^ 33 = omega (arith, doubled-fits w narrow) in
    let less : suc w - 1 ≡ w = omega arith in
    let reached : P ≤ sum = subst (λ n. n ≤ sum)
    (ap (λ n. 1 * 2 ^ n % 18446744073709551616) less ∙ power-fits w (omega (arith, narrow)))
    large in
    ap (λ n. to_z w64 (of_z w64 (to_z w64 sum -ℤ to_z w64 n))) (power-fits (suc w) narrow ∙ double)
    ∙ less-number sum (P + P) (sum-narrow bytes first (suc w) sum narrow e) fits
    ∙ set-by (sum_of_bits bytes first w) P (bit bytes (first + w)) sum
    (zero-or-one (bit bytes (first + w)) (bit-small bytes (first + w))) e
    (sum-small bytes first w) reached

-- the top bit of so many, where it is set
top-one : (width sum : ℕ) → 0 < width → sum < 2 ^ width → 2 ^ (width - 1) ≤ sum
    → sum / 2 ^ (width - 1) ≡ 1
top-one zero sum some small large = absurd (omega (arith, some))
top-one (suc w) sum some small large =
    let less : suc w - 1 ≡ w = omega arith in
    ap (λ n. sum / 2 ^ n) less ∙ by (subst (λ n. 2 ^ n ≤ sum) less large) where
      by : 2 ^ w ≤ sum → sum / 2 ^ w ≡ 1
      by large =
          let P = 2 ^ w in
          let positive : 0 < P = pow_pos w in
          let double : 2 ^ suc w ≡ P + P = two-pow-succ w in
          let twice : sum < 2 * P = omega (arith, small, double) in
          let few : sum / P < 2 = (div-lt_iff_lt-mul positive).1 twice in
          some-of (sum / P) few (λ none. let lt : sum < 1 * P = (div-lt_iff_lt-mul positive).0 none in
          omega (arith, lt, large)) where
            some-of : (q : ℕ) → q < 2 → (q < 1 → ⊥) → q ≡ 1
            some-of zero few not = absurd (not (omega arith))
            some-of (suc zero) few not = refl
            some-of (suc (suc q)) few not = absurd (omega (arith, few))

-- so much is taken away then
pub excess-set : (width sum : ℕ) → 0 < width → width ≤ 32 → sum < 2 ^ width
    → 2 ^ (width - 1) ≤ sum
    → sum / 2 ^ (width - 1) * 2 ^ width % 18446744073709551616 ≡ 2 ^ width
excess-set width sum some narrow small large =
    ap (λ q. q * 2 ^ width % 18446744073709551616) (top-one width sum some small large)
    ∙ power-fits width narrow

pub excess-most : (width sum : ℕ) → 0 < width → width ≤ 32 → sum < 2 ^ width
    → sum / 2 ^ (width - 1) * 2 ^ width % 18446744073709551616 < 2 ^ 33
excess-most width sum some narrow small = by (nat_lt sum (2 ^ (width - 1))) refl where
  by : (t : Bool) → nat_lt sum (2 ^ (width - 1)) ≡ t
      → sum / 2 ^ (width - 1) * 2 ^ width % 18446744073709551616 < 2 ^ 33
  by true e =
      let lt : sum < 2 ^ (width - 1) = grind (arith, nat_tests) in
      let none : sum / 2 ^ (width - 1) ≡ 0 = div-eq_of_lt lt in
      subst (λ q. q * 2 ^ width % 18446744073709551616 < 2 ^ 33) (sym none) (omega arith)
  by false e =
      let large : 2 ^ (width - 1) ≤ sum = grind (arith, nat_tests) in
      let bound : 2 ^ width ≤ 2 ^ 32 = pow_mono narrow in
      let top : 2 ^ 32 ≡ 4294967296 = refl in
      let more : 2 ^ 33 ≡ 8589934592 = refl in
      subst (λ n. n < 2 ^ 33) (sym (excess-set width sum some narrow small large))
      (omega (arith, bound, top, more))

-- a number less what it is too great by is its value
pub signed-number : (bytes : List ℕ) (first width sum less : ℕ) → 0 < width → width ≤ 32
    → sum ≡ sum_of_bits bytes first width → (sum < 2 ^ (width - 1) → less ≡ 0)
    → (2 ^ (width - 1) ≤ sum → less ≡ 2 ^ width)
    → to_z w64 (of_z w64 (to_z w64 sum -ℤ to_z w64 less)) ≡ value bytes first width true
signed-number bytes first width sum less some narrow e clear set =
    by (nat_lt sum (2 ^ (width - 1))) refl where
      fits : 1 * 2 ^ (width - 1) % 18446744073709551616 ≡ 2 ^ (width - 1)
      fits = power-fits (width - 1) (omega (arith, narrow))

      by : (t : Bool) → nat_lt sum (2 ^ (width - 1)) ≡ t
          → to_z w64 (of_z w64 (to_z w64 sum -ℤ to_z w64 less)) ≡ value bytes first width true
      by true q =
          let lt : sum < 2 ^ (width - 1) = grind (arith, nat_tests) in
          let small = sum-narrow bytes first width sum narrow e in
          ap (λ n. to_z w64 (of_z w64 (to_z w64 sum -ℤ to_z w64 n))) (clear lt)
          ∙ (let same : to_z w64 (of_z w64 (to_z w64 sum -ℤ to_z w64 0)) ≡ to_z w64 sum =
          omega (arith, ints, small) in same)
          ∙ clear-number bytes first width sum some narrow e (subst (λ n. sum < n) (sym fits) lt)
      by false q =
          let large : 2 ^ (width - 1) ≤ sum = grind (arith, nat_tests) in
          ap (λ n. to_z w64 (of_z w64 (to_z w64 sum -ℤ to_z w64 n)))
          (set large ∙ sym (power-fits width narrow))
          ∙ set-number bytes first width sum some narrow e (subst (λ n. n ≤ sum) (sym fits) large)
