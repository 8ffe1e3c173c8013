-- Bits, sums of bits, and the 32 bits of a signed sum.
use Rattle.std.proofs.Common.{◌≡◌, ℕ, zero, suc, ◌+◌, ◌-◌, ◌*◌, ◌%◌, ◌^◌, ◌<◌, ◌≤◌, ◌⊎◌, inl, inr}
use Rattle.std.proofs.Common.{true, cond, nat_lt, List, refl, ap, sym, ◌∙◌, subst, arith, add-one}
use Rattle.std.specs.Prelude.{pos, negsuc, ◌-ℤ◌}
use Rattle.std.proofs.Math.Nat.{pow-suc, mul-le-mul_right, two-pow-succ}
use Rattle.std.proofs.Math.Pow.{pow_mono}
use Rattle.std.proofs.lemmas.Bool.Decides.{nat_tests}
use Rattle.std.proofs.lemmas.Grind.{common_steps}
use Rattle.hidreport_fields.specs.BitValue.{as_word, bit, sum_of_bits, value}

-- a sum below 2 ^ i and a bit at i are below 2 ^ (i + 1)
pub bit_added : (sum x i : ℕ) → sum < 2 ^ i → x < 2 → sum + x * 2 ^ i < 2 ^ (i + 1)
bit_added sum x i small bit =
    let one : x ≤ 1 = omega arith in
    let bound : x * 2 ^ i ≤ 1 * 2 ^ i = mul-le-mul_right (2 ^ i) one in
    rw (add-one, pow-suc) (omega arith)

-- a bit is 0 or 1
pub bit-small : (bytes : List ℕ) (n : ℕ) → bit bytes n < 2
bit-small bytes n = grind (arith, common_steps)

-- so many bits are below their power of 2
pub sum-small : (bytes : List ℕ) (s w : ℕ) → sum_of_bits bytes s w < 2 ^ w
sum-small bytes s zero = omega arith
sum-small bytes s (suc w) =
    subst (λ n. sum_of_bits bytes s w + bit bytes (s + w) * 2 ^ w < 2 ^ n) (add-one w)
    (bit_added (sum_of_bits bytes s w) (bit bytes (s + w)) w (sum-small bytes s w)
    (bit-small bytes (s + w)))

pub zero-or-one : (b : ℕ) → b < 2 → (b ≡ 0) ⊎ (b ≡ 1)
zero-or-one zero lt = inl refl
zero-or-one (suc zero) lt = inr refl
zero-or-one (suc (suc b)) lt = absurd (omega (arith, lt))

-- as 32 bits, less than nothing
pub below-word : (x p : ℕ) → x < p → as_word (pos x -ℤ pos p) ≡ 2 ^ 32 - (p - x)
below-word x zero lt = absurd (omega (arith, lt))
below-word x (suc p) lt =
    let t : nat_lt x (suc p) ≡ true = grind (arith, nat_tests) in
    ap (λ b. as_word (cond b (negsuc (suc p - suc x)) (pos (x - suc p)))) t
    ∙ ap (λ n. 2 ^ 32 - n) (let n : suc p - suc x + 1 ≡ suc p - x = omega (arith, lt) in n)

-- nothing taken away
pub plain-word : (x P : ℕ) → as_word (pos x -ℤ pos (0 * P)) ≡ x
plain-word x P = let none : 0 * P ≡ 0 = omega arith in ap (λ n. as_word (pos x -ℤ pos n)) none
    ∙ (let e : x + 0 ≡ x = omega arith in e)

-- where the top bit is clear, the value is the sum of all bits
top-by : (x P b sum : ℕ) → (b ≡ 0) ⊎ (b ≡ 1) → sum ≡ x + b * P → sum < P
    → sum ≡ as_word (pos x -ℤ pos (b * P))
top-by x P b sum (inl p) e small =
    let f : sum ≡ x + 0 * P = e ∙ ap (λ n. x + n * P) p in
    let g : sum ≡ x = omega (arith, f) in
    g ∙ sym (ap (λ n. as_word (pos x -ℤ pos (n * P))) p ∙ plain-word x P)
top-by x P b sum (inr p) e small =
    let f : sum ≡ x + 1 * P = e ∙ ap (λ n. x + n * P) p in absurd (omega (arith, f, small))

-- 1 shifted to a place in 32 bits
pub power-fits : (w : ℕ) → w ≤ 32 → 1 * 2 ^ w % 18446744073709551616 ≡ 2 ^ w
power-fits w narrow =
    let bound : 2 ^ w ≤ 2 ^ 32 = pow_mono narrow in
    let top : 2 ^ 32 ≡ 4294967296 = refl in
    omega (arith, bound, top)

-- a sum below 1 shifted to the top place is below that power of 2
pub below-top : (w sum : ℕ) → suc w ≤ 32 → sum < 1 * 2 ^ (suc w - 1) % 18446744073709551616
    → sum < 2 ^ w
below-top w sum narrow small =
    let less : suc w - 1 ≡ w = omega arith in
    subst (λ n. sum < n)
    (ap (λ n. 1 * 2 ^ n % 18446744073709551616) less ∙ power-fits w (omega (arith, narrow))) small

pub top-clear : (bytes : List ℕ) (first width sum : ℕ) → 0 < width → width ≤ 32
    → sum ≡ sum_of_bits bytes first width
    → sum < 1 * 2 ^ (width - 1) % 18446744073709551616
    → sum ≡ as_word (value bytes first width true)
top-clear bytes first zero sum some narrow e small = absurd (omega (arith, some))
top-clear bytes first (suc w) sum some narrow e small =
    top-by (sum_of_bits bytes first w) (2 ^ w) (bit bytes (first + w)) sum
    (zero-or-one (bit bytes (first + w)) (bit-small bytes (first + w))) e
    (below-top w sum narrow small)

-- where it is set, 2 to the width is taken away
set-by : (x P b sum : ℕ) → (b ≡ 0) ⊎ (b ≡ 1) → sum ≡ x + b * P → x < P → P ≤ sum
    → P + P ≤ 4294967296
    → 4294967296 - (P + P) + sum ≡ as_word (pos x -ℤ pos (b * P))
set-by x P b sum (inl p) e below large fits =
    let f : sum ≡ x + 0 * P = e ∙ ap (λ n. x + n * P) p in absurd (omega (arith, f, below, large))
set-by x P b sum (inr p) e below large fits =
    let f : sum ≡ x + 1 * P = e ∙ ap (λ n. x + n * P) p in
    let one : 1 * P ≡ P = omega arith in
    let top : 2 ^ 32 ≡ 4294967296 = refl in
    let g : 4294967296 - (P + P) + sum ≡ 2 ^ 32 - (P - x) = omega (arith, f, below, fits, top) in
    g ∙ sym (ap (λ n. as_word (pos x -ℤ pos (n * P))) p ∙ ap (λ n. as_word (pos x -ℤ pos n)) one
    ∙ below-word x P below)

-- twice the top bit of a width is no more than 2 to the 32nd
pub doubled-fits : (w : ℕ) → suc w ≤ 32 → 2 ^ w + 2 ^ w ≤ 4294967296
doubled-fits w narrow =
    let double : 2 ^ suc w ≡ 2 ^ w + 2 ^ w = two-pow-succ w in
    let bound : 2 ^ suc w ≤ 2 ^ 32 = pow_mono narrow in
    let top : 2 ^ 32 ≡ 4294967296 = refl in
    omega (arith, double, bound, top)

pub top-set : (bytes : List ℕ) (first width sum : ℕ) → 0 < width → width ≤ 32
    → sum ≡ sum_of_bits bytes first width
    → 1 * 2 ^ (width - 1) % 18446744073709551616 ≤ sum
    → 4294967296 - 1 * 2 ^ width % 18446744073709551616 + sum ≡ as_word
    (value bytes first width true)
top-set bytes first zero sum some narrow e large = absurd (omega (arith, some))
top-set bytes first (suc w) sum some narrow e large =
    let P = 2 ^ w in
    let double : 2 ^ suc w ≡ P + P = two-pow-succ w in
    let fits : P + P ≤ 4294967296 = doubled-fits w narrow in
    let less : suc w - 1 ≡ w = omega arith in
    let reached : P ≤ sum = subst (λ n. n ≤ sum)
    (ap (λ n. 1 * 2 ^ n % 18446744073709551616) less ∙ power-fits w (omega (arith, narrow)))
    large in
    ap (λ n. 4294967296 - n + sum) (power-fits (suc w) narrow ∙ double)
    ∙ set-by (sum_of_bits bytes first w) P (bit bytes (first + w)) sum
    (zero-or-one (bit bytes (first + w)) (bit-small bytes (first + w))) e
    (sum-small bytes first w) reached fits
