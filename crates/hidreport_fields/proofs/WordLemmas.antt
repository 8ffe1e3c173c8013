-- The bits of a few bytes, read as one word.
use Rattle.std.proofs.Common.{◌≡◌, ℕ, zero, suc, ◌+◌, ◌*◌, ◌/◌, ◌%◌, ◌^◌, ◌-◌, ◌<◌, ◌≤◌, List, []}
use Rattle.std.proofs.Common.{◌∷◌, length, take, drop, bit_and, refl, sym, ap, subst}
use Rattle.std.proofs.Common.{◌∙◌, arith}
use Rattle.std.specs.Prelude.{slice_index}
use Rattle.std.proofs.Math.Nat.{div-div-eq-div-mul}
use Rattle.std.proofs.lemmas.List.{get_or-drop, get_or-take}
use Rattle.std.proofs.lemmas.Nat.{and_mask, mod-pow-add, pow-add}
use Rattle.hidreport_items.specs.Numbers.{word}
use Rattle.hidreport_items.specs.Spelling.{AreBytes}
use Rattle.hidreport_fields.specs.BitValue.{bit, sum_of_bits}
use Rattle.hidreport_fields.proofs.BitLemmas.{power-fits}

-- bit i of a word is bit i of its bytes
pub word-bit : (xs : List ℕ) → AreBytes xs → (i : ℕ) → i < 8 * length xs
    → word xs / 2 ^ i % 2 ≡ bit xs i
word-bit [] are i lt = absurd (omega (arith, lt))
word-bit (b ∷ xs) are zero lt = omega arith
word-bit (b ∷ xs) are (suc zero) lt = omega arith
word-bit (b ∷ xs) are (suc (suc zero)) lt = omega arith
word-bit (b ∷ xs) are (suc (suc (suc zero))) lt = omega arith
word-bit (b ∷ xs) are (suc (suc (suc (suc zero)))) lt = omega arith
word-bit (b ∷ xs) are (suc (suc (suc (suc (suc zero))))) lt = omega arith
word-bit (b ∷ xs) are (suc (suc (suc (suc (suc (suc zero)))))) lt = omega arith
word-bit (b ∷ xs) are (suc (suc (suc (suc (suc (suc (suc zero))))))) lt = omega arith
word-bit (b ∷ xs) are (suc (suc (suc (suc (suc (suc (suc (suc i)))))))) lt =
    let byte : b < 256 = are 0 0 (omega arith) in
    let power : 2 ^ (8 + i) ≡ 256 * 2 ^ i = pow-add 2 8 i in
    let behind : (b + 256 * word xs) / 256 ≡ word xs = omega (arith, byte) in
    let place : (8 + i) / 8 ≡ suc (i / 8) = omega arith in
    let within : (8 + i) % 8 ≡ i % 8 = omega arith in
    let eight : 8 + i ≡ suc (suc (suc (suc (suc (suc (suc (suc i))))))) = omega arith in
    subst (λ n. word (b ∷ xs) / 2 ^ n % 2 ≡ bit (b ∷ xs) n) eight
    (ap (λ n. (b + 256 * word xs) / n % 2) power
    ∙ ap (λ n. n % 2) (sym (div-div-eq-div-mul (b + 256 * word xs) 256 (2 ^ i)))
    ∙ ap (λ n. n / 2 ^ i % 2) behind
    ∙ word-bit xs (λ k d small. are (suc k) d (omega (arith, small))) i (omega (arith, lt))
    ∙ sym (ap (λ n. slice_index (b ∷ xs) n / 2 ^ ((8 + i) % 8) % 2) place
    ∙ ap (λ n. slice_index xs (i / 8) / 2 ^ n % 2) within))

-- so many bits from s on are the word without those below, cut there
pub sum-word : (xs : List ℕ) → AreBytes xs → (s w : ℕ) → s + w ≤ 8 * length xs
    → sum_of_bits xs s w ≡ word xs / 2 ^ s % 2 ^ w
sum-word xs are s zero within = omega arith
sum-word xs are s (suc w) within =
    let below = sum-word xs are s w (omega (arith, within)) in
    let top : word xs / 2 ^ s / 2 ^ w ≡ word xs / 2 ^ (s + w) =
    div-div-eq-div-mul (word xs) (2 ^ s) (2 ^ w) ∙ ap (λ n. word xs / n) (sym (pow-add 2 s w)) in
    let here = word-bit xs are (s + w) (omega (arith, within)) in
    let cut : word xs / 2 ^ s % 2 ^ (1 + w) ≡ (word xs / 2 ^ s / 2 ^ w % 2 ^ 1) * 2 ^ w + word xs /
    2 ^ s % 2 ^ w =
    mod-pow-add (word xs / 2 ^ s) 1 w in
    let one : word xs / 2 ^ s / 2 ^ w % 2 ^ 1 ≡ bit xs (s + w) = ap (λ n. n % 2) top ∙ here in
    let sum : (word xs / 2 ^ s / 2 ^ w % 2 ^ 1) * 2 ^ w + word xs / 2 ^ s % 2 ^ w ≡ bit xs (s + w) *
    2 ^ w + sum_of_bits xs s w =
    ap (λ n. n * 2 ^ w + word xs / 2 ^ s % 2 ^ w) one
    ∙ ap (λ n. bit xs (s + w) * 2 ^ w + n) (sym below) in
    let next : 1 + w ≡ suc w = omega arith in
    sym (ap (λ n. word xs / 2 ^ s % 2 ^ n) (sym next) ∙ cut ∙ sum ∙ omega arith)

-- a bit of the bytes from q on
pub bit-from : (bytes : List ℕ) (q m i : ℕ) → i < 8 * m
    → bit bytes (8 * q + i) ≡ bit (take m (drop q bytes)) i
bit-from bytes q m i lt =
    let place : (8 * q + i) / 8 ≡ q + i / 8 = omega arith in
    let within : (8 * q + i) % 8 ≡ i % 8 = omega arith in
    let taken : slice_index (take m (drop q bytes)) (i / 8) ≡ slice_index (drop q bytes) (i / 8) =
    get_or-take m (drop q bytes) (i / 8) 0 (omega (arith, lt)) in
    let dropped : slice_index (drop q bytes) (i / 8) ≡ slice_index bytes (q + i / 8) =
    get_or-drop q bytes (i / 8) 0 in
    ap (λ n. slice_index bytes n / 2 ^ ((8 * q + i) % 8) % 2) place
    ∙ ap (λ n. slice_index bytes (q + i / 8) / 2 ^ n % 2) within
    ∙ sym (ap (λ n. n / 2 ^ (i % 8) % 2) (taken ∙ dropped))

-- bits of the bytes from q on
pub sum-from : (bytes : List ℕ) (q m r w : ℕ) → r + w ≤ 8 * m
    → sum_of_bits bytes (8 * q + r) w ≡ sum_of_bits (take m (drop q bytes)) r w
sum-from bytes q m r zero within = refl
sum-from bytes q m r (suc w) within =
    let below = sum-from bytes q m r w (omega (arith, within)) in
    let sum : 8 * q + r + w ≡ 8 * q + (r + w) = omega arith in
    let top = ap (λ n. bit bytes n) sum ∙ bit-from bytes q m (r + w) (omega (arith, within)) in
    ap (λ n. n + bit bytes (8 * q + r + w) * 2 ^ w) below
    ∙ ap (λ n. sum_of_bits (take m (drop q bytes)) r w + n * 2 ^ w) top

-- the low bits by a mask
pub masked : (n width : ℕ) → width ≤ 32
    → bit_and n (1 * 2 ^ width % 18446744073709551616 - 1) ≡ n % 2 ^ width
masked n width narrow = ap (λ m. bit_and n (m - 1)) (power-fits width narrow) ∙ and_mask n width
