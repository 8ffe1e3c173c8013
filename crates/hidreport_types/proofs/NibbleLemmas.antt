-- Nibbles of a number, by shifts and masks.
use Rattle.std.proofs.Common.{◌≡◌, ℕ, zero, suc, ◌+◌, ◌*◌, ◌/◌, ◌%◌, ◌^◌, ◌<◌, bit_and, bit_or}
use Rattle.std.proofs.Common.{refl, sym, ap, ◌∙◌, arith}
use Rattle.std.proofs.Math.Nat.{pow-suc, mul-suc}
use Rattle.std.proofs.lemmas.Nat.{and_mask, pow-add, or_shifted, or_comm, mod-pow-add, pow_pos}
use Rattle.hidreport_types.specs.UnitTable.{nibble}

pub pow_nibbles : (place : ℕ) → 2 ^ (4 * place) ≡ 16 ^ place
pow_nibbles zero = refl
pow_nibbles (suc place) =
    ap (λ e. 2 ^ e) (mul-suc 4 place)
    ∙ (pow-add 2 (4 * place) 4
    ∙ (ap (λ p. p * 16) (pow_nibbles place) ∙ sym (pow-suc 16 place)))

pub shifted_nibble : (number place : ℕ)
    → bit_and (number / 2 ^ (4 * place)) 15 ≡ nibble number place
shifted_nibble number place = and_mask (number / 2 ^ (4 * place)) 4
    ∙ ap (λ d. number / d % 16) (pow_nibbles place)

-- to OR the next nibble in its place to the nibbles below it gives one nibble more of the number
pub next_nibble : (number k : ℕ)
    → bit_or (number % 2 ^ k) ((number / 2 ^ k % 16) * 2 ^ k) ≡ number % 2 ^ (4 + k)
next_nibble number k =
    or_comm (number % 2 ^ k) ((number / 2 ^ k % 16) * 2 ^ k)
    ∙ (or_shifted (number / 2 ^ k % 16) k (number % 2 ^ k) (below number k)
    ∙ sym (mod-pow-add number 4 k))
  where
    below : (number k : ℕ) → number % 2 ^ k < 2 ^ k
    below number k = let p : zero < 2 ^ k = pow_pos k in omega arith
