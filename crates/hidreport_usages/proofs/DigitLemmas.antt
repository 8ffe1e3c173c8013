-- Four hexadecimal digits and their number.
use Rattle.std.proofs.Common.{◌≡◌, ℕ, ◌+◌, ◌*◌, ◌/◌, ◌%◌, ◌<◌, List, [], ◌∷◌, length, slice_index, refl, sym, ap, ap₂}
use Rattle.std.proofs.Common.{◌∙◌, arith}
use Rattle.hidreport_usages.specs.Digits.{digit, four_digits}

-- a text of four letters is its letters
pub letters_of : (text : List ℕ) → length text ≡ 4
    → text ≡ slice_index text 0 ∷ slice_index text 1 ∷ slice_index text 2 ∷ slice_index text 3 ∷ []
letters_of [] h = absurd (omega (arith, h))
letters_of (a ∷ []) h = absurd (omega (arith, h))
letters_of (a ∷ b ∷ []) h = absurd (omega (arith, h))
letters_of (a ∷ b ∷ c ∷ []) h = absurd (omega (arith, h))
letters_of (a ∷ b ∷ c ∷ d ∷ []) h = refl
letters_of (a ∷ b ∷ c ∷ d ∷ e ∷ rest) h = absurd (omega (arith, h))

-- four numbers below 16 are the digits of their sum with weights
pub weighed : (a b c d : ℕ) → a < 16 → b < 16 → c < 16 → d < 16
    → four_digits (a * 4096 + b * 256 + c * 16 + d) ≡ digit a ∷ digit b ∷ digit c ∷ digit d ∷ []
weighed a b c d la lb lc ld =
    let n = a * 4096 + b * 256 + c * 16 + d in
    let first : n / 4096 ≡ a = omega arith in
    let second : n / 256 % 16 ≡ b = omega arith in
    let third : n / 16 % 16 ≡ c = omega arith in
    let fourth : n % 16 ≡ d = omega arith in
    ap₂ (λ x y. x ∷ y) (ap digit first) (ap₂ (λ x y. x ∷ y) (ap digit second) (ap₂ (λ x y. x ∷ y) (ap digit third) (ap (λ x. digit x ∷ []) fourth)))

-- so the sum is the number of a text of these digits
pub is_number : (text : List ℕ) (a b c d : ℕ) → length text ≡ 4 → (a < 16) × (digit a ≡ slice_index text 0)
    → (b < 16) × (digit b ≡ slice_index text 1) → (c < 16) × (digit c ≡ slice_index text 2)
    → (d < 16) × (digit d ≡ slice_index text 3)
    → (a * 4096 + b * 256 + c * 16 + d < 65536) × (four_digits (a * 4096 + b * 256 + c * 16 + d) ≡ text)
is_number text a b c d long first second third fourth = (
  omega (arith, first.0, second.0, third.0, fourth.0),
  weighed a b c d first.0 second.0 third.0 fourth.0
      ∙ ap₂ (λ x y. x ∷ y) first.1 (ap₂ (λ x y. x ∷ y) second.1 (ap₂ (λ x y. x ∷ y) third.1 (ap (λ x. x ∷ []) fourth.1)))
      ∙ sym (letters_of text long),
)
