-- Bytes by their bits, and the bits of a word that other bits were put into.
use Rattle.std.proofs.Common.{◌≡◌, ℕ, zero, suc, ◌+◌, ◌-◌, ◌*◌, ◌/◌, ◌%◌, ◌^◌, ◌<◌, ◌≤◌}
use Rattle.std.proofs.Common.{Bool, true, false, nat_lt}
use Rattle.std.proofs.Common.{List, [], ◌∷◌, length, refl, sym, ap, subst}
use Rattle.std.proofs.Common.{◌∙◌, arith, add-one}
use Rattle.std.specs.Prelude.{slice_index}
use Rattle.std.specs.Int.{bit_at}
use Rattle.std.proofs.lemmas.Bool.Decides.{nat_tests}
use Rattle.std.proofs.lemmas.Grind.{common_steps}
use Rattle.std.proofs.lemmas.Nat.Bits.{bit_at_lowest, bit_at_cat_low, bit_at_cat_high}
use Rattle.std.proofs.lemmas.Nat.Bits.{same_from_bits_below}
use Rattle.hidreport_items.specs.Spelling.{AreBytes}
use Rattle.hidreport_fields.specs.BitValue.{bit}
use Rattle.hidreport_fields.specs.WritingValues.{bytes_of, number_of}
use Rattle.hidreport_fields.proofs.BitLemmas.{bit_added}

-- bits below 2
abbrev pub AreBits : (ℕ → ℕ) → Type 0
AreBits f = (n : ℕ) → f n < 2

pub number-small : (f : ℕ → ℕ) → AreBits f → (s w : ℕ) → number_of f s w < 2 ^ w
number-small f small s zero = omega arith
number-small f small s (suc w) =
    subst (λ n. number_of f s w + f (s + w) * 2 ^ w < 2 ^ n) (add-one w)
    (bit_added (number_of f s w) (f (s + w)) w (number-small f small s w) (small (s + w)))

-- one bit more on top
bit-more : (x b w i g : ℕ) → x < 2 ^ w → b < 2 → i < suc w → (i < w → bit_at x i ≡ g)
    → (i ≡ w → b ≡ g) → bit_at (x + b * 2 ^ w) i ≡ g
bit-more x b w i g small bit lt low top = by (nat_lt i w) refl where
  turned : x + b * 2 ^ w ≡ b * 2 ^ w + x
  turned = omega arith

  by : (t : Bool) → nat_lt i w ≡ t → bit_at (x + b * 2 ^ w) i ≡ g
  by true e =
      let h : i < w = grind (arith, nat_tests) in
      ap (λ n. bit_at n i) turned ∙ bit_at_cat_low b w x i h ∙ low h
  by false e =
      let h : i ≡ w = grind (arith, nat_tests, common_steps) in
      let none : i - w ≡ 0 = omega arith in
      let one : b % 2 ≡ b = omega arith in
      ap (λ n. bit_at n i) turned ∙ bit_at_cat_high b w x i small (omega arith)
      ∙ ap (bit_at b) none ∙ bit_at_lowest b ∙ one ∙ top h

-- a number made of bits has just these
pub number-bit : (f : ℕ → ℕ) → AreBits f → (s w i : ℕ) → i < w
    → bit_at (number_of f s w) i ≡ f (s + i)
number-bit f small s zero i lt = absurd (omega (arith, lt))
number-bit f small s (suc w) i lt =
    bit-more (number_of f s w) (f (s + w)) w i (f (s + i)) (number-small f small s w)
    (small (s + w)) lt (λ h. number-bit f small s w i h)
    (λ e. ap (λ n. f (s + n)) (sym e))

pub byte-same : (f : ℕ → ℕ) → AreBits f → (s b : ℕ) → b < 256
    → ((i : ℕ) → i < 8 → f (s + i) ≡ bit_at b i) → number_of f s 8 ≡ b
byte-same f small s b lt each = same_from_bits_below 8 (number_of f s 8) b (number-small f small s 8)
    lt (λ i h. number-bit f small s 8 i h ∙ each i h)

-- the bits of the first byte, and those behind it
pub bit-head : (b : ℕ) (bs : List ℕ) (i : ℕ) → i < 8 → bit (b ∷ bs) i ≡ bit_at b i
bit-head b bs i lt =
    let place : i / 8 ≡ 0 = omega (arith, lt) in
    let within : i % 8 ≡ i = omega (arith, lt) in
    ap (λ n. slice_index (b ∷ bs) n / 2 ^ (i % 8) % 2) place ∙ ap (λ n. b / 2 ^ n % 2) within

pub bit-tail : (b : ℕ) (bs : List ℕ) (i : ℕ) → bit (b ∷ bs) (8 + i) ≡ bit bs i
bit-tail b bs i =
    let place : (8 + i) / 8 ≡ suc (i / 8) = omega arith in
    let within : (8 + i) % 8 ≡ i % 8 = omega arith in
    ap (λ n. slice_index (b ∷ bs) n / 2 ^ ((8 + i) % 8) % 2) place
    ∙ ap (λ n. slice_index bs (i / 8) / 2 ^ n % 2) within

-- bytes are made of their bits
pub bytes-same : (f : ℕ → ℕ) → AreBits f → (bytes : List ℕ) → AreBytes bytes → (s : ℕ)
    → ((i : ℕ) → i < 8 * length bytes → f (s + i) ≡ bit bytes i)
    → bytes_of f s (length bytes) ≡ bytes
bytes-same f small [] are s each = refl
bytes-same f small (b ∷ bs) are s each =
    let head : number_of f s 8 ≡ b = byte-same f small s b (are 0 0 (omega arith))
    (λ i h. each i (omega (arith, h)) ∙ bit-head b bs i h) in
    let next = λ (i : ℕ). let e : s + 8 + i ≡ s + (8 + i) = omega arith in e in
    let tail : bytes_of f (s + 8) (length bs) ≡ bs =
    bytes-same f small bs (λ k d below. are (suc k) d (omega (arith, below))) (s + 8)
    (λ i h. ap f (next i) ∙ each (8 + i) (omega (arith, h)) ∙ bit-tail b bs i) in
    ap (λ n. n ∷ bytes_of f (s + 8) (length bs)) head ∙ ap (λ l. b ∷ l) tail

pub length-bytes_of : (f : ℕ → ℕ) (s m : ℕ) → length (bytes_of f s m) ≡ m
length-bytes_of f s zero = refl
length-bytes_of f s (suc m) = ap suc (length-bytes_of f (s + 8) m)

-- bytes that are made of bits have just these
pub bytes-bit : (f : ℕ → ℕ) → AreBits f → (s m i : ℕ) → i < 8 * m
    → bit (bytes_of f s m) i ≡ f (s + i)
bytes-bit f small s zero i lt = absurd (omega (arith, lt))
bytes-bit f small s (suc m) i lt = by (nat_lt i 8) refl (λ j h. bytes-bit f small (s + 8) m j h) where
  by : (t : Bool) → nat_lt i 8 ≡ t
      → ((j : ℕ) → j < 8 * m → bit (bytes_of f (s + 8) m) j ≡ f (s + 8 + j))
      → bit (bytes_of f s (suc m)) i ≡ f (s + i)
  by true e rest =
      let h : i < 8 = grind (arith, nat_tests) in
      bit-head (number_of f s 8) (bytes_of f (s + 8) m) i h ∙ number-bit f small s 8 i h
  by false e rest =
      let h : 8 ≤ i = grind (arith, nat_tests, common_steps) in
      let here : i ≡ 8 + (i - 8) = omega arith in
      let place : s + 8 + (i - 8) ≡ s + i = omega arith in
      ap (bit (bytes_of f s (suc m))) here
      ∙ bit-tail (number_of f s 8) (bytes_of f (s + 8) m) (i - 8)
      ∙ rest (i - 8) (omega arith) ∙ ap f place
