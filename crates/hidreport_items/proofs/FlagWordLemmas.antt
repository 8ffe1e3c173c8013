-- Flags as a number, and the number as flags.
use Rattle.std.proofs.Common.{◌≡◌, ◌≢◌, ℕ, zero, suc, ◌+◌, ◌*◌, ◌/◌, ◌%◌, ◌^◌, ◌<◌, ◌≤◌, Bool, true}
use Rattle.std.proofs.Common.{false, List, [], ◌∷◌, length, refl, ap, ◌∙◌, arith}
use Rattle.std.specs.Prelude.{◌==◌}
use Rattle.std.proofs.lemmas.Bool.{cond_both, cond-false, ne_eqb}
use Rattle.std.proofs.lemmas.Nat.{mod-pow-add}
use Rattle.hidreport_items.specs.Flags.{Flags, is_flag_set, flags_of}
use Rattle.hidreport_items.specs.Numbers.{word}
use Rattle.hidreport_items.specs.Spelling.{AreBytes}
use Rattle.hidreport_items.specs.Writing.{flag_bit, flags_number, flags_data, two_bytes}
use Rattle.hidreport_items.proofs.WordLemmas.{IsLeast, by-shape, bytes-one, are-one, are-two}

abbrev pub bit_of : Bool → ℕ
bit_of true = 1
bit_of false = 0

bit-small : (b : Bool) → bit_of b ≤ 1
bit-small true = omega arith
bit-small false = omega arith

bit-again : (b : Bool) → (bit_of b == 1) ≡ b
bit-again true = refl
bit-again false = refl

placed : (b : Bool) (i : ℕ) → flag_bit b i ≡ bit_of b * 2 ^ i
placed true i = omega arith
placed false i = omega arith

-- nine bits and what they add up to
abbrev pub sum_of : ℕ → ℕ → ℕ → ℕ → ℕ → ℕ → ℕ → ℕ → ℕ → ℕ
sum_of a b c d e f g h i = i * 256 +
    (h * 128 + (g * 64 + (f * 32 + (e * 16 + (d * 8 + (c * 4 + (b * 2 + a)))))))

pub number-is : (f : Flags) → flags_number f
    ≡ sum_of (bit_of f.constant) (bit_of f.variable) (bit_of f.relative) (bit_of f.wrap)
    (bit_of f.nonlinear) (bit_of f.no_preferred_state) (bit_of f.null_state) (bit_of f.volatile)
    (bit_of f.buffered_bytes)
number-is f =
    omega (
      arith,
      placed f.constant 0,
      placed f.variable 1,
      placed f.relative 2,
      placed f.wrap 3,
      placed f.nonlinear 4,
      placed f.no_preferred_state 5,
      placed f.null_state 6,
      placed
          f.volatile 7,
      placed f.buffered_bytes 8,
    )

pub number-small : (f : Flags) → flags_number f < 512
number-small f =
    omega (
      arith,
      number-is f,
      bit-small f.constant,
      bit-small f.variable,
      bit-small f.relative,
      bit-small f.wrap,
      bit-small f.nonlinear,
      bit-small f.no_preferred_state,
      bit-small
          f.null_state,
      bit-small f.volatile,
      bit-small f.buffered_bytes,
    )

-- each bit of a sum
bit-0 : (n a b c d e f g h i : ℕ) → n ≡ sum_of a b c d e f g h i → a ≤ 1 → n / 1 % 2 ≡ a
bit-0 n a b c d e f g h i s la = omega arith

bit-1 : (n a b c d e f g h i : ℕ) → n ≡ sum_of a b c d e f g h i → a ≤ 1 → b ≤ 1 → n / 2 % 2 ≡ b
bit-1 n a b c d e f g h i s la lb = omega arith

bit-2 : (n a b c d e f g h i : ℕ) → n ≡ sum_of a b c d e f g h i → a ≤ 1 → b ≤ 1 → c ≤ 1
    → n / 4 % 2 ≡ c
bit-2 n a b c d e f g h i s la lb lc = omega arith

bit-3 : (n a b c d e f g h i : ℕ) → n ≡ sum_of a b c d e f g h i → a ≤ 1 → b ≤ 1 → c ≤ 1 → d ≤ 1
    → n / 8 % 2 ≡ d
bit-3 n a b c d e f g h i s la lb lc ld = omega arith

bit-4 : (n a b c d e f g h i : ℕ) → n ≡ sum_of a b c d e f g h i → a ≤ 1 → b ≤ 1 → c ≤ 1 → d ≤ 1
    → e ≤ 1 → n / 16 % 2 ≡ e
bit-4 n a b c d e f g h i s la lb lc ld le = omega arith

bit-5 : (n a b c d e f g h i : ℕ) → n ≡ sum_of a b c d e f g h i → a ≤ 1 → b ≤ 1 → c ≤ 1 → d ≤ 1
    → e ≤ 1 → f ≤ 1 → n / 32 % 2 ≡ f
bit-5 n a b c d e f g h i s la lb lc ld le lf = omega arith

bit-6 : (n a b c d e f g h i : ℕ) → n ≡ sum_of a b c d e f g h i → a ≤ 1 → b ≤ 1 → c ≤ 1 → d ≤ 1
    → e ≤ 1 → f ≤ 1 → g ≤ 1 → n / 64 % 2 ≡ g
bit-6 n a b c d e f g h i s la lb lc ld le lf lg = omega arith

bit-7 : (n a b c d e f g h i : ℕ) → n ≡ sum_of a b c d e f g h i → a ≤ 1 → b ≤ 1 → c ≤ 1 → d ≤ 1
    → e ≤ 1 → f ≤ 1 → g ≤ 1 → h ≤ 1 → n / 128 % 2 ≡ h
bit-7 n a b c d e f g h i s la lb lc ld le lf lg lh = omega arith

bit-8 : (n a b c d e f g h i : ℕ) → n ≡ sum_of a b c d e f g h i → a ≤ 1 → b ≤ 1 → c ≤ 1 → d ≤ 1
    → e ≤ 1 → f ≤ 1 → g ≤ 1 → h ≤ 1 → i ≤ 1 → n / 256 % 2 ≡ i
bit-8 n a b c d e f g h i s la lb lc ld le lf lg lh li = omega arith

abbrev pub of_flags : Flags → Flags
of_flags f = f

-- flags are equal part by part
same-flags : (a0 a1 a2 a3 a4 a5 a6 a7 a8 b0 b1 b2 b3 b4 b5 b6 b7 b8 : Bool) → a0 ≡ b0 → a1 ≡ b1
    → a2 ≡ b2 → a3 ≡ b3 → a4 ≡ b4 → a5 ≡ b5 → a6 ≡ b6 → a7 ≡ b7 → a8 ≡ b8
    → of_flags (record {
      constant = a0;
      variable = a1;
      relative = a2;
      wrap = a3;
      nonlinear = a4;
      no_preferred_state = a5;
      null_state = a6;
      volatile = a7;
      buffered_bytes = a8;
    }) ≡ record {
      constant = b0;
      variable = b1;
      relative = b2;
      wrap = b3;
      nonlinear = b4;
      no_preferred_state = b5;
      null_state = b6;
      volatile = b7;
      buffered_bytes = b8;
    }
same-flags a0 a1 a2 a3 a4 a5 a6 a7 a8 b0 b1 b2 b3 b4 b5 b6 b7 b8 e0 e1 e2 e3 e4 e5 e6 e7 e8 = cc

-- the flags that the number spells are those that it was made of
pub flags-again : (f : Flags) → flags_of (flags_number f) ≡ f
flags-again f =
    let is = number-is f in
    let b0 : is_flag_set (flags_number f) 0 ≡ f.constant = ap (λ n. n == 1)
    (bit-0 _ _ _ _ _ _ _ _ _ _ is (bit-small f.constant)) ∙ bit-again f.constant in
    let b1 : is_flag_set (flags_number f) 1 ≡ f.variable = ap (λ n. n == 1)
    (bit-1 _ _ _ _ _ _ _ _ _ _ is (bit-small f.constant) (bit-small f.variable))
    ∙ bit-again f.variable in
    let b2 : is_flag_set (flags_number f) 2 ≡ f.relative = ap (λ n. n == 1)
    (bit-2 _ _ _ _ _ _ _ _ _ _ is (bit-small f.constant) (bit-small f.variable)
    (bit-small f.relative)) ∙ bit-again f.relative in
    let b3 : is_flag_set (flags_number f) 3 ≡ f.wrap = ap (λ n. n == 1)
    (bit-3 _ _ _ _ _ _ _ _ _ _ is (bit-small f.constant) (bit-small f.variable)
    (bit-small f.relative) (bit-small f.wrap)) ∙ bit-again f.wrap in
    let b4 : is_flag_set (flags_number f) 4 ≡ f.nonlinear = ap (λ n. n == 1)
    (bit-4 _ _ _ _ _ _ _ _ _ _ is (bit-small f.constant) (bit-small f.variable)
    (bit-small f.relative) (bit-small f.wrap) (bit-small f.nonlinear)) ∙ bit-again f.nonlinear in
    let b5 : is_flag_set (flags_number f) 5 ≡ f.no_preferred_state = ap (λ n. n == 1)
    (bit-5 _ _ _ _ _ _ _ _ _ _ is (bit-small f.constant) (bit-small f.variable)
    (bit-small f.relative) (bit-small f.wrap) (bit-small f.nonlinear)
    (bit-small f.no_preferred_state)) ∙ bit-again f.no_preferred_state in
    let b6 : is_flag_set (flags_number f) 6 ≡ f.null_state = ap (λ n. n == 1)
    (bit-6 _ _ _ _ _ _ _ _ _ _ is (bit-small f.constant) (bit-small f.variable)
    (bit-small f.relative) (bit-small f.wrap) (bit-small f.nonlinear)
    (bit-small f.no_preferred_state) (bit-small f.null_state)) ∙ bit-again f.null_state in
    let b7 : is_flag_set (flags_number f) 7 ≡ f.volatile = ap (λ n. n == 1)
    (bit-7 _ _ _ _ _ _ _ _ _ _ is (bit-small f.constant) (bit-small f.variable)
    (bit-small f.relative) (bit-small f.wrap) (bit-small f.nonlinear)
    (bit-small f.no_preferred_state) (bit-small f.null_state) (bit-small f.volatile))
    ∙ bit-again f.volatile in
    let b8 : is_flag_set (flags_number f) 8 ≡ f.buffered_bytes = ap (λ n. n == 1)
    (bit-8 _ _ _ _ _ _ _ _ _ _ is (bit-small f.constant) (bit-small f.variable)
    (bit-small f.relative) (bit-small f.wrap) (bit-small f.nonlinear)
    (bit-small f.no_preferred_state) (bit-small f.null_state) (bit-small f.volatile)
    (bit-small f.buffered_bytes)) ∙ bit-again f.buffered_bytes in
    same-flags _ _ _ _ _ _ _ _ _ _ _ _ _ _ _ _ _ _ b0 b1 b2 b3 b4 b5 b6 b7 b8

-- a flag of a number is its bit
bit-is : (w i : ℕ) → bit_of (is_flag_set w i) ≡ w / 2 ^ i % 2
bit-is w i =
    bit-by (w / 2 ^ i % 2) (omega arith)
  where
    bit-by : (b : ℕ) → b < 2 → bit_of (b == 1) ≡ b
    bit-by zero lt = refl
    bit-by (suc zero) lt = refl
    bit-by (suc (suc b)) lt = absurd (omega arith)

sum-below : (w m1 m2 m3 m4 m5 m6 m7 m8 m9 a b c d e f g h i : ℕ) → m1 ≡ a → m2 ≡ b * 2 + m1
    → m3 ≡ c * 4 + m2 → m4 ≡ d * 8 + m3 → m5 ≡ e * 16 + m4
    → m6 ≡ f * 32 + m5 → m7 ≡ g * 64 + m6 → m8 ≡ h * 128 + m7 → m9 ≡ i * 256 + m8 → m9 ≤ w
    → sum_of a b c d e f g h i ≤ w
sum-below w m1 m2 m3 m4 m5 m6 m7 m8 m9 a b c d e f g h i p1 p2 p3 p4 p5 p6 p7 p8 p9 le = omega arith

mod-le : (w m : ℕ) → 0 < m → w % m ≤ w
mod-le w m some = omega arith

-- the flags of a number add up to no more than it
pub number-le : (w : ℕ) → flags_number (flags_of w) ≤ w
number-le w =
    let is = number-is (flags_of w) in
    let b0 = bit-is w 0 in
    let b1 = bit-is w 1 in
    let b2 = bit-is w 2 in
    let b3 = bit-is w 3 in
    let b4 = bit-is w 4 in
    let b5 = bit-is w 5 in
    let b6 = bit-is w 6 in
    let b7 = bit-is w 7 in
    let b8 = bit-is w 8 in
    let le : sum_of (w / 1 % 2) (w / 2 % 2) (w / 4 % 2) (w / 8 % 2) (w / 16 % 2) (w / 32 % 2)
    (w / 64 % 2) (w / 128 % 2) (w / 256 % 2) ≤ w =
    sum-below w (w % 2) (w % 4) (w % 8) (w % 16) (w % 32) (w % 64) (w % 128) (w % 256) (w % 512)
    (w / 1 % 2) (w / 2 % 2) (w / 4 % 2) (w / 8 % 2) (w / 16 % 2) (w / 32 % 2) (w / 64 % 2)
    (w / 128 % 2) (w / 256 % 2)
    (omega arith) (mod-pow-add w 1 1) (mod-pow-add w 1 2) (mod-pow-add w 1 3) (mod-pow-add w 1 4)
    (mod-pow-add w 1 5) (mod-pow-add w 1 6) (mod-pow-add w 1 7) (mod-pow-add w 1 8)
    (mod-le w 512 (omega arith)) in
    number-by w (flags_number (flags_of w)) _ _ _ _ _ _ _ _ _ _ _ _ _ _ _ _ _ _ is b0 b1 b2 b3 b4 b5
    b6 b7 b8 le
  where
    number-by : (w n a b c d e f g h i a1 b1 c1 d1 e1 f1 g1 h1 i1 : ℕ)
        → n ≡ sum_of a b c d e f g h i
        → a ≡ a1 → b ≡ b1 → c ≡ c1 → d ≡ d1 → e ≡ e1 → f ≡ f1 → g ≡ g1 → h ≡ h1 → i ≡ i1
        → sum_of a1 b1 c1 d1 e1 f1 g1 h1 i1 ≤ w → n ≤ w
    number-by w n a b c d e f g h i a1 b1 c1 d1 e1 f1 g1 h1 i1 is pa pb pc pd pe pf pg ph pi le =
        omega arith

-- without flag 7 they add up to no more either
pub number-without : (f : Flags) → flags_number (record f { volatile = false }) ≤ flags_number f
number-without f = omega arith

-- a second byte is there exactly for flag 8
pub word-flags : (f : Flags) → word (flags_data f) ≡ flags_number f
word-flags f =
    let small = number-small f in
    cond_both f.buffered_bytes (two_bytes (flags_number f)) (flags_number f ∷ [])
    (λ bs. word bs ≡ flags_number f) (λ e. omega arith) (λ e. omega arith)

pub length-flags : (f : Flags) → (0 < length (flags_data f)) × (length (flags_data f) ≤ 2)
length-flags f =
    cond_both f.buffered_bytes (two_bytes (flags_number f)) (flags_number f ∷ [])
    (λ bs. (0 < length bs) × (length bs ≤ 2)) (λ e. (omega arith, omega arith))
    (λ e. (omega arith, omega arith))

-- data that spells at least these flags is no shorter and no smaller
pub flags-least : (f : Flags) (bs : List ℕ) → AreBytes bs → 0 < length bs → length bs ≤ 4
    → length bs ≢ 3 → f.buffered_bytes ≡ is_flag_set (word bs) 8 → flags_number f ≤ word bs
    → IsLeast (flags_data f) bs
flags-least f bs are some short known eighth low =
    by-shape (λ bs. AreBytes bs → f.buffered_bytes ≡ is_flag_set (word bs) 8
    → flags_number f ≤ word bs → IsLeast (flags_data f) bs) bs some short known
    (λ a are eighth low. let small : a < 256 = bytes-one a are in
    let none : word (a ∷ []) / 256 % 2 ≢ 1 = λ e. omega arith in
    let one : f.buffered_bytes ≡ false = eighth ∙ ne_eqb (word (a ∷ []) / 256 % 2) 1 none in
    let is : flags_data f ≡ flags_number f ∷ [] =
    cond-false f.buffered_bytes (two_bytes (flags_number f)) (flags_number f ∷ []) one in
    record { short = omega (arith, ap length is); small = λ e. omega (arith, word-flags f, low) })
    (λ a b are eighth low. let l = length-flags f in record
    { short = l.1; small = λ e. omega (arith, word-flags f, low) })
    (λ a b c d are eighth low. let l = length-flags f in record
    { short = omega (arith, l.1); small = λ e. omega (arith, word-flags f, low) })
    are eighth low

pub are-flags : (f : Flags) → AreBytes (flags_data f)
are-flags f =
    let small = number-small f in
    cond_both f.buffered_bytes (two_bytes (flags_number f)) (flags_number f ∷ []) AreBytes
    (λ e. are-two (flags_number f))
    (λ e. are-one (flags_number f) (without-eighth f e))
  where
    without-eighth : (f : Flags) → f.buffered_bytes ≡ false → flags_number f < 256
    without-eighth f e =
        let none : bit_of f.buffered_bytes ≡ 0 = ap bit_of e in
        omega (
          arith,
          number-is f,
          none,
          bit-small f.constant,
          bit-small f.variable,
          bit-small
              f.relative,
          bit-small f.wrap,
          bit-small f.nonlinear,
          bit-small f.no_preferred_state,
          bit-small f.null_state,
          bit-small f.volatile,
        )
