-- A word with other bits put into it, and bytes with such a word put in place.
use Rattle.std.proofs.Common.{◌≡◌, ℕ, suc, ◌+◌, ◌-◌, ◌*◌, ◌/◌, ◌%◌, ◌^◌, ◌<◌, ◌≤◌, ◌⊎◌, inl, inr}
use Rattle.std.proofs.Common.{Bool, true, false, cond, nat_lt, nat_le, ◌&&◌, min, max, bit_and, bit_or}
use Rattle.std.proofs.Common.{List, [], ◌∷◌, ◌++◌, length, take, drop, refl}
use Rattle.std.proofs.Common.{sym, ap, ◌∙◌, arith, get_or, ℤ, pos, negsuc}
use Rattle.std.specs.Prelude.{slice_index}
use Rattle.std.specs.Int.{bit_at, bit_not, w64}
use Rattle.std.specs.Int.Bits.{mask_lt}
use Rattle.std.proofs.Common.{FitsSigned, to_z, of_z}
use Rattle.std.proofs.lemmas.Int.{to_z-of_z}
use borrow.Rule.Slice.PartMut.{mid_len, put_mid, same_len_mid}
use Rattle.std.proofs.Math.Nat.{div-div-eq-div-mul, div-eq_of_lt, mod-eq_of_lt}
use Rattle.std.proofs.lemmas.Bool.Decides.{nat_tests}
use Rattle.std.proofs.lemmas.Grind.{common_steps}
use Rattle.std.proofs.lemmas.List.{get_or-append_right, get_or_append_left, get_or-drop, get_or-take}
use Rattle.std.proofs.lemmas.List.{length-take-le}
use Rattle.std.proofs.lemmas.Nat.{pow-add, pow_pos, shl_whole}
use Rattle.std.proofs.lemmas.Nat.Bits.{bit_at_cat_low, bit_at_cat_high, bit_at-lt, bit_at-zero}
use Rattle.std.proofs.lemmas.Nat.Bits.{bit_at_and, bit_at_or, bit_at_not, bit_at_ones}
use Rattle.std.proofs.lemmas.Nat.Bits.{bit_at_ones_above}
use Rattle.hidreport_items.specs.Numbers.{word}
use Rattle.hidreport_items.specs.Spelling.{AreBytes}
use Rattle.hidreport_fields.specs.BitValue.{bit}
use Rattle.hidreport_fields.specs.WritingValues.{bit_after, bytes_of, number_bit, put}
use Rattle.hidreport_fields.proofs.BitLemmas.{bit-small, power-fits}
use Rattle.hidreport_fields.proofs.WordLemmas.{bit-from, word-bit}
use Rattle.hidreport_fields.proofs.WrittenBitsLemmas.{AreBits, bytes-same}

-- shifted up: nothing below, and each bit so much higher
shifted-low : (a k i : ℕ) → i < k → bit_at (a * 2 ^ k) i ≡ 0
shifted-low a k i lt =
    let e : a * 2 ^ k ≡ a * 2 ^ k + 0 = omega arith in
    ap (λ n. bit_at n i) e ∙ bit_at_cat_low a k 0 i lt ∙ bit_at-zero i

shifted-high : (a k i : ℕ) → k ≤ i → bit_at (a * 2 ^ k) i ≡ bit_at a (i - k)
shifted-high a k i le =
    let e : a * 2 ^ k ≡ a * 2 ^ k + 0 = omega arith in
    ap (λ n. bit_at n i) e ∙ bit_at_cat_high a k 0 i (pow_pos k) le

-- a word without the bits of a mask of w ones at s, and with those of a value there
abbrev pub replaced : ℕ → ℕ → ℕ → ℕ → ℕ
replaced W V M s = bit_or (bit_and W (bit_not w64 (M * 2 ^ s % 2 ^ 64)))
    (bit_and V M * 2 ^ s % 2 ^ 64)

-- one bit of it
replaced-by : (W V w s i a b : ℕ) → s < 8 → w ≤ 32 → i < 64
    → bit_at ((2 ^ w - 1) * 2 ^ s) i ≡ a → bit_at (bit_and V (2 ^ w - 1) * 2 ^ s) i ≡ b
    → bit_at (replaced W V (2 ^ w - 1) s) i ≡ max (min (bit_at W i) (1 - a)) b
replaced-by W V w s i a b low narrow within p q =
    let M = 2 ^ w - 1 in
    let some : 0 < 2 ^ w = pow_pos w in
    let mask : M * 2 ^ s % 2 ^ 64 ≡ M * 2 ^ s = shl_whole M w s 64 (omega (arith, some))
    (omega (arith, low, narrow)) in
    let value : bit_and V M * 2 ^ s % 2 ^ 64 ≡ bit_and V M * 2 ^ s =
    shl_whole (bit_and V M) w s 64 (mask_lt V w) (omega (arith, low, narrow)) in
    let small : M * 2 ^ s % 2 ^ 64 < 2 ^ 64 = omega arith in
    let kept : bit_at (bit_not w64 (M * 2 ^ s % 2 ^ 64)) i ≡ 1 - a =
    bit_at_not w64 (M * 2 ^ s % 2 ^ 64) i small within ∙ ap (λ n. 1 - bit_at n i) mask
    ∙ ap (λ n. 1 - n) p in
    let new : bit_at (bit_and V M * 2 ^ s % 2 ^ 64) i ≡ b = ap (λ n. bit_at n i) value ∙ q in
    bit_at_or (bit_and W (bit_not w64 (M * 2 ^ s % 2 ^ 64))) (bit_and V M * 2 ^ s % 2 ^ 64) i
    ∙ ap (λ n. max n (bit_at (bit_and V M * 2 ^ s % 2 ^ 64) i))
    (bit_at_and W (bit_not w64 (M * 2 ^ s % 2 ^ 64)) i)
    ∙ ap (λ n. max (min (bit_at W i) n) (bit_at (bit_and V M * 2 ^ s % 2 ^ 64) i)) kept
    ∙ ap (λ n. max (min (bit_at W i) (1 - a)) n) new

-- where the mask is set, it is the value's bit
replaced-inside : (W V w s i : ℕ) → s < 8 → w ≤ 32 → i < 64 → s ≤ i → i < s + w
    → bit_at (replaced W V (2 ^ w - 1) s) i ≡ bit_at V (i - s)
replaced-inside W V w s i low narrow within from below =
    let M = 2 ^ w - 1 in
    let place : i - s < w = omega arith in
    let one : bit_at M (i - s) ≡ 1 = bit_at_ones w (i - s) place in
    let bound : bit_at V (i - s) < 2 = bit_at-lt V (i - s) in
    let same : min (bit_at V (i - s)) 1 ≡ bit_at V (i - s) = omega arith in
    let value : bit_at (bit_and V M) (i - s) ≡ bit_at V (i - s) =
    bit_at_and V M (i - s) ∙ ap (min (bit_at V (i - s))) one ∙ same in
    let all : max (min (bit_at W i) (1 - 1)) (bit_at V (i - s)) ≡ bit_at V (i - s) = omega arith in
    replaced-by W V w s i 1 (bit_at V (i - s)) low narrow within
    (shifted-high M s i from ∙ one) (shifted-high (bit_and V M) s i from ∙ value) ∙ all

-- elsewhere it is as it was
kept-bit : (b : ℕ) → b < 2 → max (min b (1 - 0)) 0 ≡ b
kept-bit b lt = omega arith

replaced-below : (W V w s i : ℕ) → s < 8 → w ≤ 32 → i < 64 → i < s
    → bit_at (replaced W V (2 ^ w - 1) s) i ≡ bit_at W i
replaced-below W V w s i low narrow within below =
    replaced-by W V w s i 0 0 low narrow within (shifted-low (2 ^ w - 1) s i below)
    (shifted-low (bit_and V (2 ^ w - 1)) s i below) ∙ kept-bit (bit_at W i) (bit_at-lt W i)

replaced-above : (W V w s i : ℕ) → s < 8 → w ≤ 32 → i < 64 → s + w ≤ i
    → bit_at (replaced W V (2 ^ w - 1) s) i ≡ bit_at W i
replaced-above W V w s i low narrow within above =
    let M = 2 ^ w - 1 in
    let from : s ≤ i = omega arith in
    let past : w ≤ i - s = omega arith in
    let none : bit_at M (i - s) ≡ 0 = bit_at_ones_above w (i - s) past in
    let zero-there : min (bit_at V (i - s)) 0 ≡ 0 = omega arith in
    replaced-by W V w s i 0 0 low narrow within (shifted-high M s i from ∙ none)
    (shifted-high (bit_and V M) s i from ∙ bit_at_and V M (i - s)
    ∙ ap (min (bit_at V (i - s))) none ∙ zero-there)
    ∙ kept-bit (bit_at W i) (bit_at-lt W i)

-- bytes that were written from a number have its bits
written-bit : (ys : List ℕ) (N : ℕ) → ((k : ℕ) → k < length ys
    → slice_index ys k ≡ N / 2 ^ (8 * k) % 256) → (i : ℕ) → i < 8 * length ys
    → bit ys i ≡ bit_at N i
written-bit ys N each i lt =
    let k = i / 8 in
    let j = i % 8 in
    let small : j < 8 = omega arith in
    let here : 8 * k + j ≡ i = omega arith in
    let x = N / 2 ^ (8 * k) in
    let parts : x ≡ x / 256 * 2 ^ 8 + x % 256 = omega arith in
    let low : bit_at x j ≡ bit_at (x % 256) j =
    ap (λ n. bit_at n j) parts ∙ bit_at_cat_low (x / 256) 8 (x % 256) j small in
    ap (λ n. n / 2 ^ j % 2) (each k (omega arith)) ∙ sym low
    ∙ ap (λ n. n % 2) (div-div-eq-div-mul N (2 ^ (8 * k)) (2 ^ j)
    ∙ ap (λ n. N / n) (sym (pow-add 2 (8 * k) j)))
    ∙ ap (λ n. bit_at N n) here

-- bits of bytes that are joined
bit-left : (xs ys : List ℕ) (n : ℕ) → n < 8 * length xs → bit (xs ++ ys) n ≡ bit xs n
bit-left xs ys n lt =
    ap (λ b. b / 2 ^ (n % 8) % 2) (get_or_append_left xs ys 0 (n / 8) (omega arith))

bit-right : (xs ys : List ℕ) (q n : ℕ) → length xs ≡ q → 8 * q ≤ n
    → bit (xs ++ ys) n ≡ bit ys (n - 8 * q)
bit-right xs ys q n size le =
    let place : n / 8 - q ≡ (n - 8 * q) / 8 = omega arith in
    let within : n % 8 ≡ (n - 8 * q) % 8 = omega arith in
    ap (λ b. b / 2 ^ (n % 8) % 2) (get_or-append_right xs ys q (n / 8) 0 size (omega arith)
    ∙ ap (slice_index ys) place)
    ∙ ap (λ m. slice_index ys ((n - 8 * q) / 8) / 2 ^ m % 2) within

-- bits of the front of bytes, and of those behind it
bit-taken : (bytes : List ℕ) (q n : ℕ) → n < 8 * q → bit (take q bytes) n ≡ bit bytes n
bit-taken bytes q n lt =
    ap (λ b. b / 2 ^ (n % 8) % 2) (get_or-take q bytes (n / 8) 0 (omega arith))

bit-dropped : (bytes : List ℕ) (q n : ℕ) → 8 * q ≤ n
    → bit (drop q bytes) (n - 8 * q) ≡ bit bytes n
bit-dropped bytes q n le =
    let place : q + (n - 8 * q) / 8 ≡ n / 8 = omega arith in
    let within : (n - 8 * q) % 8 ≡ n % 8 = omega arith in
    ap (λ b. b / 2 ^ ((n - 8 * q) % 8) % 2) (get_or-drop q bytes ((n - 8 * q) / 8) 0
    ∙ ap (slice_index bytes) place)
    ∙ ap (λ m. slice_index bytes (n / 8) / 2 ^ m % 2) within

-- one of the bits is in the number's place, or none is
pub number-bit-small : (z : ℤ) (i : ℕ) → number_bit z i < 2
number-bit-small (pos n) i = bit_at-lt n i
number-bit-small (negsuc n) i = omega arith

pub after-bits : (first width : ℕ) (numbers : List ℤ) (bytes : List ℕ)
    → AreBits (bit_after first width numbers bytes)
after-bits first width numbers bytes n =
    by (nat_le first n && nat_lt n (first + width * length numbers)) where
      by : (t : Bool)
          → cond t (number_bit (get_or numbers ((n - first) / width) (pos 0)) ((n - first) % width))
          (bit bytes n) < 2
      by true = number-bit-small (get_or numbers ((n - first) / width) (pos 0)) ((n - first) % width)
      by false = bit-small bytes n

pub after-inside : (first width : ℕ) (numbers : List ℤ) (bytes : List ℕ) (n : ℕ) → first ≤ n
    → n < first + width * length numbers → bit_after first width numbers bytes n
    ≡ number_bit (get_or numbers ((n - first) / width) (pos 0)) ((n - first) % width)
after-inside first width numbers bytes n from below =
    let t : (nat_le first n && nat_lt n (first + width * length numbers)) ≡ true =
    grind (arith, nat_tests) in
    ap (λ b. cond b (number_bit (get_or numbers ((n - first) / width) (pos 0)) ((n - first) % width))
    (bit bytes n)) t

pub after-outside : (first width : ℕ) (numbers : List ℤ) (bytes : List ℕ) (n : ℕ)
    → (n < first) ⊎ (first + width * length numbers ≤ n)
    → bit_after first width numbers bytes n ≡ bit bytes n
after-outside first width numbers bytes n (inl below) =
    let t : (nat_le first n && nat_lt n (first + width * length numbers)) ≡ false =
    grind (arith, nat_tests) in
    ap (λ b. cond b (number_bit (get_or numbers ((n - first) / width) (pos 0)) ((n - first) % width))
    (bit bytes n)) t
after-outside first width numbers bytes n (inr above) =
    let t : (nat_le first n && nat_lt n (first + width * length numbers)) ≡ false =
    grind (arith, nat_tests) in
    ap (λ b. cond b (number_bit (get_or numbers ((n - first) / width) (pos 0)) ((n - first) % width))
    (bit bytes n)) t

-- one number alone is that of its own bits
pub after-one : (first width : ℕ) (number : ℤ) (bytes : List ℕ) (n : ℕ) → first ≤ n
    → n < first + width
    → bit_after first width (number ∷ []) bytes n ≡ number_bit number (n - first)
after-one first width number bytes n from below =
    let room : n < first + width * 1 = omega arith in
    let place : n - first < width = omega arith in
    let index : (n - first) / width ≡ 0 = div-eq_of_lt place in
    let within : (n - first) % width ≡ n - first = mod-eq_of_lt place in
    after-inside first width (number ∷ []) bytes n from room
    ∙ ap (λ k. number_bit (get_or (number ∷ []) k (pos 0)) ((n - first) % width)) index
    ∙ ap (number_bit number) within

pub after-none : (first width : ℕ) (number : ℤ) (bytes : List ℕ) (n : ℕ)
    → (n < first) ⊎ (first + width ≤ n)
    → bit_after first width (number ∷ []) bytes n ≡ bit bytes n
after-none first width number bytes n (inl below) =
    after-outside first width (number ∷ []) bytes n (inl below)
after-none first width number bytes n (inr above) =
    after-outside first width (number ∷ []) bytes n (inr (omega arith))

-- below, from there on, or from the end on
abbrev pub Placed : ℕ → ℕ → ℕ → Type 0
Placed n low high = (n < low) ⊎ ((low ≤ n) × (n < high)) ⊎ (high ≤ n)

pub place-of : (n low high : ℕ) → Placed n low high
place-of n low high = by (nat_lt n low) (nat_lt n high) refl refl where
  by : (a b : Bool) → nat_lt n low ≡ a → nat_lt n high ≡ b → Placed n low high
  by true b p q = inl (grind (arith, nat_tests))
  by false true p q = inr (inl (
    grind (arith, nat_tests, common_steps),
    grind (arith, nat_tests, common_steps),
  ))
  by false false p q = inr (inr (grind (arith, nat_tests, common_steps)))

-- the bits of a word in which a number was put among those of its bytes
word-after : (xs : List ℕ) → AreBytes xs → (V w s i : ℕ) (number : ℤ) → s < 8 → w ≤ 32 → i < 64
    → i < 8 * length xs → ((j : ℕ) → j < 64 → bit_at V j ≡ number_bit number j)
    → Placed i s (s + w)
    → bit_at (replaced (word xs) V (2 ^ w - 1) s) i ≡ bit_after s w (number ∷ []) xs i
word-after xs are V w s i number low narrow inside within value (inl lt) =
    replaced-below (word xs) V w s i low narrow inside lt ∙ word-bit xs are i within
    ∙ sym (after-none s w number xs i (inl lt))
word-after xs are V w s i number low narrow inside within value (inr (inl both)) =
    replaced-inside (word xs) V w s i low narrow inside both.0 both.1
    ∙ value (i - s) (omega (arith, both.0)) ∙ sym (after-one s w number xs i both.0 both.1)
word-after xs are V w s i number low narrow inside within value (inr (inr ge)) =
    replaced-above (word xs) V w s i low narrow inside ge ∙ word-bit xs are i within
    ∙ sym (after-none s w number xs i (inr ge))

pub word-bits : (xs : List ℕ) → AreBytes xs → length xs ≤ 5 → (V w s i : ℕ) (number : ℤ) → s < 8
    → w ≤ 32 → i < 8 * length xs → ((j : ℕ) → j < 64 → bit_at V j ≡ number_bit number j)
    → bit_at (replaced (word xs) V (1 * 2 ^ w % 18446744073709551616 - 1) s) i
    ≡ bit_after s w (number ∷ []) xs i
word-bits xs are few V w s i number low narrow within value =
    ap (λ n. bit_at (replaced (word xs) V (n - 1) s) i) (power-fits w narrow)
    ∙ word-after xs are V w s i number low narrow (omega arith) within value (place-of i s (s + w))

-- bits of touched bytes are those of all bytes
after-touched : (bytes : List ℕ) (first w end n : ℕ) (number : ℤ) → 8 * (first / 8) ≤ n
    → n < 8 * end → Placed n first (first + w)
    → bit_after (first % 8) w (number ∷ []) (take (end - first / 8) (drop (first / 8) bytes))
    (n - 8 * (first / 8)) ≡ bit_after first w (number ∷ []) bytes n
after-touched bytes first w end n number from below place =
    let q = first / 8 in
    let i = n - 8 * q in
    let touched = take (end - q) (drop q bytes) in
    let here : first ≡ 8 * q + first % 8 = omega arith in
    let at : 8 * q + i ≡ n = omega arith in
    let room : i < 8 * (end - q) = omega arith in
    let same : bit touched i ≡ bit bytes n = sym (bit-from bytes q (end - q) i room)
    ∙ ap (bit bytes) at in
    by q i touched here at same place where
      by : (q i : ℕ) (touched : List ℕ) → first ≡ 8 * q + first % 8 → 8 * q + i ≡ n
          → bit touched i ≡ bit bytes n → Placed n first (first + w)
          → bit_after (first % 8) w (number ∷ []) touched i ≡ bit_after first w (number ∷ []) bytes n
      by q i touched here at same (inl lt) =
          after-none (first % 8) w number touched i (inl (omega arith)) ∙ same
          ∙ sym (after-none first w number bytes n (inl lt))
      by q i touched here at same (inr (inl both)) =
          let back : i - first % 8 ≡ n - first = omega (arith, both.0) in
          after-one (first % 8) w number touched i (omega (arith, both.0)) (omega (arith, both.1))
          ∙ ap (number_bit number) back ∙ sym (after-one first w number bytes n both.0 both.1)
      by q i touched here at same (inr (inr ge)) =
          after-none (first % 8) w number touched i (inr (omega arith)) ∙ same
          ∙ sym (after-none first w number bytes n (inr ge))

-- a bit of bytes with others in place of those from q up to end
mid-bit : (bytes ys : List ℕ) (q end n g : ℕ) → length ys ≡ end - q → q ≤ end
    → end ≤ length bytes → ((n < 8 * q) → bit bytes n ≡ g)
    → (8 * q ≤ n → n < 8 * end → bit ys (n - 8 * q) ≡ g)
    → (8 * end ≤ n → bit bytes n ≡ g)
    → Placed n (8 * q) (8 * end) → bit (put_mid q (end - q) bytes ys) n ≡ g
mid-bit bytes ys q end n g size order short low mid high (inl lt) =
    let front : length (take q bytes) ≡ q = length-take-le q bytes (omega arith) in
    bit-left (take q bytes) (ys ++ drop (end - q) (drop q bytes)) n (omega arith)
    ∙ bit-taken bytes q n lt ∙ low lt
mid-bit bytes ys q end n g size order short low mid high (inr (inl both)) =
    let front : length (take q bytes) ≡ q = length-take-le q bytes (omega arith) in
    let from : 8 * q ≤ n = both.0 in
    let below : n < 8 * end = both.1 in
    bit-right (take q bytes) (ys ++ drop (end - q) (drop q bytes)) q n front from
    ∙ bit-left ys (drop (end - q) (drop q bytes)) (n - 8 * q) (omega arith) ∙ mid from below
mid-bit bytes ys q end n g size order short low mid high (inr (inr ge)) =
    let front : length (take q bytes) ≡ q = length-take-le q bytes (omega arith) in
    let m = end - q in
    let i = n - 8 * q in
    let behind : 8 * m ≤ i = omega arith in
    let from : 8 * q ≤ n = omega arith in
    bit-right (take q bytes) (ys ++ drop m (drop q bytes)) q n front from
    ∙ bit-right ys (drop m (drop q bytes)) m i size behind
    ∙ bit-dropped (drop q bytes) m i behind ∙ bit-dropped bytes q n from ∙ high ge

-- bytes with the written word in place are those of the definition
pub put-in-place : (bytes ys : List ℕ) (first width end N : ℕ) (number : ℤ)
    → first + width ≤ 8 * end → end ≤ length bytes → first / 8 ≤ end
    → length ys ≡ length (take (end - first / 8) (drop (first / 8) bytes))
    → ((k : ℕ) → k < length ys → slice_index ys k ≡ N / 2 ^ (8 * k) % 256)
    → ((i : ℕ) → i < 8 * length (take (end - first / 8) (drop (first / 8) bytes))
    → bit_at N i ≡ bit_after (first % 8) width (number ∷ [])
    (take (end - first / 8) (drop (first / 8) bytes)) i)
    → AreBytes (put_mid (first / 8) (end - first / 8) bytes ys)
    → put_mid (first / 8) (end - first / 8) bytes ys ≡ put first width (number ∷ []) bytes
put-in-place bytes ys first width end N number within short order same each word-bit are =
    let q = first / 8 in
    let f = bit_after first width (number ∷ []) bytes in
    let new = put_mid q (end - q) bytes ys in
    let touched : length (take (end - q) (drop q bytes)) ≡ end - q = mid_len q end bytes short in
    let size : length ys ≡ end - q = same ∙ touched in
    let lengths : length new ≡ length bytes = same_len_mid q (end - q) bytes ys same in
    let bits : (n : ℕ) → n < 8 * length new → f (0 + n) ≡ bit new n = λ n lt.
    let none : 0 + n ≡ n = omega arith in
    ap f none ∙ sym (mid-bit bytes ys q end n (f n) size order short
    (λ low. sym (after-none first width number bytes n (inl (omega arith))))
    (λ from below. written-bit ys N each (n - 8 * q) (omega arith)
    ∙ word-bit (n - 8 * q) (omega arith)
    ∙ after-touched bytes first width end n number from below (place-of n first (first + width)))
    (λ high. sym (after-none first width number bytes n (inr (omega arith))))
    (place-of n (8 * q) (8 * end))) in
    sym (ap (bytes_of f 0) (sym lengths)
    ∙ bytes-same f (after-bits first width (number ∷ []) bytes) new are 0 bits)

-- the bits of a number as 64 bits
pub of_z-bit : (z : ℤ) (j : ℕ) → FitsSigned w64 z → j < 64
    → bit_at (of_z w64 (to_z w64 (of_z w64 z))) j ≡ number_bit z j
of_z-bit z j fits lt = ap (λ y. bit_at (of_z w64 y) j) (to_z-of_z w64 z fits) ∙ plain z fits where
  plain : (y : ℤ) → FitsSigned w64 y → bit_at (of_z w64 y) j ≡ number_bit y j
  plain (pos n) f = refl
  plain (negsuc n) f =
      let small : n < 2 ^ 64 = omega (arith, f.sfits) in
      let e : 18446744073709551616 - suc n ≡ 18446744073709551615 - n = omega arith in
      ap (λ m. bit_at m j) e ∙ bit_at_not w64 n j small lt
