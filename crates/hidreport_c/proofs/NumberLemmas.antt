-- The number of one of a field's values, where all of them are read.
use Rattle.std.proofs.Common.{◌≡◌, ℕ, ℤ, ◌+◌, ◌-◌, ◌*◌, ◌<◌, ◌≤◌, Bool, true, false, List, [], ◌∷◌, length}
use Rattle.std.proofs.Common.{int_lt, pos, nat_le, nat_lt, ◌||◌, Result, Ok, Err, IsOk, ◌⊎◌, inl, inr}
use Rattle.std.proofs.Common.{Some, refl, sym, ap, ◌∙◌, subst, slice_set, arith}
use Rattle.std.proofs.Math.Seq.{drop-nil}
use Rattle.std.specs.Prelude.{slice_get}
use Rattle.std.proofs.lemmas.Bool.Decides.{nat_tests}
use Rattle.hidreport.proofs.RunReadLemmas.{readable}
use Rattle.hidreport.specs.Answer.{Refusal, OutOfBounds}
use Rattle.hidreport.specs.Choosing.{value_number}
use Rattle.hidreport.specs.Reading.{ValueRecord, each_value, element, element_width, read_bits}
use Rattle.hidreport_fields.proofs.ElementLemmas.{elements-outside}
use Rattle.hidreport_fields.specs.BitValue.{value}
use Rattle.hidreport_c.proofs.ListsLemmas.{written-none}
use Rattle.hidreport_c.proofs.ValuesLemmas.{ok-is, refused-not-ok, refused-where}
use Rattle.hidreport_c.specs.Answer.{array_after}
use Rattle.hidreport_c.specs.Value.{IsNumberOf, element_at, elements_at}
use Rattle.hidreport_c.specs.declared.structs.HidreportField.{HidreportField}

-- a value has 1 to 32 bits, and they lie in the bytes
pub record HasBits (first width : ℕ) (bytes : List ℕ) : Type 0 where
  pub some : 0 < width
  pub narrow : width ≤ 32
  pub within : first + width ≤ 8 * length bytes

by-test : (p w : ℕ) (s : Bool) (bytes : List ℕ) (b : Bool)
    → (nat_le (p + w) p || (nat_lt 32 (p + w - p) || nat_lt (8 * length bytes) (p + w))) ≡ b
    → (read_bits p (p + w) s bytes ≡ Err OutOfBounds) ⊎ HasBits p w bytes
by-test p w s bytes true t = inl (refused-where _ _ t)
by-test p w s bytes false t = inr (record {
  some = grind (arith, nat_tests, t);
  narrow = grind (arith, nat_tests, t);
  within = grind (arith, nat_tests, t);
})

unless-refused : (first end count index : ℕ) (s : Bool) (bytes : List ℕ) → index < count
    → IsOk (each_value (element first end count s bytes) 0 count)
    → (element first end count s bytes index ≡ Err OutOfBounds)
    ⊎ HasBits (first + element_width first end count * index) (element_width first end count) bytes
    → HasBits (first + element_width first end count * index) (element_width first end count) bytes
unless-refused first end count index s bytes within ok (inl out) =
    let all = ok-is (each_value (element first end count s bytes) 0 count) ok in
    absurd (refused-not-ok (each_value (element first end count s bytes) 0 count) all.0
    (elements-outside first end count s bytes count index within out) all.1)
unless-refused first end count index s bytes within ok (inr has) = has

-- each value has its bits, where all are read
pub has-bits : (first end count index : ℕ) (s : Bool) (bytes : List ℕ) → index < count
    → IsOk (each_value (element first end count s bytes) 0 count)
    → HasBits (first + element_width first end count * index) (element_width first end count) bytes
has-bits first end count index s bytes within ok =
    unless-refused first end count index s bytes within ok
    (by-test (first + element_width first end count * index) (element_width first end count) s bytes
    _ refl)

-- and is read as the number in them
pub bits-number : (p w : ℕ) (s : Bool) (bytes : List ℕ) → HasBits p w bytes
    → IsNumberOf (read_bits p (p + w) s bytes) (value bytes p w s)
bits-number p w s bytes has =
    let read = readable p w s bytes has.some has.narrow has.within in
    subst (λ (r : Result ValueRecord Refusal). IsNumberOf r (value bytes p w s)) (sym read.is)
    (sym read.says)

-- so of a field of values of this width
pub field-bits : (f : HidreportField) (width index : ℕ) (bytes : List ℕ)
    → width ≡ element_width f.first_bit f.end_bit f.value_count → index < f.value_count
    → IsOk (elements_at f bytes) → HasBits (f.first_bit + width * index) width bytes
field-bits f width index bytes is within ok =
    subst (λ (w : ℕ). HasBits (f.first_bit + w * index) w bytes) (sym is)
    (has-bits f.first_bit f.end_bit f.value_count index (int_lt f.measures.logical_minimum (pos 0))
    bytes within ok)

pub field-number : (f : HidreportField) (width index : ℕ) (bytes : List ℕ)
    → width ≡ element_width f.first_bit f.end_bit f.value_count
    → HasBits (f.first_bit + width * index) width bytes
    → IsNumberOf (element_at f bytes index)
    (value bytes (f.first_bit + width * index) width (int_lt f.measures.logical_minimum (pos 0)))
field-number f width index bytes is has =
    let s = int_lt f.measures.logical_minimum (pos 0) in
    subst (λ (w : ℕ). IsNumberOf (read_bits (f.first_bit + w * index) (f.first_bit + w * index + w) s
    bytes) (value bytes (f.first_bit + width * index) width s)) is
    (bits-number (f.first_bit + width * index) width s bytes has)

-- a number is that of a value
pub number-of : (r : Result ValueRecord Refusal) (n : ℤ) → IsNumberOf r n
    → (v : ValueRecord) × (r ≡ Ok v) × (n ≡ value_number v)
number-of (Ok v) n is = (v, refl, is)
number-of (Err refusal) n is = absurd is

-- the only one is written in place of the first
pub written-only : (xs old : List ℤ) (x : ℤ) → length xs ≡ 1 → slice_get xs 0 ≡ Some x
    → slice_set old 0 x ≡ array_after xs old
written-only [] old x size at = cc
written-only (y ∷ []) [] x size at = sym (drop-nil 1)
written-only (y ∷ []) (o ∷ old) x size at =
    let same : y ≡ x = cc in
    ap (λ rest. x ∷ rest) (sym (written-none old)) ∙ ap (λ z. z ∷ array_after [] old) (sym same)
written-only (y ∷ z ∷ xs) old x size at = absurd (omega (arith, size))
