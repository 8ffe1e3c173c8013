-- What stays where numbers are put into bytes.
use Rattle.std.proofs.Common.{◌≡◌, ◌⊎◌, inl, inr, ℕ, zero, suc, ◌+◌, ◌-◌, ◌*◌, ◌/◌, ◌%◌, ◌^◌, ◌<◌, ◌≤◌}
use Rattle.std.proofs.Common.{Bool, true, false, cond, ◌||◌, ◌==◌, nat_le, nat_lt, List, [], ◌∷◌, length}
use Rattle.std.proofs.Common.{Option, Some, None, Result, Ok, Err, refl, sym, ap, ◌∙◌, arith, ℤ}
use Rattle.std.proofs.Math.Nat.{mul-le-mul_left, div-mul-le_self, zero-div}
use Rattle.std.proofs.lemmas.Bool.Decides.{nat_tests}
use Rattle.std.proofs.lemmas.List.{get_or_past}
use Rattle.hidreport_items.specs.Spelling.{AreBytes}
use Rattle.hidreport_lists.specs.Answer.{Refusal, OutOfBounds, MismatchingReportId}
use Rattle.hidreport_fields.specs.BitValue.{as_word, bit, value}
use Rattle.hidreport_fields.specs.Reading.{ValueRecord, before_values, each_value, element, element_width}
use Rattle.hidreport_fields.specs.Reading.{is_signed, one_value, read_bits, values_of, with_id}
use Rattle.hidreport_fields.specs.Records.{ArrayRecord, ConstantRecord, FieldRecord}
use Rattle.hidreport_fields.specs.Records.{VariableRecord, place_of}
use Rattle.hidreport_fields.specs.WritingValues.{begins_in_id, bit_after, number_of, put}
use Rattle.hidreport_fields.specs.WritingLaws.{Keeps}
use Rattle.hidreport_fields.proofs.FixedBitsLemmas.{word-same}
use Rattle.hidreport_fields.proofs.PutBitsLemmas.{after-bits, after-outside}
use Rattle.hidreport_fields.proofs.PutValuesLemmas.{length-put, put-bit}
use Rattle.hidreport_fields.proofs.WrittenBitsLemmas.{bit-head, byte-same}

-- behind the bytes all bits are 0
pub bit-past : (bytes : List ℕ) (n : ℕ) → 8 * length bytes ≤ n → bit bytes n ≡ 0
bit-past bytes n past =
    let none : 0 / 2 ^ (n % 8) % 2 ≡ 0 = ap (λ k. k % 2) (zero-div (2 ^ (n % 8))) in
    ap (λ b. b / 2 ^ (n % 8) % 2) (get_or_past bytes (n / 8) 0 (omega arith)) ∙ none

-- bits outside the numbers' place stay
pub put-keeps : (first w : ℕ) (numbers : List ℤ) (old : List ℕ)
    → Keeps first (w * length numbers) old (put first w numbers old)
put-keeps first w numbers old = record {
  size = length-put first w numbers old;
  bits = λ n out. by n out (nat_lt n (8 * length old)) refl;
} where
  by : (n : ℕ) → (n < first) ⊎ (first + w * length numbers ≤ n) → (t : Bool)
      → nat_lt n (8 * length old) ≡ t → bit (put first w numbers old) n ≡ bit old n
  by n out true e = put-bit first w numbers old n (grind (arith, nat_tests))
      ∙ after-outside first w numbers old n out
  by n out false e =
      let past : 8 * length old ≤ n = grind (arith, nat_tests) in
      let size : length (put first w numbers old) ≡ length old = length-put first w numbers old in
      bit-past (put first w numbers old) n (omega arith) ∙ sym (bit-past old n past)

-- the first byte stays where they lie behind it
first-byte : (first w : ℕ) (numbers : List ℤ) (b : ℕ) (bs : List ℕ) → 8 ≤ first → b < 256
    → number_of (bit_after first w numbers (b ∷ bs)) 0 8 ≡ b
first-byte first w numbers b bs behind byte =
    let f = bit_after first w numbers (b ∷ bs) in
    byte-same f (after-bits first w numbers (b ∷ bs)) 0 b byte (λ i lt.
    let e : 0 + i ≡ i = omega arith in
    ap f e ∙ after-outside first w numbers (b ∷ bs) i (inl (omega arith)) ∙ bit-head b bs i lt)

-- so an id is found or not as before
pub put-id : {A : Type 0} (id : Option ℕ) (first w : ℕ) (numbers : List ℤ) (old : List ℕ)
    (answer : Result A Refusal) → AreBytes old → (id ≡ None) ⊎ (8 ≤ first)
    → with_id id (put first w numbers old) answer ≡ with_id id old answer
put-id None first w numbers old answer are away = refl
put-id (Some id) first w numbers [] answer are away = refl
put-id (Some id) first w numbers (b ∷ bs) answer are (inl none) = cc
put-id (Some id) first w numbers (b ∷ bs) answer are (inr behind) =
    ap (λ k. cond (k == id) answer (Err MismatchingReportId))
    (first-byte first w numbers b bs behind (are 0 0 (omega arith)))

pub away-from-id : (id : Option ℕ) (first : ℕ) → begins_in_id id first ≡ false
    → (id ≡ None) ⊎ (8 ≤ first)
away-from-id None first t = inl refl
away-from-id (Some id) first t = inr (grind (arith, nat_tests))

-- a range elsewhere is read as before
pub read-kept : (p c first end : ℕ) (s : Bool) (old new : List ℕ) → Keeps p c old new
    → (end ≤ p) ⊎ (p + c ≤ first) → read_bits first end s new ≡ read_bits first end s old
read-kept p c first end s old new keeps out =
    let size = keeps.size in
    let same : value new first (end - first) s ≡ value old first (end - first) s =
    word-same new old first (end - first) s
    (λ i lt. keeps.bits (first + i) (elsewhere p c first end i lt out)) in
    ap (λ k. cond (nat_le end first || (nat_lt 32 (end - first) || nat_lt (8 * k) end)) (Err OutOfBounds)
    (Ok (record { word = as_word (value new first (end - first) s); is_signed = s }))) size
    ∙ ap (λ z. cond (nat_le end first || (nat_lt 32 (end - first) || nat_lt (8 * length old) end))
    (Err OutOfBounds) (Ok (record { word = as_word z; is_signed = s }))) same where
      elsewhere : (p c first end i : ℕ) → i < end - first → (end ≤ p) ⊎ (p + c ≤ first)
          → (first + i < p) ⊎ (p + c ≤ first + i)
      elsewhere p c first end i lt (inl le) = inl (omega arith)
      elsewhere p c first end i lt (inr le) = inr (omega arith)

-- elements of a range lie in it
pub element-within : (first end count i : ℕ) → first ≤ end → i < count
    → first + element_width first end count * i + element_width first end count ≤ end
element-within first end count i order lt =
    let w = element_width first end count in
    let all : w * count ≤ end - first = div-mul-le_self (end - first) count in
    let some : w * (i + 1) ≤ w * count = mul-le-mul_left w (omega arith) in
    let parts : w * (i + 1) ≡ w * i + w = omega arith in
    omega arith

each-same : (f g : ℕ → Result ValueRecord Refusal) (index more : ℕ)
    → ((k : ℕ) → k < index + more → f k ≡ g k) → each_value f index more ≡ each_value g index more
each-same f g index zero same = refl
each-same f g index (suc more) same =
    ap (λ a. before_values a (each_value f (index + 1) more)) (same index (omega arith))
    ∙ ap (before_values (g index)) (each-same f g (index + 1) more (λ k lt. same k (omega arith)))

-- a field elsewhere reads as before
pub values-kept : (p c : ℕ) (other : FieldRecord) (old new : List ℕ) → Keeps p c old new
    → (place_of other).first ≤ (place_of other).end
    → ((place_of other).end ≤ p) ⊎ (p + c ≤ (place_of other).first)
    → values_of other new ≡ values_of other old
values-kept p c (VariableRecord place usage shared) old new keeps order out =
    ap one_value (read-kept p c place.first place.«end» (is_signed shared) old new keeps out)
values-kept p c (ArrayRecord place usages is_range count shared) old new keeps order out =
    each-same (element place.first place.«end» count (is_signed shared) new)
    (element place.first place.«end» count (is_signed shared) old) 0 count
    (λ k lt. let within = element-within place.first place.«end» count k order (omega arith) in
    let w = element_width place.first place.«end» count in
    read-kept p c (place.first + w * k) (place.first + w * k + w) (is_signed shared) old new keeps
    (elsewhere p c place.first place.«end» w k within out)) where
      elsewhere : (p c first end w k : ℕ) → first + w * k + w ≤ end → (end ≤ p) ⊎ (p + c ≤ first)
          → (first + w * k + w ≤ p) ⊎ (p + c ≤ first + w * k)
      elsewhere p c first end w k within (inl le) = inl (omega arith)
      elsewhere p c first end w k within (inr le) = inr (omega arith)
values-kept p c (ConstantRecord place) old new keeps order out = refl
