-- What holds of bytes that a field's values were written into.
use Rattle.std.proofs.Common.{◌≡◌, inl, inr, ℕ, ◌+◌, ◌-◌, ◌*◌, ◌<◌, ◌≤◌}
use Rattle.std.proofs.Common.{Bool, true, false, cond, ◌==◌, List, [], ◌∷◌}
use Rattle.std.proofs.Common.{length, get_or, Result, Ok, Err, IsOk, refl, sym, ap}
use Rattle.std.proofs.Common.{subst, ◌∙◌, arith, ℤ, pos}
use Rattle.std.specs.List.{list_all}
use Rattle.std.proofs.Math.Nat.{div-mul-le_self}
use Rattle.std.proofs.lemmas.Bool.Decides.{nat_tests}
use Rattle.hidreport_items.specs.Spelling.{AreBytes}
use Rattle.hidreport_lists.specs.Answer.{Refusal}
use Rattle.hidreport_fields.specs.BitValue.{bit}
use Rattle.hidreport_fields.specs.Bits.{covered_bits}
use Rattle.hidreport_fields.specs.Choosing.{value_number}
use Rattle.hidreport_fields.specs.Reading.{ValueRecord, each_value, element, element_width}
use Rattle.hidreport_fields.specs.Reading.{is_signed, one_value, read_bits, reads, values_of}
use Rattle.hidreport_fields.specs.Records.{ArrayRecord, ConstantRecord, FieldRecord, VariableRecord}
use Rattle.hidreport_fields.specs.Records.{own_id, place_of}
use Rattle.hidreport_fields.specs.WritingValues.{begins_in_id, bit_after, bytes_of, fits, has_sign}
use Rattle.hidreport_fields.specs.WritingValues.{placed, put, value_count, value_width, where_read, written}
use Rattle.hidreport_fields.specs.WritingLaws.{IsWritten, Keeps, numbers_of, reads_numbers}
use Rattle.hidreport_fields.specs.declared.field.insert_error.InsertError.{InsertError}
use Rattle.hidreport_fields.specs.declared.field.insert_error.InsertError.TheVariants as refused
use Rattle.hidreport_fields.proofs.ApartLemmas.{leaves-others}
use Rattle.hidreport_fields.proofs.KeptBitsLemmas.{away-from-id, put-id, put-keeps}
use Rattle.hidreport_fields.proofs.PutBitsLemmas.{Placed, after-inside, after-outside, place-of}
use Rattle.hidreport_fields.proofs.PutValuesLemmas.{bytes-agree, length-put}
use Rattle.hidreport_fields.proofs.ReadBackLemmas.{ReadsAs, bits-read, each-read, each-readable, fit-at}
use Rattle.hidreport_fields.proofs.ReadBackLemmas.{id-passes, put-element, readable}

-- numbers that were written, in parts
pub record Parts (field : FieldRecord) (numbers : List ℤ) (old new : List ℕ) : Type 0 where
  pub count : length numbers ≡ value_count field
  pub read : IsOk (reads field old)
  pub away : begins_in_id (own_id field) (place_of field).first ≡ false
  pub fit : list_all (fits (value_width field) (has_sign field)) numbers ≡ true
  pub is : put (place_of field).first (value_width field) numbers old ≡ new

-- what is placed where something is read, taken apart: each test passed
pub placed-parts : {A : Type 0} (b a : Bool) (r : Result A Refusal) (p new : List ℕ)
    → where_read r (cond b (Err refused.OutOfBounds) (cond a (Ok p) (Err refused.DoesNotFit))) ≡ Ok new
    → (IsOk r) × (b ≡ false) × (a ≡ true) × (p ≡ new)
placed-parts false true (Ok xs) p new h = (refl, refl, refl, cc)
placed-parts false false (Ok xs) p new h = cc
placed-parts true a (Ok xs) p new h = cc
placed-parts b a (Err e) p new h = cc

-- the same of an answer of writing, which asks for a count first
pub parts-by : {A : Type 0} (t b a : Bool) (r : Result A Refusal) (p new : List ℕ)
    → cond t (where_read r (cond b (Err refused.OutOfBounds) (cond a (Ok p) (Err refused.DoesNotFit))))
    (Err refused.WrongCount) ≡ Ok new
    → (t ≡ true) × (IsOk r) × (b ≡ false) × (a ≡ true) × (p ≡ new)
parts-by true b a r p new h =
    let q = placed-parts b a r p new h in (refl, q.0, q.1, q.2, q.3)
parts-by false b a r p new h = cc

pub written-parts : (field : FieldRecord) (numbers : List ℤ) (old new : List ℕ)
    → written field numbers old ≡ Ok new → Parts field numbers old new
written-parts field numbers old new h =
    let t = parts-by (length numbers == value_count field)
    (begins_in_id (own_id field) (place_of field).first)
    (list_all (fits (value_width field) (has_sign field)) numbers) (reads field old)
    (put (place_of field).first (value_width field) numbers old) new h in record {
      count = grind (arith, nat_tests, t.0);
      read = t.1;
      away = t.2;
      fit = t.3;
      is = t.4;
    }

-- what is known of bits that are read
pub room-of : (first end : ℕ) (s : Bool) (old : List ℕ) → IsOk (read_bits first end s old)
    → (first < end) × (end - first ≤ 32) × (end ≤ 8 * length old)
room-of first end s old ok =
    let t = readable _ _ ok in (
      grind (arith, nat_tests, t),
      grind (arith, nat_tests, t),
      grind (arith, nat_tests, t),
    )

one-ok : (r : Result ValueRecord Refusal) → IsOk (one_value r) → IsOk r
one-ok (Ok x) ok = refl
one-ok (Err e) ok = ok

one-number : (r : Result ValueRecord Refusal) (x : ValueRecord) (z : ℤ) → r ≡ Ok x
    → value_number x ≡ z → numbers_of (one_value r) ≡ Ok (z ∷ [])
one-number (Ok y) x z p q =
    let same : y ≡ x = cc in ap (λ n. Ok (n ∷ [])) (ap value_number same ∙ q)
one-number (Err e) x z p q = cc

-- an element that a number was put into is read as this number
pub element-read : (first w : ℕ) (s : Bool) (numbers : List ℤ) (old : List ℕ) (k : ℕ)
    → k < length numbers → IsOk (read_bits (first + w * k) (first + w * k + w) s old)
    → list_all (fits w s) numbers ≡ true
    → ReadsAs (read_bits (first + w * k) (first + w * k + w) s (put first w numbers old))
    (get_or numbers k (pos 0))
element-read first w s numbers old k lt ok all =
    let p = first + w * k in
    let width : p + w - p ≡ w = omega arith in
    let room = room-of p (p + w) s old ok in
    let ends = room.2 in
    bits-read p (p + w) s old (put first w numbers old) (get_or numbers k (pos 0))
    (length-put first w numbers old) ok
    (ap (λ n. fits n s (get_or numbers k (pos 0))) width ∙ fit-at w s numbers k all lt)
    (λ i below. put-element first w numbers old k i lt (omega arith) (omega (arith, ends)))

-- the same of a whole range
range-read : (first end : ℕ) (s : Bool) (z : ℤ) (old : List ℕ) → IsOk (read_bits first end s old)
    → list_all (fits (end - first) s) (z ∷ []) ≡ true
    → ReadsAs (read_bits first end s (put first (end - first) (z ∷ []) old)) z
range-read first end s z old ok all =
    let w = end - first in
    let room = room-of first end s old ok in
    let order = room.0 in
    let ends = room.2 in
    bits-read first end s old (put first w (z ∷ []) old) z (length-put first w (z ∷ []) old) ok
    (fit-at w s (z ∷ []) 0 all (omega arith))
    (λ i below. let here : first + i ≡ first + w * 0 + i = omega arith in
    ap (bit (put first w (z ∷ []) old)) here
    ∙ put-element first w (z ∷ []) old 0 i (omega arith) below (omega (arith, ends, order)))

-- what was written is read
values-back : (field : FieldRecord) (numbers : List ℤ) (old : List ℕ)
    → length numbers ≡ value_count field → IsOk (values_of field old)
    → list_all (fits (value_width field) (has_sign field)) numbers ≡ true
    → numbers_of (values_of field (put (place_of field).first (value_width field) numbers old))
    ≡ Ok numbers
values-back (VariableRecord place usage shared) [] old count ok fit = absurd (omega arith)
values-back (VariableRecord place usage shared) (z ∷ []) old count ok fit =
    let s = is_signed shared in
    let r = range-read place.first place.«end» s z old
    (one-ok (read_bits place.first place.«end» s old) ok) fit in
    one-number (read_bits place.first place.«end» s (put place.first (place.«end» - place.first)
    (z ∷ []) old)) r.value z r.is r.says
values-back (VariableRecord place usage shared) (z ∷ y ∷ numbers) old count ok fit =
    absurd (omega arith)
values-back (ArrayRecord place usages is_range n shared) numbers old count ok fit =
    let s = is_signed shared in
    let w = element_width place.first place.«end» n in
    let new = put place.first w numbers old in
    let f = element place.first place.«end» n s new in
    ap (λ k. numbers_of (each_value f 0 k)) (sym count)
    ∙ each-read f numbers 0 (λ i lt.
    let none : 0 + i ≡ i = omega arith in
    let old_ok : IsOk (element place.first place.«end» n s old i) =
    subst (λ k. IsOk (element place.first place.«end» n s old k)) none
    (each-readable (element place.first place.«end» n s old) 0 n i ok (omega (arith, count))) in
    subst (λ k. ReadsAs (f k) (get_or numbers i (pos 0))) (sym none)
    (element-read place.first w s numbers old i lt old_ok fit))
values-back (ConstantRecord place) [] old count ok fit = refl
values-back (ConstantRecord place) (z ∷ numbers) old count ok fit = absurd (omega arith)

pub reads-back : (field : FieldRecord) (numbers : List ℤ) (old : List ℕ) → AreBytes old
    → Parts field numbers old (put (place_of field).first (value_width field) numbers old)
    → reads_numbers field (put (place_of field).first (value_width field) numbers old) ≡ Ok numbers
reads-back field numbers old are parts =
    let first = (place_of field).first in
    let w = value_width field in
    let new = put first w numbers old in
    let id = own_id field in
    let passed = id-passes id old (values_of field old) (values_of field old) parts.read in
    let ok : IsOk (values_of field old) = subst (λ r. IsOk r) passed parts.read in
    ap numbers_of (put-id id first w numbers old (values_of field new) are
    (away-from-id id first parts.away)
    ∙ id-passes id old (values_of field old) (values_of field new) parts.read)
    ∙ values-back field numbers old parts.count ok parts.fit

-- as many other numbers put over them
pub put-over : (first w : ℕ) (numbers others : List ℤ) (old : List ℕ) → length others ≡ length numbers
    → put first w others (put first w numbers old) ≡ put first w others old
put-over first w numbers others old same =
    let new = put first w numbers old in
    let keeps = put-keeps first w numbers old in
    ap (bytes_of (bit_after first w others new) 0) (length-put first w numbers old)
    ∙ bytes-agree (bit_after first w others new) (bit_after first w others old) 0 (length old)
    (λ n lt. over first w numbers others old keeps (0 + n) same
    (place-of (0 + n) first (first + w * length others))) where
      over : (first w : ℕ) (numbers others : List ℤ) (old : List ℕ)
          → Keeps first (w * length numbers) old (put first w numbers old) → (n : ℕ)
          → length others ≡ length numbers → Placed n first (first + w * length others)
          → bit_after first w others (put first w numbers old) n ≡ bit_after first w others old n
      over first w numbers others old keeps n same (inl lt) =
          after-outside first w others (put first w numbers old) n (inl lt)
          ∙ keeps.bits n (inl lt) ∙ sym (after-outside first w others old n (inl lt))
      over first w numbers others old keeps n same (inr (inl both)) =
          after-inside first w others (put first w numbers old) n both.0 both.1
          ∙ sym (after-inside first w others old n both.0 both.1)
      over first w numbers others old keeps n same (inr (inr ge)) =
          after-outside first w others (put first w numbers old) n (inr ge)
          ∙ keeps.bits n (inr (subst (λ k. first + w * k ≤ n) same ge))
          ∙ sym (after-outside first w others old n (inr ge))

-- where both are read, a test of them is no matter
read-same : (r q : Result (List ValueRecord) Refusal) (x y : Result (List ℕ) InsertError) → IsOk r
    → IsOk q → x ≡ y → where_read r x ≡ where_read q y
read-same (Ok a) (Ok b) x y p q e = e
read-same (Err a) r x y p q e = cc
read-same (Ok a) (Err b) x y p q e = cc

is_ok-numbers : (r : Result (List ValueRecord) Refusal) (numbers : List ℤ)
    → numbers_of r ≡ Ok numbers → IsOk r
is_ok-numbers (Ok xs) numbers h = refl
is_ok-numbers (Err e) numbers h = cc

-- of two writes the second counts
last-counts : (field : FieldRecord) (numbers others : List ℤ) (old : List ℕ) → AreBytes old
    → Parts field numbers old (put (place_of field).first (value_width field) numbers old)
    → written field others (put (place_of field).first (value_width field) numbers old)
    ≡ written field others old
last-counts field numbers others old are parts =
    by (length others == value_count field) refl where
      first : ℕ
      first = (place_of field).first

      w : ℕ
      w = value_width field

      by : (t : Bool) → (length others == value_count field) ≡ t
          → written field others (put (place_of field).first (value_width field) numbers old)
          ≡ written field others old
      by true e =
          let p = (place_of field).first in
          let v = value_width field in
          let count = parts.count in
          let same : length others ≡ length numbers = grind (arith, nat_tests, e, count) in
          let over = put-over p v numbers others old same in
          let new = put p v numbers old in
          let now = is_ok-numbers (reads field new) numbers (reads-back field numbers old are parts) in
          let inner : placed field p others new ≡ placed field p others old =
          ap (λ l. cond (begins_in_id (own_id field) p) (Err refused.OutOfBounds)
          (cond (list_all (fits v (has_sign field)) others) (Ok l) (Err refused.DoesNotFit))) over in
          ap (λ r. cond (length others == value_count field) r (Err refused.WrongCount))
          (read-same (reads field new) (reads field old) (placed field p others new)
          (placed field p others old) now parts.read inner)
      by false e =
          ap (λ t. cond t (where_read (reads field (put (place_of field).first (value_width field)
          numbers old)) (placed field (place_of field).first others
          (put (place_of field).first (value_width field) numbers old))) (Err refused.WrongCount)) e
          ∙ sym (ap (λ t. cond t (where_read (reads field old)
          (placed field (place_of field).first others old)) (Err refused.WrongCount)) e)

-- the bits that are written are those of the elements
pub covered : (field : FieldRecord) (numbers : List ℤ) → length numbers ≡ value_count field
    → value_width field * length numbers ≡ covered_bits field
covered (VariableRecord place usage shared) numbers count =
    let one : (place.«end» - place.first) * 1 ≡ place.«end» - place.first = omega arith in
    ap (λ k. (place.«end» - place.first) * k) count ∙ one
covered (ArrayRecord place usages is_range n shared) numbers count =
    ap (λ k. element_width place.first place.«end» n * k) count
covered (ConstantRecord place) numbers count = omega arith

within : (field : FieldRecord) → (place_of field).first ≤ (place_of field).end
    → (place_of field).first + covered_bits field ≤ (place_of field).end
within (VariableRecord place usage shared) order = omega arith
within (ArrayRecord place usages is_range n shared) order =
    let all : element_width place.first place.«end» n * n ≤ place.«end» - place.first =
    div-mul-le_self (place.«end» - place.first) n in
    omega arith
within (ConstantRecord place) order = omega arith

is-put : (field : FieldRecord) (numbers : List ℤ) (old : List ℕ) → AreBytes old
    → Parts field numbers old (put (place_of field).first (value_width field) numbers old)
    → IsWritten field numbers old (put (place_of field).first (value_width field) numbers old)
is-put field numbers old are parts =
    let first = (place_of field).first in
    let w = value_width field in
    let all = covered field numbers parts.count in record {
      read = reads-back field numbers old are parts;
      kept = subst (λ k. Keeps first k old (put first w numbers old)) all
          (put-keeps first w numbers old);
      apart = leaves-others field first w numbers old are (omega arith)
          (λ order. subst (λ k. first + k ≤ (place_of field).end) (sym all) (within field order));
      last = λ others. last-counts field numbers others old are parts;
    }

pub is-written : (field : FieldRecord) (numbers : List ℤ) (old new : List ℕ) → AreBytes old
    → written field numbers old ≡ Ok new → IsWritten field numbers old new
is-written field numbers old new are h =
    let parts = written-parts field numbers old new h in
    subst (λ l. IsWritten field numbers old l) parts.is
    (is-put field numbers old are (subst (λ l. Parts field numbers old l) (sym parts.is) parts))
