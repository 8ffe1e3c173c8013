-- What holds of bytes that one element's value was written into.
use Rattle.std.proofs.Common.{◌≡◌, ◌≢◌, ◌⊎◌, inl, inr, ℕ, ◌+◌, ◌-◌, ◌*◌, ◌<◌, ◌≤◌, Bool, true}
use Rattle.std.proofs.Common.{false, cond, nat_lt, List, [], ◌∷◌, Option}
use Rattle.std.proofs.Common.{Result, Ok, Err, IsOk, refl, sym, ap, subst, ◌∙◌, arith, ℤ}
use Rattle.std.specs.List.{list_all}
use Rattle.std.proofs.Math.Nat.{mul-le-mul_left}
use Rattle.std.proofs.lemmas.Bool.Decides.{nat_tests}
use Rattle.std.proofs.lemmas.Grind.{common_steps}
use Rattle.hidreport_items.specs.Spelling.{AreBytes}
use Rattle.hidreport_lists.specs.Answer.{Refusal, OutOfBounds}
use Rattle.hidreport_fields.specs.BitValue.{bit}
use Rattle.hidreport_fields.specs.Choosing.{value_number}
use Rattle.hidreport_fields.specs.Reading.{ValueRecord, element_width, is_signed}
use Rattle.hidreport_fields.specs.Reading.{read_bits, reads_element, with_id}
use Rattle.hidreport_fields.specs.Records.{ArrayRecord, Attributes, FieldPlace}
use Rattle.hidreport_fields.specs.WritingValues.{begins_in_id, fits, placed, put, where_read}
use Rattle.hidreport_fields.specs.WritingValues.{written_element}
use Rattle.hidreport_fields.specs.WritingLaws.{IsElementWritten, Keeps, number_in}
use Rattle.hidreport_fields.specs.declared.field.insert_error.InsertError.{InsertError}
use Rattle.hidreport_fields.specs.declared.field.insert_error.InsertError.TheVariants as refused
use Rattle.hidreport_fields.specs.declared.field.usage.Usage.{Usage}
use Rattle.hidreport_fields.proofs.ApartLemmas.{leaves-others}
use Rattle.hidreport_fields.proofs.IsWrittenLemmas.{placed-parts, put-over}
use Rattle.hidreport_fields.proofs.KeptBitsLemmas.{away-from-id, element-within, put-id, put-keeps, read-kept}
use Rattle.hidreport_fields.proofs.ReadBackLemmas.{ReadsAs, bits-read, fit-at, id-passes, put-element}
use Rattle.hidreport_fields.proofs.IsWrittenLemmas.{room-of}
use Rattle.hidreport_fields.proofs.PutValuesLemmas.{length-put}

-- a number that was written to an element, in parts
record ElementParts (count index : ℕ) (id : Option ℕ) (p w : ℕ) (s : Bool) (number : ℤ)
    (old new : List ℕ) : Type 0 where
  within : index < count
  read : IsOk (with_id id old (read_bits p (p + w) s old))
  away : begins_in_id id p ≡ false
  fit : list_all (fits w s) (number ∷ []) ≡ true
  is : put p w (number ∷ []) old ≡ new

pub parts-by : (t b a : Bool) (r : Result ValueRecord Refusal) (p new : List ℕ)
    → where_read (cond t r (Err OutOfBounds)) (cond b (Err refused.OutOfBounds)
    (cond a (Ok p) (Err refused.DoesNotFit))) ≡ Ok new
    → (t ≡ true) × (IsOk r) × (b ≡ false) × (a ≡ true) × (p ≡ new)
parts-by true b a r p new h =
    let q = placed-parts b a r p new h in (refl, q.0, q.1, q.2, q.3)
parts-by false b a r p new h = cc

-- elements of two numbers don't share a bit
elements-apart : (first w i j : ℕ) → i ≢ j
    → (first + w * j + w ≤ first + w * i) ⊎ (first + w * i + w ≤ first + w * j)
elements-apart first w i j differ = by (nat_lt i j) refl where
  next : (a b : ℕ) → a < b → first + w * a + w ≤ first + w * b
  next a b lt =
      let le : w * (a + 1) ≤ w * b = mul-le-mul_left w (omega arith) in
      let parts : w * (a + 1) ≡ w * a + w = omega arith in
      omega arith

  by : (t : Bool) → nat_lt i j ≡ t
      → (first + w * j + w ≤ first + w * i) ⊎ (first + w * i + w ≤ first + w * j)
  by true e = inr (next i j (grind (arith, nat_tests)))
  by false e =
      let le : j ≤ i = grind (arith, nat_tests, common_steps) in
      inl (next j i (omega (arith, differ)))

-- the number is read
number-back : (id : Option ℕ) (p w : ℕ) (s : Bool) (number : ℤ) (old : List ℕ) → AreBytes old
    → IsOk (with_id id old (read_bits p (p + w) s old)) → begins_in_id id p ≡ false
    → list_all (fits w s) (number ∷ []) ≡ true
    → ReadsAs (with_id id (put p w (number ∷ []) old)
    (read_bits p (p + w) s (put p w (number ∷ []) old))) number
number-back id p w s number old are read off fit =
    let new = put p w (number ∷ []) old in
    let passed = id-passes id old (read_bits p (p + w) s old) (read_bits p (p + w) s old) read in
    let ok : IsOk (read_bits p (p + w) s old) = subst (λ r. IsOk r) passed read in
    let room = room-of p (p + w) s old ok in
    let ends = room.2 in
    let width : p + w - p ≡ w = omega arith in
    let r = bits-read p (p + w) s old new number (length-put p w (number ∷ []) old) ok
    (ap (λ n. fits n s number) width ∙ fit-at w s (number ∷ []) 0 fit (omega arith))
    (λ i lt. let here : p + i ≡ p + w * 0 + i = omega arith in
    ap (λ n. bit new n) here
    ∙ put-element p w (number ∷ []) old 0 i (omega arith) (omega arith) (omega (arith, ends))) in
    let all = put-id id p w (number ∷ []) old (read_bits p (p + w) s new) are
    (away-from-id id p off)
    ∙ id-passes id old (read_bits p (p + w) s old) (read_bits p (p + w) s new) read in
    subst (λ a. ReadsAs a number) (sym all) r

number-of-read : (r : Result ValueRecord Refusal) (z : ℤ) → ReadsAs r z → number_in r ≡ Ok z
number-of-read (Ok x) z h =
    let e = h.is in
    let same : x ≡ h.value = cc in ap (λ (v : ValueRecord). Ok (value_number v)) same
    ∙ ap (λ n. Ok n) h.says
number-of-read (Err e) z h = let a = h.is in cc

read-same : (r q : Result ValueRecord Refusal) (x y : Result (List ℕ) InsertError) → IsOk r
    → IsOk q → x ≡ y → where_read r x ≡ where_read q y
read-same (Ok a) (Ok b) x y p q e = e
read-same (Err a) r x y p q e = cc
read-same (Ok a) (Err b) x y p q e = cc

is_ok-read : (r : Result ValueRecord Refusal) (z : ℤ) → ReadsAs r z → IsOk r
is_ok-read (Ok x) z h = refl
is_ok-read (Err e) z h = let a = h.is in cc

-- another element reads what it read
other-element : (place : FieldPlace) (usages : List Usage) (is_range : Bool) (count : ℕ)
    (shared : Attributes) (index j : ℕ) (number : ℤ) (old : List ℕ) → AreBytes old → j ≢ index
    → begins_in_id place.report_id
    (place.first + element_width place.first place.end count * index) ≡ false
    → reads_element (ArrayRecord place usages is_range count shared)
    (put (place.first + element_width place.first place.end count * index)
    (element_width place.first place.end count) (number ∷ []) old) j
    ≡ reads_element (ArrayRecord place usages is_range count shared) old j
other-element place usages is_range count shared index j number old are differ off =
    let first = place.first in
    let w = element_width first place.«end» count in
    let p = first + w * index in
    let s = is_signed shared in
    let new = put p w (number ∷ []) old in
    let one : w * 1 ≡ w = omega arith in
    let keeps : Keeps p w old new = subst (λ k. Keeps p k old new) one
    (put-keeps p w (number ∷ []) old) in
    let out = elements-apart first w index j (λ e. differ (sym e)) in
    let same = read-kept p w (first + w * j) (first + w * j + w) s old new keeps out in
    ap (λ r. cond (nat_lt j count) r (Err OutOfBounds))
    (put-id place.report_id p w (number ∷ []) old (read_bits (first + w * j) (first + w * j + w) s new)
    are (away-from-id place.report_id p off) ∙ ap (with_id place.report_id old) same)

pub is-element-written : (place : FieldPlace) (usages : List Usage) (is_range : Bool) (count : ℕ)
    (shared : Attributes) (index : ℕ) (number : ℤ) (old new : List ℕ) → AreBytes old
    → written_element (ArrayRecord place usages is_range count shared) index number old ≡ Ok new
    → IsElementWritten (ArrayRecord place usages is_range count shared) index number old new
is-element-written place usages is_range count shared index number old new are h =
    let first = place.first in
    let id = place.report_id in
    let w = element_width first place.«end» count in
    let p = first + w * index in
    let s = is_signed shared in
    let field = ArrayRecord place usages is_range count shared in
    let t = parts-by (nat_lt index count) (begins_in_id id p) (list_all (fits w s) (number ∷ []))
    (with_id id old (read_bits p (p + w) s old)) (put p w (number ∷ []) old) new h in
    let new' = put p w (number ∷ []) old in
    let within : index < count = grind (arith, nat_tests, t.0) in
    let one : w * 1 ≡ w = omega arith in
    let back = number-back id p w s number old are t.1 t.2 t.3 in
    let counted : nat_lt index count ≡ true = t.0 in
    let reads_new : reads_element field new' index ≡ with_id id new' (read_bits p (p + w) s new') =
    ap (λ b. cond b (with_id id new' (read_bits p (p + w) s new')) (Err OutOfBounds)) counted in
    let reads_old : reads_element field old index ≡ with_id id old (read_bits p (p + w) s old) =
    ap (λ b. cond b (with_id id old (read_bits p (p + w) s old)) (Err OutOfBounds)) counted in
    subst (λ l. IsElementWritten field index number old l) t.4 (record {
      read = ap number_in reads_new
          ∙ number-of-read (with_id id new' (read_bits p (p + w) s new')) number back;
      kept = subst (λ k. Keeps p k old new') one (put-keeps p w (number ∷ []) old);
      elements = λ j differ. other-element place usages is_range count shared index j number old are
          differ t.2;
      apart = leaves-others field p w (number ∷ []) old are (omega arith)
          (λ order. subst (λ k. p + k ≤ place.«end») (sym one)
          (element-within first place.«end» count index order within));
      last = λ other.
          let inner : placed field p (other ∷ []) new' ≡ placed field p (other ∷ []) old =
          ap (λ l. cond (begins_in_id id p) (Err refused.OutOfBounds)
          (cond (list_all (fits w s) (other ∷ [])) (Ok l) (Err refused.DoesNotFit)))
          (put-over p w (number ∷ []) (other ∷ []) old refl) in
          ap (λ r. where_read r (placed field p (other ∷ []) new')) reads_new
          ∙ read-same (with_id id new' (read_bits p (p + w) s new'))
          (with_id id old (read_bits p (p + w) s old)) (placed field p (other ∷ []) new')
          (placed field p (other ∷ []) old) (is_ok-read _ number back) t.1 inner
          ∙ sym (ap (λ r. where_read r (placed field p (other ∷ []) old)) reads_old);
    })
