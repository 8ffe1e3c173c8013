-- A report whose fields have all been written.
use Rattle.std.proofs.Common.{◌≡◌, ◌⊎◌, inl, inr, ℕ, zero, suc, ◌+◌, ◌*◌, ◌<◌, ◌≤◌, List, [], ◌∷◌}
use Rattle.std.proofs.Common.{length, Some, Result, Ok, Err, refl, sym, ap, subst, ◌∙◌, arith}
use Rattle.std.proofs.Common.{ℤ, Bool, true, false, nat_lt}
use Rattle.std.specs.Prelude.{All}
use Rattle.std.proofs.lemmas.Bool.Decides.{nat_tests}
use Rattle.std.specs.Prelude.{slice_get}
use Rattle.std.proofs.lemmas.List.Elements.{All-cons}
use Rattle.hidreport_items.specs.Spelling.{AreBytes}
use Rattle.hidreport_fields.specs.BitValue.{bit}
use Rattle.hidreport_fields.specs.Bits.{covered_bits}
use Rattle.hidreport_fields.specs.Reading.{reads}
use Rattle.hidreport_fields.specs.Records.{FieldRecord, ReportRecord, place_of}
use Rattle.hidreport_fields.specs.Tiling.{IsFilled}
use Rattle.hidreport_fields.specs.WritingValues.{bit_after, bytes_of, put, value_width, written}
use Rattle.hidreport_fields.specs.WritingLaws.{AllRead, IsWhole, Keeps, SamePadding, numbers_of}
use Rattle.hidreport_fields.specs.WritingLaws.{then_written, written_all}
use Rattle.hidreport_fields.specs.declared.field.insert_error.InsertError.{InsertError}
use Rattle.hidreport_fields.proofs.BitLemmas.{bit-small}
use Rattle.hidreport_fields.proofs.KeptBitsLemmas.{bit-past}
use Rattle.hidreport_fields.proofs.IsWrittenLemmas.{covered, is-written, written-parts}
use Rattle.hidreport_fields.proofs.PutBitsLemmas.{Placed, after-bits, after-inside, place-of}
use Rattle.hidreport_fields.proofs.PutValuesLemmas.{put-bit}
use Rattle.hidreport_fields.proofs.WrittenBitsLemmas.{AreBits, bytes-same, number-small}

-- bytes made of bits are bytes
bytes_of-are : (f : ℕ → ℕ) → AreBits f → (s m : ℕ) → AreBytes (bytes_of f s m)
bytes_of-are f small s zero = λ k d lt. absurd (omega (arith, lt))
bytes_of-are f small s (suc m) =
    All-cons (λ b. b < 256) _ _ (number-small f small s 8) (bytes_of-are f small (s + 8) m)

pub put-are : (first w : ℕ) (numbers : List ℤ) (old : List ℕ) → AreBytes (put first w numbers old)
put-are first w numbers old =
    bytes_of-are (bit_after first w numbers old) (after-bits first w numbers old) 0 (length old)

pub written-are : (field : FieldRecord) (numbers : List ℤ) (old new : List ℕ)
    → written field numbers old ≡ Ok new → AreBytes new
written-are field numbers old new h =
    subst (λ l. AreBytes l) (written-parts field numbers old new h).is
    (put-are (place_of field).first (value_width field) numbers old)

-- a field that is written, and those behind it
record Steps (field : FieldRecord) (numbers : List ℤ) (bytes : List ℕ)
    (next : List ℕ → Result (List ℕ) InsertError) (new : List ℕ) : Type 0 where
  mid : List ℕ
  first : written field numbers bytes ≡ Ok mid
  rest : next mid ≡ Ok new

steps : (field : FieldRecord) (numbers : List ℤ) (bytes : List ℕ)
    (next : List ℕ → Result (List ℕ) InsertError) (new : List ℕ)
    (answer : Result (List ℕ) InsertError) → written field numbers bytes ≡ answer
    → then_written answer next ≡ Ok new → Steps field numbers bytes next new
steps field numbers bytes next new (Ok mid) e h = record { mid = mid; first = e; rest = h }
steps field numbers bytes next new (Err f) e h = cc

-- what fields read, and that those before them read what they read
record Whole (report : ReportRecord) (k : ℕ) (fields : List FieldRecord) (numbers : List (List ℤ))
    (bytes new : List ℕ) : Type 0 where
  read : AllRead fields numbers new
  before : (j : ℕ) (g : FieldRecord) → j < k → slice_get report.fields j ≡ Some g
      → reads g new ≡ reads g bytes

whole : (report : ReportRecord) → IsFilled report → (k : ℕ) (fields : List FieldRecord)
    (numbers : List (List ℤ)) (bytes new : List ℕ) → AreBytes bytes
    → ((i : ℕ) → slice_get fields i ≡ slice_get report.fields (k + i))
    → written_all fields numbers bytes ≡ Ok new → Whole report k fields numbers bytes new
whole report filled k [] [] bytes new are at h =
    let same : bytes ≡ new = cc in record {
      read = tt;
      before = λ j g lt e. ap (reads g) (sym same);
    }
whole report filled k [] (v ∷ numbers) bytes new are at h = cc
whole report filled k (f ∷ fields) [] bytes new are at h = cc
whole report filled k (f ∷ fields) (v ∷ numbers) bytes new are at h =
    let s = steps f v bytes (written_all fields numbers) new (written f v bytes) refl h in
    let one = is-written f v bytes s.mid are s.first in
    let none : k + 0 ≡ k = omega arith in
    let here : slice_get report.fields k ≡ Some f =
    sym (at 0 ∙ ap (slice_get report.fields) none) in
    let more = whole report filled (k + 1) fields numbers s.mid new
    (written-are f v bytes s.mid s.first)
    (λ i. let e : k + suc i ≡ k + 1 + i = omega arith in
    at (suc i) ∙ ap (slice_get report.fields) e) s.rest in record {
      read = (
        ap numbers_of (more.before k f (omega arith) here) ∙ one.read,
        more.read,
      );
      before = λ j g lt e. more.before j g (omega arith) e
          ∙ one.apart report k j g filled here e (λ same. absurd (omega arith));
    }

-- bits within numbers that were written to both
written-bit : (field : FieldRecord) (numbers : List ℤ) (old new : List ℕ) (n : ℕ)
    → written field numbers old ≡ Ok new → (place_of field).first ≤ n
    → n < (place_of field).first + covered_bits field → n < 8 * length old
    → bit new n ≡ bit_after (place_of field).first (value_width field) numbers [] n
written-bit field numbers old new n h from below lt =
    let parts = written-parts field numbers old new h in
    let first = (place_of field).first in
    let w = value_width field in
    let room : n < first + w * length numbers =
    subst (λ k. n < first + k) (sym (covered field numbers parts.count)) below in
    ap (λ l. bit l n) (sym parts.is) ∙ put-bit first w numbers old n lt
    ∙ after-inside first w numbers old n from room
    ∙ sym (after-inside first w numbers [] n from room)

-- all bits of bytes that the same was written over
over-both : (fields : List FieldRecord) (numbers : List (List ℤ)) (a b x y : List ℕ) → AreBytes a
    → AreBytes b → length b ≡ length a → SamePadding fields a b
    → written_all fields numbers a ≡ Ok x → written_all fields numbers b ≡ Ok y → x ≡ y
over-both [] [] a b x y are also size same h g =
    let p : a ≡ x = cc in
    let q : b ≡ y = cc in
    sym p ∙ equal a b are also size (λ n. same n (λ k d lt. absurd (omega (arith, lt)))) ∙ q where
      equal : (a b : List ℕ) → AreBytes a → AreBytes b → length b ≡ length a
          → ((n : ℕ) → bit a n ≡ bit b n) → a ≡ b
      equal a b are also size each =
          sym (bytes-same (bit b) (bit-small b) a are 0 (λ i lt.
          let e : 0 + i ≡ i = omega arith in ap (bit b) e ∙ sym (each i)))
          ∙ ap (bytes_of (bit b) 0) (sym size)
          ∙ bytes-same (bit b) (bit-small b) b also 0 (λ i lt.
          let e : 0 + i ≡ i = omega arith in ap (bit b) e)
over-both [] (v ∷ numbers) a b x y are also size same h g = cc
over-both (f ∷ fields) [] a b x y are also size same h g = cc
over-both (f ∷ fields) (v ∷ numbers) a b x y are also size same h g =
    let s = steps f v a (written_all fields numbers) x (written f v a) refl h in
    let t = steps f v b (written_all fields numbers) y (written f v b) refl g in
    let one = is-written f v a s.mid are s.first in
    let two = is-written f v b t.mid also t.first in
    let one_size = one.kept.size in
    let two_size = two.kept.size in
    over-both fields numbers s.mid t.mid x y (written-are f v a s.mid s.first)
    (written-are f v b t.mid t.first) (omega (arith, one_size, two_size, size))
    (λ n outside. by n outside (place-of n (place_of f).first ((place_of f).first + covered_bits f))
    s.mid t.mid s.first t.first one.kept two.kept) s.rest t.rest where
      by : (n : ℕ)
          → All (λ e. (n < (place_of e).first) ⊎ ((place_of e).first + covered_bits e ≤ n)) fields
          → Placed n (place_of f).first ((place_of f).first + covered_bits f) → (c d : List ℕ)
          → written f v a ≡ Ok c → written f v b ≡ Ok d
          → Keeps (place_of f).first (covered_bits f) a c
          → Keeps (place_of f).first (covered_bits f) b d → bit c n ≡ bit d n
      by n outside (inl lt) c d p q kc kd = kc.bits n (inl lt)
          ∙ same n (All-cons (λ e. (n < (place_of e).first) ⊎ ((place_of e).first + covered_bits e ≤ n))
          f fields (inl lt) outside) ∙ sym (kd.bits n (inl lt))
      by n outside (inr (inr ge)) c d p q kc kd = kc.bits n (inr ge)
          ∙ same n (All-cons (λ e. (n < (place_of e).first) ⊎ ((place_of e).first + covered_bits e ≤ n))
          f fields (inr ge) outside) ∙ sym (kd.bits n (inr ge))
      by n outside (inr (inl both)) c d p q kc kd = inside (nat_lt n (8 * length a)) refl where
        inside : (t : Bool) → nat_lt n (8 * length a) ≡ t → bit c n ≡ bit d n
        inside true e =
            let lt : n < 8 * length a = grind (arith, nat_tests) in
            written-bit f v a c n p both.0 both.1 lt
            ∙ sym (written-bit f v b d n q both.0 both.1 (omega (arith, lt, size)))
        inside false e =
            let past : 8 * length a ≤ n = grind (arith, nat_tests) in
            let c_size = kc.size in
            let d_size = kd.size in
            bit-past c n (omega (arith, past, c_size)) ∙ sym (bit-past d n (omega (arith, past, d_size, size)))

pub is-whole : (report : ReportRecord) (bytes : List ℕ) → AreBytes bytes → IsWhole report bytes
is-whole report bytes are = record {
  values = λ numbers new filled h.
      let at = λ (i : ℕ). let e : i ≡ 0 + i = omega arith in ap (slice_get report.fields) e in
      (whole report filled 0 report.fields numbers bytes new are at h).read;
  same = λ other numbers new newer also size padding h g.
      over-both report.fields numbers bytes other new newer are also size padding h g;
}
