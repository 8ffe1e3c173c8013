-- A field that was described, written by its description.
use Rattle.std.proofs.Common.{◌≡◌, ℕ, zero, suc, ◌+◌, ◌-◌, ◌*◌, Bool, true, false, cond}
use Rattle.std.proofs.Common.{List, [], ◌∷◌, length, ℤ, Option, None, Some, Result, Ok, Err}
use Rattle.std.proofs.Common.{refl, ap, sym, ◌∙◌, arith}
use Rattle.std.proofs.lemmas.Bool.Decides.{nat_tests}
use Rattle.std.specs.Prelude.{◌==◌}
use Rattle.std.specs.List.{list_all}
use Rattle.hidreport.specs.Answer.{Refusal, MismatchingReportId}
use Rattle.hidreport.specs.Reading.{ValueRecord, element, element_width, is_signed, one_value}
use Rattle.hidreport.specs.Reading.{before_values, read_bits, reads, reads_element, values_of}
use Rattle.hidreport.specs.Reading.{with_id}
use Rattle.hidreport.specs.Records.{FieldPlace, FieldRecord, VariableRecord}
use Rattle.hidreport.specs.Records.{ArrayRecord, ConstantRecord}
use Rattle.hidreport_items.specs.Spelling.{AreBytes}
use Rattle.hidreport.specs.WritingLaws.{IsWritten}
use Rattle.hidreport_fields.proofs.IsElementLemmas.{is-element-written}
use Rattle.hidreport_fields.proofs.IsWrittenLemmas.{is-written}
use Rattle.hidreport.specs.WritingValues.{begins_in_id, fits, placed, put, where_read, written}
use Rattle.hidreport_fields.specs.declared.field.insert_error.InsertError.{InsertError}
use Rattle.hidreport_fields.specs.declared.field.insert_error.InsertError.TheVariants as refused
use Rattle.hidreport_c.specs.Field.{as_c}
use Rattle.hidreport_c.specs.Insert.{IsInserted, Places, bytes_after, inserted_at, inserted_value}
use Rattle.hidreport_c.specs.Insert.{placed_at, status_after, written_at}
use Rattle.hidreport_c.specs.declared.structs.HidreportField.{HidreportField}
use Rattle.hidreport_c.specs.Value.{values_at}
use Rattle.hidreport_c.proofs.ValueLemmas.{element-of_one, id-again, value_at-described}

-- numbers from a bit on, by the id, the width and the sign
abbrev placing : Option ℕ → ℕ → Bool → ℕ → List ℤ → List ℕ → Result (List ℕ) InsertError
placing id w s first numbers bytes =
    cond (begins_in_id id first) (Err refused.OutOfBounds)
    (cond (list_all (fits w s) numbers) (Ok (put first w numbers bytes)) (Err refused.DoesNotFit))

-- a list of one value is read where the value is
where-one : (r : Result ValueRecord Refusal) (x : Result (List ℕ) InsertError)
    → where_read (one_value r) x ≡ where_read r x
where-one (Ok v) x = refl
where-one (Err e) x = refl

where-test : (b : Bool) (r : Result ValueRecord Refusal) (x : Result (List ℕ) InsertError)
    → where_read (cond b (one_value r) (Err MismatchingReportId)) x ≡ where_read (cond b r (Err MismatchingReportId)) x
where-test true r x = where-one r x
where-test false r x = refl

where-with_id : (id : Option ℕ) (bytes : List ℕ) (r : Result ValueRecord Refusal)
    (x : Result (List ℕ) InsertError)
    → where_read (with_id id bytes (one_value r)) x ≡ where_read (with_id id bytes r) x
where-with_id None bytes r x = where-one r x
where-with_id (Some id) [] r x = refl
where-with_id (Some id) (b ∷ bytes) r x = where-test (b == id) r x

before-none : (r : Result ValueRecord Refusal) → before_values r (Ok []) ≡ one_value r
before-none (Ok v) = refl
before-none (Err e) = refl

-- the value of a variable field
pub one-read : (place : FieldPlace) (s : Bool) (bytes : List ℕ)
    → before_values (element place.first place.end 1 s bytes 0) (Ok [])
    ≡ one_value (read_bits place.first place.end s bytes)
one-read place s bytes =
    before-none (element place.first place.end 1 s bytes 0)
    ∙ ap one_value (element-of_one place.first place.end s bytes)

variable-placed : (place : FieldPlace) (id : Option ℕ) (s : Bool) (first : ℕ) (numbers : List ℤ)
    (bytes : List ℕ) → id ≡ place.report_id → first ≡ place.first
    → placing id (element_width place.first place.end 1) s first numbers bytes
    ≡ placing place.report_id (place.end - place.first) s place.first numbers bytes
variable-placed place id s first numbers bytes same from =
    let width : element_width place.first place.end 1 ≡ place.end - place.first = omega arith in
    ap (λ i. placing i (element_width place.first place.end 1) s first numbers bytes) same
    ∙ ap (λ w. placing place.report_id w s first numbers bytes) width
    ∙ ap (λ p. placing place.report_id (place.end - place.first) s p numbers bytes) from

pub inserted-described : (f : FieldRecord) (index : ℕ) (number : ℤ) (bytes : List ℕ)
    → inserted_at (as_c f) index number bytes ≡ inserted_value f index number bytes
inserted-described (VariableRecord place usage shared) zero number bytes =
    let s = is_signed shared in
    let from : place.first + element_width place.first place.end 1 * 0 ≡ place.first =
    omega arith in
    let value = ap (λ id. with_id id bytes (element place.first place.end 1 s bytes 0))
    (id-again place.report_id)
    ∙ ap (with_id place.report_id bytes) (element-of_one place.first place.end s bytes) in
    ap (λ r. where_read r (placed_at (as_c (VariableRecord place usage shared))
    (place.first + element_width place.first place.end 1 * 0) (number ∷ []) bytes)) value
    ∙ ap (where_read (with_id place.report_id bytes (read_bits place.first place.end s bytes)))
    (variable-placed place _ s _ (number ∷ []) bytes (id-again place.report_id) from)
    ∙ sym (where-with_id place.report_id bytes (read_bits place.first place.end s bytes) _)
inserted-described (VariableRecord place usage shared) (suc n) number bytes =
    ap (λ r. where_read r (placed_at (as_c (VariableRecord place usage shared))
    (place.first + element_width place.first place.end 1 * suc n) (number ∷ []) bytes))
    (value_at-described (VariableRecord place usage shared) bytes (suc n))
inserted-described (ArrayRecord place usages is_range count shared) index number bytes =
    let f = ArrayRecord place usages is_range count shared in
    let w = element_width place.first place.end count in
    ap (λ r. where_read r (placed_at (as_c f) (place.first + w * index) (number ∷ []) bytes))
    (value_at-described f bytes index)
    ∙ ap (λ id. where_read (reads_element f bytes index)
    (placing id w (is_signed shared) (place.first + w * index) (number ∷ []) bytes))
    (id-again place.report_id)
inserted-described (ConstantRecord place) index number bytes =
    ap (λ r. where_read r (placed_at (as_c (ConstantRecord place))
    (place.first + element_width place.first place.end 0 * index) (number ∷ []) bytes))
    (value_at-described (ConstantRecord place) bytes index)

pub written-described : (f : FieldRecord) (numbers : List ℤ) (bytes : List ℕ)
    → written_at (as_c f) numbers bytes ≡ written f numbers bytes
written-described (VariableRecord place usage shared) numbers bytes =
    let s = is_signed shared in
    let f = VariableRecord place usage shared in
    ap (λ id. cond (length numbers == 1) (where_read (with_id id bytes
    (before_values (element place.first place.end 1 s bytes 0) (Ok [])))
    (placing id (element_width place.first place.end 1) s place.first numbers bytes))
    (Err refused.WrongCount)) (id-again place.report_id)
    ∙ ap (λ r. cond (length numbers == 1) (where_read (with_id place.report_id bytes r)
    (placing place.report_id (element_width place.first place.end 1) s place.first numbers bytes))
    (Err refused.WrongCount)) (one-read place s bytes)
    ∙ ap (λ x. cond (length numbers == 1) (where_read (reads f bytes) x)
    (Err refused.WrongCount))
    (variable-placed place place.report_id s place.first numbers bytes refl refl)
written-described (ArrayRecord place usages is_range count shared) numbers bytes =
    let f = ArrayRecord place usages is_range count shared in
    ap (λ id. cond (length numbers == count)
    (where_read (with_id id bytes (values_of f bytes))
    (placing id (element_width place.first place.end count) (is_signed shared) place.first numbers
    bytes)) (Err refused.WrongCount)) (id-again place.report_id)
written-described (ConstantRecord place) [] bytes = none where
  none : written_at (as_c (ConstantRecord place)) [] bytes ≡ written (ConstantRecord place) [] bytes
  none =
      let width : element_width place.first place.end 0 ≡ 0 = omega arith in
      ap (λ w. placing None w false place.first [] bytes) width
written-described (ConstantRecord place) (number ∷ numbers) bytes =
    let t : (length (number ∷ numbers) == 0) ≡ false = grind (arith, nat_tests) in
    ap (λ b. cond b (where_read (values_at (as_c (ConstantRecord place)) bytes)
    (placed_at (as_c (ConstantRecord place)) place.first (number ∷ numbers) bytes))
    (Err refused.WrongCount)) t
    ∙ sym (ap (λ b. cond b (where_read (reads (ConstantRecord place) bytes)
    (placed (ConstantRecord place) place.first (number ∷ numbers) bytes))
    (Err refused.WrongCount)) t)

-- what is told to be written is
told-by : (answer : Result (List ℕ) InsertError) (old new : List ℕ) → status_after answer ≡ 0
    → new ≡ bytes_after answer old → answer ≡ Ok new
told-by (Ok bytes) old new none is = ap (λ (l : List ℕ). Ok l) (sym is)
told-by (Err refused.OutOfBounds) old new none is = absurd (omega (arith, none))
told-by (Err refused.MismatchingReportId) old new none is = absurd (omega (arith, none))
told-by (Err refused.DoesNotFit) old new none is = absurd (omega (arith, none))
told-by (Err refused.WrongCount) old new none is = absurd (omega (arith, none))

pub told-written : (r : Result (Unit {0}) ℕ) (status : ℕ) (old new : List ℕ)
    (answer : Result (List ℕ) InsertError) → r ≡ Err status → Places r old new answer
    → status ≡ 0 → answer ≡ Ok new
told-written (Ok done) status old new answer is h none = cc
told-written (Err other) status old new answer is h none =
    let same : other ≡ status = cc in
    told-by answer old new (sym h.0 ∙ same ∙ none) h.1

pub done-written : (r : Result (Unit {0}) ℕ) (done : Unit {0}) (old new : List ℕ)
    (answer : Result (List ℕ) InsertError) → r ≡ Ok done → Places r old new answer
    → answer ≡ Ok new
done-written (Ok done) other old new answer is h = h
done-written (Err status) other old new answer is h = cc

-- the laws of a write to a described field
pub all-laws : (f : HidreportField) (read : FieldRecord) (numbers : List ℤ) (old new : List ℕ)
    → AreBytes old → f ≡ as_c read → written_at f numbers old ≡ Ok new
    → IsWritten read numbers old new
all-laws f read numbers old new are same h =
    is-written read numbers old new are
    (sym (ap (λ g. written_at g numbers old) same ∙ written-described read numbers old) ∙ h)

value-laws : (read : FieldRecord) (index : ℕ) (number : ℤ) (old new : List ℕ) → AreBytes old
    → inserted_value read index number old ≡ Ok new → IsInserted read index number old new
value-laws (VariableRecord place usage shared) zero number old new are h =
    is-written (VariableRecord place usage shared) (number ∷ []) old new are h
value-laws (VariableRecord place usage shared) (suc n) number old new are h = cc
value-laws (ArrayRecord place usages is_range count shared) index number old new are h =
    is-element-written place usages is_range count shared index number old new are h
value-laws (ConstantRecord place) index number old new are h = cc

pub one-laws : (f : HidreportField) (read : FieldRecord) (index : ℕ) (number : ℤ)
    (old new : List ℕ) → AreBytes old → f ≡ as_c read → inserted_at f index number old ≡ Ok new
    → IsInserted read index number old new
one-laws f read index number old new are same h =
    value-laws read index number old new are
    (sym (ap (λ g. inserted_at g index number old) same
    ∙ inserted-described read index number old) ∙ h)
