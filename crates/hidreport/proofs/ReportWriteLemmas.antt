-- A report that all values were written into at once.
use Rattle.std.proofs.Common.{◌≡◌, ◌≢◌, ◌⊎◌, ℕ, zero, suc, ◌+◌, ◌<◌, ◌≤◌, Bool, true, false, cond}
use Rattle.std.proofs.Common.{◌&&◌, ◌||◌, ◌==◌, List, [], ◌∷◌, length, Some, Result, Ok}
use Rattle.std.proofs.Common.{Err, IsOk, OnOk, refl, sym, ap, subst, ◌∙◌, arith, ℤ}
use Rattle.std.specs.Prelude.{slice_get, sum_by}
use Rattle.std.specs.List.{list_all, list_any}
use Rattle.std.proofs.lemmas.Bool.Decides.{nat_tests}
use Rattle.std.proofs.lemmas.Grind.{common_steps}
use Rattle.std.proofs.lemmas.List.{length-drop, length-take-le, take-append-drop}
use Rattle.std.proofs.lemmas.List.Elements.{All-head, All-tail}
use Rattle.hidreport_items.specs.Spelling.{AreBytes}
use Rattle.hidreport_lists.specs.Answer.{Refusal}
use Rattle.hidreport_fields.specs.Bits.{covered_bits}
use Rattle.hidreport.specs.Reader.{before_numbers, report_numbers}
use Rattle.hidreport_fields.specs.Reading.{ValueRecord, reads}
use Rattle.hidreport_fields.specs.Records.{FieldRecord, ReportRecord, place_of}
use Rattle.hidreport.specs.ReportWriting.{IsReportWritten, all_fit, begins_in_own_id, later_numbers}
use Rattle.hidreport.specs.ReportWriting.{own_numbers, parted, put_all, report_written}
use Rattle.hidreport.specs.Runs.{RunRecord, StandFor, runs_written}
use Rattle.hidreport_fields.specs.Tiling.{IsFilled}
use Rattle.hidreport_fields.specs.WritingLaws.{AllRead, Keeps, SamePadding, numbers_of, reads_numbers}
use Rattle.hidreport_fields.specs.WritingLaws.{then_written, written_all}
use Rattle.hidreport_fields.specs.WritingValues.{Inserts, fits, has_sign, put}
use Rattle.hidreport_fields.specs.WritingValues.{value_count, value_width, where_read, written}
use Rattle.hidreport_fields.specs.declared.field.insert_error.InsertError.{InsertError}
use Rattle.hidreport_fields.specs.declared.field.insert_error.InsertError.TheVariants as refused
use Rattle.hidreport_fields.proofs.IsWrittenLemmas.{covered, is-written, parts-by}
use Rattle.hidreport_fields.proofs.KeptBitsLemmas.{put-keeps}
use Rattle.hidreport.proofs.WholeLemmas.{is-whole, put-are}

-- an answer, taken apart
record Parts (fields : List FieldRecord) (numbers : List ℤ) (old new : List ℕ) : Type 0 where
  count : length numbers ≡ sum_by value_count fields
  read : IsOk (report_numbers fields old)
  away : list_any begins_in_own_id fields ≡ false
  fit : all_fit fields numbers ≡ true
  is : put_all fields numbers old ≡ new

parts-of : (fields : List FieldRecord) (numbers : List ℤ) (old new : List ℕ)
    → report_written fields numbers old ≡ Ok new → Parts fields numbers old new
parts-of fields numbers old new h =
    let t = parts-by (length numbers == sum_by value_count fields) (list_any begins_in_own_id fields)
    (all_fit fields numbers) (report_numbers fields old) (put_all fields numbers old) new h in record {
      count = grind (arith, nat_tests, t.0);
      read = t.1;
      away = t.2;
      fit = t.3;
      is = t.4;
    }

-- each field reads what is read as a whole
both-ok : (a b : Result (List ℤ) Refusal) → IsOk (before_numbers a b) → (IsOk a) × (IsOk b)
both-ok (Err e) b ok = absurd (cc)
both-ok (Ok xs) (Err e) ok = absurd (cc)
both-ok (Ok xs) (Ok ys) ok = (refl, refl)

values-ok : (r : Result (List ValueRecord) Refusal) → IsOk (numbers_of r) → IsOk r
values-ok (Ok xs) ok = refl
values-ok (Err e) ok = ok

each-ok : (fields : List FieldRecord) (bytes : List ℕ) → IsOk (report_numbers fields bytes)
    → (i : ℕ) (f : FieldRecord) → slice_get fields i ≡ Some f → IsOk (reads f bytes)
each-ok [] bytes ok i f e = cc
each-ok (g ∷ fields) bytes ok zero f e =
    let parts = both-ok (reads_numbers g bytes) (report_numbers fields bytes) ok in
    let same : g ≡ f = cc in
    subst (λ x. IsOk (reads x bytes)) same (values-ok (reads g bytes) parts.0)
each-ok (g ∷ fields) bytes ok (suc i) f e =
    let parts = both-ok (reads_numbers g bytes) (report_numbers fields bytes) ok in
    each-ok fields bytes parts.1 i f e

-- two tests that both come out
and-parts : (a b : Bool) → (a && b) ≡ true → (a ≡ true) × (b ≡ true)
and-parts true b h = (refl, h)
and-parts false b h = cc

or-parts : (a b : Bool) → (a || b) ≡ false → (a ≡ false) × (b ≡ false)
or-parts false b h = (refl, h)
or-parts true b h = cc

-- one field that is written
one-written : (f : FieldRecord) (numbers : List ℤ) (bytes : List ℕ) → length numbers ≡ value_count f
    → IsOk (reads f bytes) → begins_in_own_id f ≡ false
    → list_all (fits (value_width f) (has_sign f)) numbers ≡ true
    → written f numbers bytes ≡ Ok (put (place_of f).first (value_width f) numbers bytes)
one-written f numbers bytes size ok away fit =
    by (length numbers == value_count f) (reads f bytes) (begins_in_own_id f)
    (list_all (fits (value_width f) (has_sign f)) numbers)
    (grind (arith, nat_tests, size)) ok away fit where
      by : (t : Bool) (r : Result (List ValueRecord) Refusal) (b a : Bool) → t ≡ true → IsOk r
          → b ≡ false → a ≡ true
          → cond t (where_read r (cond b (Err refused.OutOfBounds)
          (cond a (Ok (put (place_of f).first (value_width f) numbers bytes)) (Err refused.DoesNotFit))))
          (Err refused.WrongCount) ≡ Ok (put (place_of f).first (value_width f) numbers bytes)
      by true (Ok xs) false true p q r s = refl
      by true (Ok xs) false false p q r s = cc
      by true (Ok xs) true a p q r s = cc
      by true (Err e) b a p q r s = cc
      by false r b a p q t s = cc

count-first : (f : FieldRecord) (fields : List FieldRecord) (numbers : List ℤ)
    → length numbers ≡ sum_by value_count (f ∷ fields)
    → (length (own_numbers f numbers) ≡ value_count f)
    × (length (later_numbers f numbers) ≡ sum_by value_count fields)
count-first f fields numbers size =
    let sum : sum_by value_count (f ∷ fields) ≡ value_count f + sum_by value_count fields =
    grind (arith, common_steps) in (
      length-take-le (value_count f) numbers (omega (arith, size, sum)),
      length-drop (value_count f) numbers ∙ omega (arith, size, sum),
    )

any-first : (f : FieldRecord) (fields : List FieldRecord)
    → list_any begins_in_own_id (f ∷ fields) ≡ false
    → (begins_in_own_id f ≡ false) × (list_any begins_in_own_id fields ≡ false)
any-first f fields h = or-parts (begins_in_own_id f) (list_any begins_in_own_id fields) (by h) where
  by : list_any begins_in_own_id (f ∷ fields) ≡ false
      → (begins_in_own_id f || list_any begins_in_own_id fields) ≡ false
  by h = grind (arith, common_steps, h)

-- the fields of a report, written one after the other
one-by-one : (report : ReportRecord) → IsFilled report → (k : ℕ) (fields : List FieldRecord)
    (numbers : List ℤ) (bytes : List ℕ) → AreBytes bytes
    → ((i : ℕ) → slice_get fields i ≡ slice_get report.fields (k + i))
    → ((i : ℕ) (f : FieldRecord) → slice_get fields i ≡ Some f → IsOk (reads f bytes))
    → length numbers ≡ sum_by value_count fields → list_any begins_in_own_id fields ≡ false
    → all_fit fields numbers ≡ true
    → written_all fields (parted fields numbers) bytes ≡ Ok (put_all fields numbers bytes)
one-by-one report filled k [] numbers bytes are at read size away fit = refl
one-by-one report filled k (f ∷ fields) numbers bytes are at read size away fit =
    let mine = own_numbers f numbers in
    let later = later_numbers f numbers in
    let mid = put (place_of f).first (value_width f) mine bytes in
    let counts = count-first f fields numbers size in
    let outside = any-first f fields away in
    let hold = and-parts (list_all (fits (value_width f) (has_sign f)) mine) (all_fit fields later) fit in
    let one = one-written f mine bytes counts.0 (read 0 f refl) outside.0 hold.0 in
    let law = is-written f mine bytes mid are one in
    let none : k + 0 ≡ k = omega arith in
    let here : slice_get report.fields k ≡ Some f =
    sym (at 0 ∙ ap (slice_get report.fields) none) in
    let next = λ (i : ℕ). let e : k + suc i ≡ k + 1 + i = omega arith in
    at (suc i) ∙ ap (slice_get report.fields) e in
    let more = one-by-one report filled (k + 1) fields later mid
    (put-are (place_of f).first (value_width f) mine bytes) next
    (λ i g e. subst (λ (r : Result (List ValueRecord) Refusal). IsOk r)
    (sym (law.apart report k (k + 1 + i) g filled here (sym (next i) ∙ e)
    (λ same. absurd (omega (arith, same))))) (read (suc i) g e))
    counts.1 outside.1 hold.1 in
    ap (λ a. then_written a (written_all fields (parted fields later))) one ∙ more

-- fields that each read their numbers give them all
all-given : (fields : List FieldRecord) (numbers : List ℤ) (bytes : List ℕ)
    → length numbers ≡ sum_by value_count fields → AllRead fields (parted fields numbers) bytes
    → report_numbers fields bytes ≡ Ok numbers
all-given [] [] bytes size read = refl
all-given [] (z ∷ numbers) bytes size read =
    let none : sum_by value_count [] ≡ 0 = refl in absurd (omega (arith, size, none))
all-given (f ∷ fields) numbers bytes size read =
    let counts = count-first f fields numbers size in
    ap (λ a. before_numbers a (report_numbers fields bytes)) read.0
    ∙ ap (before_numbers (Ok (own_numbers f numbers)))
    (all-given fields (later_numbers f numbers) bytes counts.1 read.1)
    ∙ ap (λ (l : List ℤ). Ok l) (take-append-drop (value_count f) numbers)

-- bits that are in no value
abbrev outside : ℕ → FieldRecord → Type 0
outside n g = (n < (place_of g).first) ⊎ ((place_of g).first + covered_bits g ≤ n)

padding-kept : (fields : List FieldRecord) (numbers : List ℤ) (bytes : List ℕ)
    → length numbers ≡ sum_by value_count fields
    → (length (put_all fields numbers bytes) ≡ length bytes)
    × SamePadding fields bytes (put_all fields numbers bytes)
padding-kept [] numbers bytes size = (refl, λ n out. refl)
padding-kept (f ∷ fields) numbers bytes size =
    let mine = own_numbers f numbers in
    let mid = put (place_of f).first (value_width f) mine bytes in
    let counts = count-first f fields numbers size in
    let keeps : Keeps (place_of f).first (covered_bits f) bytes mid =
    subst (λ c. Keeps (place_of f).first c bytes mid) (covered f mine counts.0)
    (put-keeps (place_of f).first (value_width f) mine bytes) in
    let more = padding-kept fields (later_numbers f numbers) mid counts.1 in (
      more.0 ∙ keeps.size,
      λ n out. sym (keeps.bits n (All-head (outside n) f fields out))
          ∙ more.1 n (All-tail (outside n) f fields out),
    )

-- what holds of a report that was written
pub report-laws : (fields : List FieldRecord) (numbers : List ℤ) (old new : List ℕ) → AreBytes old
    → report_written fields numbers old ≡ Ok new → IsReportWritten fields numbers old new
report-laws fields numbers old new are h =
    let parts = parts-of fields numbers old new h in
    let whole = padding-kept fields numbers old parts.count in record {
      each = λ report filled same. each parts report filled same;
      read = λ report filled same. all-given fields numbers new parts.count
          (subst (λ l. AllRead l (parted fields numbers) new) same
          ((is-whole report old are).values (parted fields numbers) new filled
          (ap (λ l. written_all l (parted fields numbers) old) same ∙ each parts report filled same)));
      size = ap length (sym parts.is) ∙ whole.0;
      kept = subst (λ l. SamePadding fields old l) parts.is whole.1;
    } where
      each : Parts fields numbers old new → (report : ReportRecord) → IsFilled report
          → report.fields ≡ fields → written_all fields (parted fields numbers) old ≡ Ok new
      each parts report filled same =
          one-by-one report filled 0 fields numbers old are (λ i. at i same)
          (each-ok fields old parts.read) parts.count parts.away parts.fit
          ∙ ap (λ (l : List ℕ). Ok l) parts.is where
            at : (i : ℕ) → report.fields ≡ fields
                → slice_get fields i ≡ slice_get report.fields (0 + i)
            at i same =
                let e : i ≡ 0 + i = omega arith in
                ap (λ l. slice_get l i) (sym same) ∙ ap (slice_get report.fields) e

-- the same of an answer that runs gave
pub written-laws : (fields : List FieldRecord) (runs : List RunRecord) (numbers : List ℤ)
    (old new : List ℕ) (result : Result (Unit {0}) InsertError)
    → (result ≢ Err refused.WrongCount → AreBytes old) → StandFor fields runs
    → Inserts result old new (runs_written runs numbers old)
    → OnOk result (IsReportWritten fields numbers old new)
written-laws fields runs numbers old new (Ok done) known stand h =
    let are = known (λ e. cc) in
    report-laws fields numbers old new are (sym (stand.writes numbers old are) ∙ h)
written-laws fields runs numbers old new (Err e) known stand h = tt
