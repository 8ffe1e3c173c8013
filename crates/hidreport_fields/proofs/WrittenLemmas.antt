-- What is written, by what is read.
use Rattle.std.proofs.Common.{◌≡◌, ℕ, Bool, true, false, cond, ◌==◌, List, [], ◌∷◌, length, ℤ}
use Rattle.std.proofs.Common.{Option, Some, None, Result, Ok, Err, IsOk, refl, ap, ◌∙◌, arith}
use Rattle.std.specs.List.{list_all}
use Rattle.std.proofs.lemmas.Bool.Decides.{nat_tests}
use Rattle.hidreport_lists.specs.Answer.{Refusal, MismatchingReportId}
use Rattle.hidreport_fields.specs.Reading.{ValueRecord, reads, values_of, with_id}
use Rattle.hidreport_fields.specs.Records.{Attributes, FieldPlace, FieldRecord, ArrayRecord, own_id}
use Rattle.hidreport_fields.specs.WritingValues.{begins_in_id, fits, has_sign, placed, put, value_width}
use Rattle.hidreport_fields.specs.WritingValues.{where_read, written}
use Rattle.hidreport_fields.specs.declared.field.insert_error.InsertError.{InsertError}
use Rattle.hidreport_fields.specs.declared.field.insert_error.InsertError.TheVariants as refused
use Rattle.hidreport_fields.specs.declared.field.usage.Usage.{Usage}

-- nothing is refused
abbrev pub ready : Result (Unit {0}) InsertError
ready = Ok (tt {0})

-- bytes are as an id wants them, so what is read of them counts
read-by : (b : Bool) (answer : Result (List ValueRecord) Refusal)
    (x : Result (List ℕ) InsertError)
    → where_read (cond b (Ok (tt {0})) (Err MismatchingReportId)) ready ≡ ready
    → IsOk answer → where_read (cond b answer (Err MismatchingReportId)) x ≡ x
read-by true (Ok values) x h ok = refl
read-by true (Err e) x h ok = cc
read-by false answer x h ok = cc

where-read : (id : Option ℕ) (bytes : List ℕ) (answer : Result (List ValueRecord) Refusal)
    (x : Result (List ℕ) InsertError)
    → where_read (with_id id bytes (Ok (tt {0}))) ready ≡ ready
    → IsOk answer → where_read (with_id id bytes answer) x ≡ x
where-read None bytes (Ok values) x h ok = refl
where-read None bytes (Err e) x h ok = cc
where-read (Some id) [] answer x h ok = cc
where-read (Some id) (b ∷ bytes) answer x h ok = read-by (b == id) answer x h ok

-- as many values as an array has, where it is read
pub written-array : (place : FieldPlace) (usages : List Usage) (is_range : Bool) (count : ℕ)
    (shared : Attributes) (values : List ℤ) (bytes : List ℕ) → length values ≡ count
    → where_read (with_id place.report_id bytes (Ok (tt {0}))) ready
    ≡ ready
    → IsOk (values_of (ArrayRecord place usages is_range count shared) bytes)
    → written (ArrayRecord place usages is_range count shared) values bytes
    ≡ placed (ArrayRecord place usages is_range count shared) place.first values bytes
written-array place usages is_range count shared values bytes size id read =
    let field = ArrayRecord place usages is_range count shared in
    let t : (length values == count) ≡ true = grind (arith, nat_tests) in
    ap (λ b. cond b (where_read (reads field bytes) (placed field place.first values bytes))
    (Err refused.WrongCount)) t
    ∙ where-read place.report_id bytes (values_of field bytes)
    (placed field place.first values bytes) id read

-- numbers that are placed, or one of them that doesn't fit
pub placed-ok : (field : FieldRecord) (first : ℕ) (numbers : List ℤ) (bytes : List ℕ)
    → begins_in_id (own_id field) first ≡ false
    → list_all (fits (value_width field) (has_sign field)) numbers ≡ true
    → placed field first numbers bytes ≡ Ok (put first (value_width field) numbers bytes)
placed-ok field first numbers bytes away all =
    ap (λ b. cond b (Err refused.OutOfBounds)
    (cond (list_all (fits (value_width field) (has_sign field)) numbers)
    (Ok (put first (value_width field) numbers bytes)) (Err refused.DoesNotFit))) away
    ∙ ap (λ b. cond b (Ok (put first (value_width field) numbers bytes)) (Err refused.DoesNotFit)) all

pub placed-unfit : (field : FieldRecord) (first : ℕ) (numbers : List ℤ) (bytes : List ℕ)
    → begins_in_id (own_id field) first ≡ false
    → list_all (fits (value_width field) (has_sign field)) numbers ≡ false
    → placed field first numbers bytes ≡ Err refused.DoesNotFit
placed-unfit field first numbers bytes away all =
    ap (λ b. cond b (Err refused.OutOfBounds)
    (cond (list_all (fits (value_width field) (has_sign field)) numbers)
    (Ok (put first (value_width field) numbers bytes)) (Err refused.DoesNotFit))) away
    ∙ ap (λ b. cond b (Ok (put first (value_width field) numbers bytes)) (Err refused.DoesNotFit)) all
