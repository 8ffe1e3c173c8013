-- What runs of values write: what their fields do, one run after the other.
use Rattle.std.proofs.Common.{◌≡◌, ◌≢◌, ℕ, ◌-◌, ◌*◌, Bool, true, false, cond, ◌&&◌, ◌==◌}
use Rattle.std.proofs.Common.{List, [], ◌∷◌, ◌++◌, length, take, drop, Result, Ok, Err}
use Rattle.std.proofs.Common.{refl, sym, ap, ◌∙◌, arith, ℤ}
use Rattle.std.specs.Prelude.{sum_by}
use Rattle.std.specs.List.{list_all, list_any}
use Rattle.std.proofs.lemmas.Bool.Decides.{nat_tests}
use Rattle.std.proofs.lemmas.Grind.{common_steps}
use Rattle.hidreport_items.specs.Spelling.{AreBytes}
use Rattle.hidreport_lists.specs.Answer.{Refusal}
use Rattle.hidreport_fields.specs.Reading.{each_value, element_width, is_signed}
use Rattle.hidreport_fields.specs.Records.{FieldRecord, VariableRecord, ArrayRecord, ConstantRecord}
use Rattle.hidreport.specs.ReportWriting.{all_fit, all_placed, begins_in_own_id, put_all}
use Rattle.hidreport.specs.Runs.{HasNarrowValues, HasAllValues, RunRecord, count_in, run_in_id, run_reads}
use Rattle.hidreport.specs.Runs.{run_value, runs_fit, runs_of, runs_placed, runs_put, runs_read}
use Rattle.hidreport.specs.Runs.{runs_written}
use Rattle.hidreport_fields.specs.Tiling.{Each}
use Rattle.hidreport_fields.specs.WritingValues.{Inserts, fits, put, value_count, where_read}
use Rattle.hidreport_fields.specs.declared.field.insert_error.InsertError.{InsertError}
use Rattle.hidreport_fields.specs.declared.field.insert_error.InsertError.TheVariants as refused
use Rattle.hidreport_fields.proofs.AgainLemmas.{each-size, run-own}
use Rattle.hidreport_fields.proofs.PutValuesLemmas.{put-none}
use Rattle.hidreport.proofs.RunReadLemmas.{all-read, inside-parts}
use Rattle.hidreport.proofs.WholeLemmas.{put-are}
use Rattle.hidreport.proofs.WholeReadLemmas.{both, passes}

-- the runs of fields hold what the fields do
fit-fields : (fields : List FieldRecord) (numbers : List ℤ)
    → runs_fit (runs_of fields) numbers ≡ all_fit fields numbers
fit-fields [] numbers = refl
fit-fields (VariableRecord place usage shared ∷ fields) numbers =
    ap (λ b. list_all (fits (place.«end» - place.first) (is_signed shared)) (take 1 numbers) && b)
    (fit-fields fields (drop 1 numbers))
fit-fields (ArrayRecord place usages is_range count shared ∷ fields) numbers =
    ap (λ b. list_all (fits (element_width place.first place.«end» count) (is_signed shared))
    (take count numbers) && b) (fit-fields fields (drop count numbers))
fit-fields (ConstantRecord place ∷ fields) numbers = fit-fields fields numbers

-- they put them in the same places
put-fields : (fields : List FieldRecord) (numbers : List ℤ) (bytes : List ℕ) → AreBytes bytes
    → runs_put (runs_of fields) numbers bytes ≡ put_all fields numbers bytes
put-fields [] numbers bytes are = refl
put-fields (VariableRecord place usage shared ∷ fields) numbers bytes are =
    let w = place.«end» - place.first in
    put-fields fields (drop 1 numbers) (put place.first w (take 1 numbers) bytes)
    (put-are place.first w (take 1 numbers) bytes)
put-fields (ArrayRecord place usages is_range count shared ∷ fields) numbers bytes are =
    let w = element_width place.first place.«end» count in
    put-fields fields (drop count numbers) (put place.first w (take count numbers) bytes)
    (put-are place.first w (take count numbers) bytes)
put-fields (ConstantRecord place ∷ fields) numbers bytes are =
    put-fields fields numbers bytes are
    ∙ sym (ap (put_all fields numbers) (put-none place.first 0 bytes are))

-- and they begin in the id where these do
in-id : (fields : List FieldRecord)
    → list_any run_in_id (runs_of fields) ≡ list_any begins_in_own_id fields
in-id [] = refl
in-id (VariableRecord place usage shared ∷ fields) =
    let rest = in-id fields in grind (arith, common_steps, rest)
in-id (ArrayRecord place usages is_range count shared ∷ fields) =
    let rest = in-id fields in grind (arith, common_steps, rest)
in-id (ConstantRecord place ∷ fields) =
    let rest = in-id fields in grind (arith, common_steps, rest)

placed-fields : (fields : List FieldRecord) (numbers : List ℤ) (bytes : List ℕ) → AreBytes bytes
    → runs_placed (runs_of fields) numbers bytes ≡ all_placed fields numbers bytes
placed-fields fields numbers bytes are =
    let runs = runs_of fields in
    ap (λ b. cond b (Err refused.OutOfBounds) (cond (runs_fit runs numbers)
    (Ok (runs_put runs numbers bytes)) (Err refused.DoesNotFit))) (in-id fields)
    ∙ ap (λ b. cond (list_any begins_in_own_id fields) (Err refused.OutOfBounds)
    (cond b (Ok (runs_put runs numbers bytes)) (Err refused.DoesNotFit))) (fit-fields fields numbers)
    ∙ ap (λ l. cond (list_any begins_in_own_id fields) (Err refused.OutOfBounds)
    (cond (all_fit fields numbers) (Ok l) (Err refused.DoesNotFit))) (put-fields fields numbers bytes are)

-- the runs of fields write what the fields do, where they have as many values and read the same
pub runs-write : (fields : List FieldRecord) (read : Result (List ℤ) Refusal) (numbers : List ℤ)
    (bytes : List ℕ) → AreBytes bytes → count_in (runs_of fields) ≡ sum_by value_count fields
    → runs_read (runs_of fields) bytes ≡ read
    → runs_written (runs_of fields) numbers bytes
    ≡ cond (length numbers == sum_by value_count fields)
    (where_read read (all_placed fields numbers bytes)) (Err refused.WrongCount)
runs-write fields read numbers bytes are count reads =
    let runs = runs_of fields in
    ap (λ n. cond (length numbers == n) (where_read (runs_read runs bytes)
    (runs_placed runs numbers bytes)) (Err refused.WrongCount)) count
    ∙ ap (λ r. cond (length numbers == sum_by value_count fields)
    (where_read r (runs_placed runs numbers bytes)) (Err refused.WrongCount)) reads
    ∙ ap (λ p. cond (length numbers == sum_by value_count fields) (where_read read p)
    (Err refused.WrongCount)) (placed-fields fields numbers bytes are)

-- an answer by its tests
pub placed-unfit : (runs : List RunRecord) (numbers : List ℤ) (bytes : List ℕ)
    → list_any run_in_id runs ≡ false → runs_fit runs numbers ≡ false
    → runs_placed runs numbers bytes ≡ Err refused.DoesNotFit
placed-unfit runs numbers bytes away unfit =
    ap (λ b. cond b (Err refused.OutOfBounds) (cond (runs_fit runs numbers)
    (Ok (runs_put runs numbers bytes)) (Err refused.DoesNotFit))) away
    ∙ ap (λ b. cond b (Ok (runs_put runs numbers bytes)) (Err refused.DoesNotFit)) unfit

pub placed-fit : (runs : List RunRecord) (numbers : List ℤ) (bytes : List ℕ)
    → list_any run_in_id runs ≡ false → runs_fit runs numbers ≡ true
    → runs_placed runs numbers bytes ≡ Ok (runs_put runs numbers bytes)
placed-fit runs numbers bytes away fit =
    ap (λ b. cond b (Err refused.OutOfBounds) (cond (runs_fit runs numbers)
    (Ok (runs_put runs numbers bytes)) (Err refused.DoesNotFit))) away
    ∙ ap (λ b. cond b (Ok (runs_put runs numbers bytes)) (Err refused.DoesNotFit)) fit

-- bytes that have all runs are written as the runs are placed
pub written-open : (runs : List RunRecord) (numbers : List ℤ) (bytes : List ℕ)
    (answer : Result (List ℕ) InsertError) → length numbers ≡ count_in runs
    → Each (HasAllValues bytes) runs → runs_placed runs numbers bytes ≡ answer
    → runs_written runs numbers bytes ≡ answer
written-open runs numbers bytes answer size has is =
    let same : (length numbers == count_in runs) ≡ true = grind (arith, nat_tests, size) in
    ap (λ b. cond b (where_read (runs_read runs bytes) (runs_placed runs numbers bytes))
    (Err refused.WrongCount)) same
    ∙ ap (λ r. where_read r (runs_placed runs numbers bytes)) (all-read runs bytes has) ∙ is

-- values that are there have some bits, at most 32
narrow-one : (bytes : List ℕ) (run : RunRecord) → HasAllValues bytes run → HasNarrowValues run
narrow-one bytes run has some =
    let parts = inside-parts run (8 * length bytes) has.inside (omega (arith, some)) in
    (parts.some, parts.narrow)

pub open-narrow : (bytes : List ℕ) (runs : List RunRecord) → Each (HasAllValues bytes) runs
    → Each HasNarrowValues runs
open-narrow bytes [] has = tt
open-narrow bytes (run ∷ runs) has =
    (narrow-one bytes run has.0, open-narrow bytes runs has.1)

-- numbers that were read: they fit, and putting them changes nothing
own-runs : (runs : List RunRecord) (numbers : List ℤ) (old : List ℕ) → AreBytes old
    → runs_read runs old ≡ Ok numbers
    → (runs_fit runs numbers ≡ true) × (runs_put runs numbers old ≡ old)
own-runs [] numbers old are h = (refl, refl)
own-runs (run ∷ runs) numbers old are h =
    let parts = both (run_reads run old) (runs_read runs old) numbers h in
    let here = (passes run.id old (each_value (run_value run old) 0 run.count) parts.front parts.first).1 in
    let own = run-own run.first run.width run.count run.is_signed parts.front old are here in
    let size = each-size (run_value run old) 0 run.count parts.front here in
    let front : take run.count numbers ≡ parts.front =
    front-of parts.front parts.rest numbers run.count size parts.is in
    let rest : drop run.count numbers ≡ parts.rest =
    rest-of parts.front parts.rest numbers run.count size parts.is in
    let more = own-runs runs parts.rest old are parts.second in (
      ap (λ l. list_all (fits run.width run.is_signed) l && runs_fit runs (drop run.count numbers)) front
          ∙ ap (λ b. b && runs_fit runs (drop run.count numbers)) own.0
          ∙ ap (runs_fit runs) rest ∙ more.0,
      ap (λ l. runs_put runs (drop run.count numbers) (put run.first run.width l old)) front
          ∙ ap (runs_put runs (drop run.count numbers)) own.1
          ∙ ap (λ l. runs_put runs l old) rest ∙ more.1,
    ) where
      front-of : (front rest numbers : List ℤ) (n : ℕ) → length front ≡ n → front ++ rest ≡ numbers
          → take n numbers ≡ front
      front-of front rest numbers n size is = grind (arith, common_steps)

      rest-of : (front rest numbers : List ℤ) (n : ℕ) → length front ≡ n → front ++ rest ≡ numbers
          → drop n numbers ≡ rest
      rest-of front rest numbers n size is = grind (arith, common_steps)

-- an answer of the definition, taken apart
answer-same : (t b a : Bool) (r : Result (List ℤ) Refusal) (p old new : List ℕ) → a ≡ true → p ≡ old
    → cond t (where_read r (cond b (Err refused.OutOfBounds) (cond a (Ok p) (Err refused.DoesNotFit))))
    (Err refused.WrongCount) ≡ Ok new → new ≡ old
answer-same true false true (Ok xs) p old new e same h = cc
answer-same true false false (Ok xs) p old new e same h = cc
answer-same true true a (Ok xs) p old new e same h = cc
answer-same true b a (Err f) p old new e same h = cc
answer-same false b a r p old new e same h = cc

not-unfit : (t b a : Bool) (r : Result (List ℤ) Refusal) (p : List ℕ) → a ≡ true
    → (numbers : List ℤ) → r ≡ Ok numbers
    → cond t (where_read r (cond b (Err refused.OutOfBounds)
    (cond a (Ok p) (Err refused.DoesNotFit)))) (Err refused.WrongCount)
    ≢ Err refused.DoesNotFit
not-unfit true true a (Ok xs) p e numbers ok h = cc
not-unfit true false true (Ok xs) p e numbers ok h = cc
not-unfit true false false (Ok xs) p e numbers ok h = cc
not-unfit true b a (Err f) p e numbers ok h = cc
not-unfit false b a r p e numbers ok h = cc

-- to write what was read changes nothing
pub runs-again : (runs : List RunRecord) (numbers : List ℤ) (old new : List ℕ)
    (result : Result (Unit {0}) InsertError) → (result ≢ Err refused.WrongCount → AreBytes old)
    → Inserts result old new (runs_written runs numbers old) → runs_read runs old ≡ Ok numbers
    → (new ≡ old) × (result ≢ Err refused.DoesNotFit)
runs-again runs numbers old new (Ok done) known h read =
    let own = own-runs runs numbers old (known (λ e. cc)) read in (
      answer-same (length numbers == count_in runs) (list_any run_in_id runs) (runs_fit runs numbers)
          (runs_read runs old) (runs_put runs numbers old) old new own.0 own.1 h,
      λ e. cc,
    )
runs-again runs numbers old new (Err refused.DoesNotFit) known h read =
    let own = own-runs runs numbers old (known (λ e. cc)) read in (
      h.1,
      λ unfit. not-unfit (length numbers == count_in runs) (list_any run_in_id runs)
          (runs_fit runs numbers) (runs_read runs old) (runs_put runs numbers old) own.0 numbers read h.0,
    )
runs-again runs numbers old new (Err refused.OutOfBounds) known h read = (h.1, λ e. cc)
runs-again runs numbers old new (Err refused.MismatchingReportId) known h read = (h.1, λ e. cc)
runs-again runs numbers old new (Err refused.WrongCount) known h read = (h.1, λ e. cc)
