-- Runs gone over one by one, and what C is told of them.
use Rattle.std.proofs.Common.{◌≡◌, ℕ, zero, suc, ℤ, ◌+◌, ◌*◌, ◌<◌, ◌≤◌, ◌^◌, Bool, true, false, cond, ◌||◌, ◌==◌}
use Rattle.std.proofs.Common.{List, [], ◌∷◌, ◌++◌, length, take, drop, get_or, Option, None, Some}
use Rattle.std.proofs.Common.{Result, Ok, Err, IsOk, refl, sym, ap, subst, ◌∙◌, arith}
use Rattle.std.specs.List.{list_any}
use Rattle.std.proofs.Math.Seq.{drop-nil}
use Rattle.std.proofs.lemmas.Bool.Decides.{nat_tests}
use Rattle.std.proofs.lemmas.List.{drop_more, get_or-map, get_or_default, length-map, take-append-drop}
use Rattle.hidreport.specs.Answer.{Refusal, MismatchingReportId, OutOfBounds}
use Rattle.hidreport.specs.Reader.{filled}
use Rattle.hidreport.specs.Reading.{ValueRecord, each_value, with_id}
use Rattle.hidreport.specs.Runs.{HasAllValues, RunRecord, all_numbers, count_in, is_inside, run_in_id}
use Rattle.hidreport.specs.Runs.{run_reads, run_value, runs_fit, runs_placed, runs_put, runs_read}
use Rattle.hidreport.specs.Runs.{runs_written}
use Rattle.hidreport.specs.Tiling.{Each}
use Rattle.hidreport.specs.WritingLaws.{numbers_of}
use Rattle.hidreport_fields.specs.declared.field.insert_error.InsertError.TheVariants as refused_by
use Rattle.hidreport.proofs.RunReadLemmas.{all-read, first-refuses, length-all}
use Rattle.hidreport.proofs.RunReadLemmas.{outside-run, own-passes}
use Rattle.hidreport.proofs.RunWriteLemmas.{placed-fit, placed-unfit, written-open}
use Rattle.hidreport_c.proofs.ListsLemmas.{written-none}
use Rattle.hidreport_c.proofs.ReadingLemmas.{countable-by, uncountable-by}
use Rattle.hidreport_c.specs.Answer.{array_after, as_answer, counted, list_or_nothing}
use Rattle.hidreport_c.specs.Insert.{Places}
use Rattle.hidreport_c.specs.Prepared.{IsRefused, as_run, as_runs}
use Rattle.hidreport_c.specs.Reading.{if_countable}
use Rattle.hidreport_c.specs.Status.{by_status}
use Rattle.hidreport_c.specs.declared.structs.HidreportRun.{HidreportRun}

-- what stands for a run behind the last
abbrev no_run : HidreportRun
no_run = record {
  first_bit = 0;
  element_width = 0;
  value_count = 0;
  is_signed = false;
  has_report_id = false;
  report_id = 0;
}

-- the run at a place
abbrev pub run_item : List HidreportRun → ℕ → HidreportRun
run_item runs i = get_or runs i no_run

pub item-at : (runs : List HidreportRun) (i : ℕ) → i < length runs
    → run_item runs i ≡ get_or runs i (run_item runs i)
item-at runs i within = get_or_default runs i no_run (run_item runs i) within

-- as it is read
pub run-at : (runs : List HidreportRun) (i : ℕ) (r : HidreportRun) → i < length runs
    → r ≡ get_or runs i r → as_run r ≡ get_or (as_runs runs) i (as_run r)
run-at runs i r within is = ap as_run is ∙ sym (get_or-map as_run runs i r (as_run r) within)

pub within-runs : (runs : List HidreportRun) (i : ℕ) → i < length runs → i < length (as_runs runs)
within-runs runs i within = subst (λ n. i < n) (sym (length-map runs as_run)) within

-- what holds of each holds of the one at a place
pub each-at : {A : Type 0} (P : A → Type 0) (xs : List A) (i : ℕ) (x : A) → i < length xs
    → x ≡ get_or xs i x → Each P xs → P x
each-at P [] i x within is each = absurd (omega (arith, within))
each-at P (y ∷ xs) zero x within is each = subst P (sym is) each.0
each-at P (y ∷ xs) (suc i) x within is each = each-at P xs i x (omega (arith, within)) is each.1

pub each-run : (P : RunRecord → Type 0) (runs : List HidreportRun) (i : ℕ) (r : HidreportRun)
    → i < length runs → r ≡ get_or runs i r → Each P (as_runs runs) → P (as_run r)
each-run P runs i r within is each =
    each-at P (as_runs runs) i (as_run r) (within-runs runs i within) (run-at runs i r within is) each

-- another id, or no bytes for it, refuse a run
pub id-refused : (id : Option ℕ) (bytes : List ℕ) (a : Result (List ValueRecord) Refusal)
    (status : ℕ) → Err status ≡ by_status (with_id id bytes (Ok (tt {0})))
    → IsRefused status (numbers_of (with_id id bytes a))
id-refused None bytes a status h = cc
id-refused (Some id) [] a status h = record {
  refusal = OutOfBounds;
  is = refl;
  told = cc;
  place = refl;
  same = refl;
}
id-refused (Some id) (b ∷ bytes) a status h = by (b == id) h where
  by : (t : Bool) → Err status ≡ by_status (cond t (Ok (tt {0})) (Err MismatchingReportId))
      → IsRefused status (numbers_of (cond t a (Err MismatchingReportId)))
  by true h = cc
  by false h = record {
    refusal = MismatchingReportId;
    is = refl;
    told = cc;
    place = refl;
    same = refl;
  }

pub id-passed : {A : Type 0} (r : Result A Refusal) (x : A) → Ok x ≡ by_status r → r ≡ Ok x
id-passed (Ok y) x h = let same : y ≡ x = cc in ap (λ z. Ok z) same
id-passed (Err e) x h = cc

-- so do bits that aren't there
pub outside-refused : (run : RunRecord) (bytes : List ℕ)
    → with_id run.id bytes (Ok (tt {0})) ≡ Ok (tt {0})
    → is_inside run (8 * length bytes) ≡ false → IsRefused 2 (run_reads run bytes)
outside-refused run bytes own out = record {
  refusal = OutOfBounds;
  is = ap numbers_of (own-passes run.id bytes own (each_value (run_value run bytes) 0 run.count)
      ∙ outside-run run bytes out);
  told = refl;
  place = refl;
  same = refl;
}

-- the first run that is refused refuses all
pub refused-there : (runs : List HidreportRun) (i : ℕ) (r : HidreportRun) (bytes : List ℕ)
    (status : ℕ) → i < length runs → r ≡ get_or runs i r
    → Each (HasAllValues bytes) (take i (as_runs runs)) → IsRefused status (run_reads (as_run r) bytes)
    → IsRefused status (runs_read (as_runs runs) bytes)
refused-there runs i r bytes status within is each h =
    let all = as_runs runs in
    let rest = drop_more all i (as_run r) (within-runs runs i within)
    ∙ ap (λ q. q ∷ drop (i + 1) all) (sym (run-at runs i r within is)) in
    let whole : take i all ++ as_run r ∷ drop (i + 1) all ≡ all =
    ap (λ l. take i all ++ l) (sym rest) ∙ take-append-drop i all in record {
      refusal = h.refusal;
      is = ap (λ l. runs_read l bytes) (sym whole)
          ∙ first-refuses (take i all) (as_run r) (drop (i + 1) all) bytes h.refusal each h.is;
      told = h.told;
      place = h.place;
      same = h.same;
    }

-- numbers in place of the first values are an array after them
pub filled-array : (numbers values : List ℤ) → filled numbers values ≡ array_after numbers values
filled-array [] values = sym (written-none values)
filled-array (n ∷ numbers) [] = sym (drop-nil (length (n ∷ numbers)))
filled-array (n ∷ numbers) (v ∷ values) = ap (λ l. n ∷ l) (filled-array numbers values)

-- values that are there
all-there : (runs : List RunRecord) (bytes : List ℕ) → Each (HasAllValues bytes) runs
    → IsOk (runs_read runs bytes)
all-there runs bytes each = rw (all-read runs bytes each) refl

all-counted : (runs : List RunRecord) (bytes : List ℕ) → Each (HasAllValues bytes) runs
    → length (list_or_nothing (runs_read runs bytes)) ≡ count_in runs
all-counted runs bytes each =
    ap (λ r. length (list_or_nothing r)) (all-read runs bytes each) ∙ length-all runs bytes

pub runs-uncountable : (runs : List RunRecord) (bytes : List ℕ) → Each (HasAllValues bytes) runs
    → 2 ^ 64 ≤ count_in runs → if_countable (runs_read runs bytes) ≡ Err OutOfBounds
runs-uncountable runs bytes each past =
    uncountable-by (runs_read runs bytes) (all-there runs bytes each)
    (subst (λ n. 2 ^ 64 ≤ n) (sym (all-counted runs bytes each)) past)

pub runs-countable : (runs : List RunRecord) (bytes : List ℕ) → Each (HasAllValues bytes) runs
    → count_in runs < 2 ^ 64 → if_countable (runs_read runs bytes) ≡ Ok (all_numbers runs bytes)
runs-countable runs bytes each within =
    countable-by (runs_read runs bytes) (all-there runs bytes each)
    (subst (λ n. n < 2 ^ 64) (sym (all-counted runs bytes each)) within)
    ∙ all-read runs bytes each

pub runs-counted : (runs : List RunRecord) (bytes : List ℕ) (count : ℕ)
    → Each (HasAllValues bytes) runs → count ≡ count_in runs → count < 2 ^ 64
    → counted count ≡ as_answer (if_countable (runs_read runs bytes))
runs-counted runs bytes count each is within =
    ap counted (is ∙ sym (length-all runs bytes))
    ∙ ap as_answer (sym (runs-countable runs bytes each (subst (λ n. n < 2 ^ 64) is within)))

-- runs in the id, and numbers that don't fit
pub runs-in-id : (runs : List RunRecord) (numbers : List ℤ) (bytes : List ℕ)
    → length numbers ≡ count_in runs → Each (HasAllValues bytes) runs
    → list_any run_in_id runs ≡ true → Places (Err 2) bytes bytes (runs_written runs numbers bytes)
runs-in-id runs numbers bytes size each in_id =
    let placed : runs_placed runs numbers bytes ≡ Err refused_by.OutOfBounds =
    ap (λ b. cond b (Err refused_by.OutOfBounds) (cond (runs_fit runs numbers)
    (Ok (runs_put runs numbers bytes)) (Err refused_by.DoesNotFit))) in_id in
    subst (λ a. Places (Err 2) bytes bytes a)
    (sym (written-open runs numbers bytes (Err refused_by.OutOfBounds) size each placed)) (refl, refl)

pub runs-unfit : (runs : List RunRecord) (numbers : List ℤ) (bytes : List ℕ)
    → length numbers ≡ count_in runs → Each (HasAllValues bytes) runs
    → list_any run_in_id runs ≡ false → runs_fit runs numbers ≡ false
    → Places (Err 7) bytes bytes (runs_written runs numbers bytes)
runs-unfit runs numbers bytes size each away unfit =
    subst (λ a. Places (Err 7) bytes bytes a)
    (sym (written-open runs numbers bytes (Err refused_by.DoesNotFit) size each
    (placed-unfit runs numbers bytes away unfit))) (refl, refl)

pub runs-written : (runs : List RunRecord) (numbers : List ℤ) (bytes new : List ℕ)
    → length numbers ≡ count_in runs → Each (HasAllValues bytes) runs
    → list_any run_in_id runs ≡ false → runs_fit runs numbers ≡ true
    → new ≡ runs_put runs numbers bytes → runs_written runs numbers bytes ≡ Ok new
runs-written runs numbers bytes new size each away fit put =
    written-open runs numbers bytes (Ok new) size each
    (placed-fit runs numbers bytes away fit ∙ ap (λ (l : List ℕ). Ok l) (sym put))

-- a test of each run, of each as it is read
pub any-runs : (p : RunRecord → Bool) (runs : List HidreportRun)
    → list_any (λ (r : HidreportRun). p (as_run r)) runs ≡ list_any p (as_runs runs)
any-runs p [] = refl
any-runs p (r ∷ runs) = ap (λ b. p (as_run r) || b) (any-runs p runs)

pub same-count : (n m : ℕ) → (n == m) ≡ true → n ≡ m
same-count n m t = grind (arith, nat_tests, t)
