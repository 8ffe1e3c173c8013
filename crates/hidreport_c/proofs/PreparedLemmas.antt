-- Runs of values stand for the fields that they were made of.
use Rattle.std.proofs.Common.{◌≡◌, ℕ, ℤ, ◌+◌, ◌<◌, ◌≤◌, Bool, true, false, cond, ◌&&◌, ◌||◌, ◌==◌, not}
use Rattle.std.proofs.Common.{List, [], ◌∷◌, ◌++◌, length, take, drop, get_or, Option, None, Some}
use Rattle.std.proofs.Common.{Result, Ok, Err, refl, sym, ap, subst, ◌∙◌, arith, append-nil, length-append}
use Rattle.std.specs.Prelude.{slice_set}
use Rattle.std.specs.List.{list_all, list_any}
use Rattle.std.proofs.lemmas.Bool.Decides.{nat_tests}
use Rattle.std.proofs.lemmas.List.{map-append, take_all}
use Rattle.std.proofs.lemmas.List.Sums.{sum_by-cons}
use Rattle.hidreport.specs.Answer.{Refusal}
use Rattle.hidreport.specs.Reader.{before_numbers}
use Rattle.hidreport.specs.Reading.{ValueRecord, each_value, with_id}
use Rattle.hidreport.specs.Runs.{Joins, RunRecord, count_in, run_in_id, runs_fit, runs_put}
use Rattle.hidreport.specs.Runs.{runs_read, runs_written}
use Rattle.hidreport.specs.SameRuns.{SameRuns}
use Rattle.hidreport.specs.Spelling.{AreBytes}
use Rattle.hidreport.specs.WritingLaws.{numbers_of}
use Rattle.hidreport.specs.WritingValues.{begins_in_id, fits, put, where_read}
use Rattle.hidreport_fields.specs.declared.field.insert_error.InsertError.{InsertError}
use Rattle.hidreport_fields.specs.declared.field.insert_error.InsertError.TheVariants as refused
use Rattle.hidreport_fields.proofs.PutValuesLemmas.{put-none}
use Rattle.hidreport.proofs.RunLemmas.{before-nothing}
use Rattle.hidreport.proofs.SameRunsLemmas.{same-before, same-refl, same-then}
use Rattle.hidreport.proofs.JoinLemmas.{joined-behind}
use Rattle.hidreport.proofs.WholeLemmas.{put-are}
use Rattle.hidreport_c.proofs.ListingLemmas.{flat-next}
use Rattle.hidreport_c.proofs.ListsLemmas.{written-length, written-next}
use Rattle.hidreport_c.specs.Answer.{array_after, counted}
use Rattle.hidreport_c.specs.Insert.{is_signed_in, width_of}
use Rattle.hidreport_c.specs.Prepared.{IsPrepared, IsSoFar, as_run, as_runs, run_of_field}
use Rattle.hidreport_c.specs.Prepared.{runs_of_fields}
use Rattle.hidreport_c.specs.Reading.{numbers_in}
use Rattle.hidreport_c.specs.Value.{element_at, elements_at, id_of, value_numbers, values_at}
use Rattle.hidreport_c.specs.Writing.{all_fit_at, begins_in_own_id_at, count_at}
use Rattle.hidreport_c.specs.Writing.{put_all_at, report_written_at}
use Rattle.hidreport_c.specs.declared.structs.HidreportAnswer.{HidreportAnswer}
use Rattle.hidreport_c.specs.declared.structs.HidreportField.{HidreportField}
use Rattle.hidreport_c.specs.declared.structs.HidreportRun.{HidreportRun}

-- whether a field has neither values nor an id
abbrev is_none : HidreportField → Bool
is_none f = (f.value_count == 0) && not f.has_report_id

-- the run of a field that has values or an id
abbrev own_run : HidreportField → RunRecord
own_run f = record {
  id = id_of f;
  first = f.first_bit;
  width = width_of f;
  count = f.value_count;
  is_signed = is_signed_in f;
}

-- what holds of none where there is none, and else of its run, holds of what a field is read by
by-run : (P : List RunRecord → Type 0) (f : HidreportField)
    → (f.value_count ≡ 0 → id_of f ≡ None → P []) → P (own_run f ∷ []) → P (run_of_field f)
by-run P f none some = by f.has_report_id (f.value_count == 0) refl refl where
  by : (h t : Bool) → f.has_report_id ≡ h → (f.value_count == 0) ≡ t → P (run_of_field f)
  by true true e u =
      let no : is_none f ≡ false = rw (e, u) refl in
      subst (λ b. P (cond b [] (own_run f ∷ []))) (sym no) some
  by true false e u =
      let no : is_none f ≡ false = rw (e, u) refl in
      subst (λ b. P (cond b [] (own_run f ∷ []))) (sym no) some
  by false false e u =
      let no : is_none f ≡ false = rw (e, u) refl in
      subst (λ b. P (cond b [] (own_run f ∷ []))) (sym no) some
  by false true e u =
      let yes : is_none f ≡ true = rw (e, u) refl in
      let count : f.value_count ≡ 0 = grind (arith, nat_tests, u) in
      let id : id_of f ≡ None = ap (λ b. cond b (Some f.report_id) None) e in
      subst (λ b. P (cond b [] (own_run f ∷ []))) (sym yes) (none count id)

same-numbers : (r : Result (List ValueRecord) Refusal) → numbers_of r ≡ value_numbers r
same-numbers (Ok vs) = refl
same-numbers (Err e) = refl

none-read : (f : HidreportField) (bytes : List ℕ) → f.value_count ≡ 0 → id_of f ≡ None
    → values_at f bytes ≡ Ok []
none-read f bytes count id =
    ap (λ (i : Option ℕ). with_id i bytes (elements_at f bytes)) id
    ∙ ap (each_value (element_at f bytes) 0) count

-- the runs of fields read what the fields do
pub fields-read : (fields : List HidreportField) (bytes : List ℕ)
    → runs_read (runs_of_fields fields) bytes ≡ numbers_in fields bytes
fields-read [] bytes = refl
fields-read (f ∷ fields) bytes =
    let runs = runs_of_fields fields in
    let rest = fields-read fields bytes in
    by-run (λ l. runs_read (l ++ runs) bytes
    ≡ before_numbers (value_numbers (values_at f bytes)) (numbers_in fields bytes)) f
    (λ count id. rest ∙ sym (before-nothing (numbers_in fields bytes))
    ∙ ap (λ r. before_numbers (value_numbers r) (numbers_in fields bytes))
    (sym (none-read f bytes count id)))
    (ap (λ a. before_numbers a (runs_read runs bytes)) (same-numbers (values_at f bytes))
    ∙ ap (before_numbers (value_numbers (values_at f bytes))) rest)

-- and they have as many values
fields-count : (fields : List HidreportField)
    → count_in (runs_of_fields fields) ≡ count_at fields
fields-count [] = refl
fields-count (f ∷ fields) =
    let runs = runs_of_fields fields in
    let rest = fields-count fields in
    let all = sum_by-cons (λ (g : HidreportField). g.value_count) f fields in
    by-run (λ l. count_in (l ++ runs) ≡ count_at (f ∷ fields)) f
    (λ count id. omega (arith, rest, all, count))
    (sum_by-cons (λ (run : RunRecord). run.count) (own_run f) runs
    ∙ ap (λ n. f.value_count + n) rest ∙ sym all)

-- they begin in the id where these do
fields-in-id : (fields : List HidreportField)
    → list_any run_in_id (runs_of_fields fields) ≡ list_any begins_in_own_id_at fields
fields-in-id [] = refl
fields-in-id (f ∷ fields) =
    let runs = runs_of_fields fields in
    let rest = fields-in-id fields in
    by-run (λ l. list_any run_in_id (l ++ runs)
    ≡ (begins_in_own_id_at f || list_any begins_in_own_id_at fields)) f
    (λ count id. rest ∙ sym (ap (λ (i : Option ℕ). begins_in_id i f.first_bit
    || list_any begins_in_own_id_at fields) id))
    (ap (λ b. begins_in_own_id_at f || b) rest)

-- they hold what the fields do
fields-fit : (fields : List HidreportField) (numbers : List ℤ)
    → runs_fit (runs_of_fields fields) numbers ≡ all_fit_at fields numbers
fields-fit [] numbers = refl
fields-fit (f ∷ fields) numbers =
    let runs = runs_of_fields fields in
    let p = fits (width_of f) (is_signed_in f) in
    by-run (λ l. runs_fit (l ++ runs) numbers
    ≡ (list_all p (take f.value_count numbers) && all_fit_at fields (drop f.value_count numbers))) f
    (λ count id. fields-fit fields numbers
    ∙ sym (ap (λ n. list_all p (take n numbers) && all_fit_at fields (drop n numbers)) count))
    (ap (λ b. list_all p (take f.value_count numbers) && b)
    (fields-fit fields (drop f.value_count numbers)))

-- they put them in the same places
fields-put : (fields : List HidreportField) (numbers : List ℤ) (bytes : List ℕ) → AreBytes bytes
    → runs_put (runs_of_fields fields) numbers bytes ≡ put_all_at fields numbers bytes
fields-put [] numbers bytes are = refl
fields-put (f ∷ fields) numbers bytes are =
    let runs = runs_of_fields fields in
    let w = width_of f in
    by-run (λ l. runs_put (l ++ runs) numbers bytes
    ≡ put_all_at fields (drop f.value_count numbers)
    (put f.first_bit w (take f.value_count numbers) bytes)) f
    (λ count id. fields-put fields numbers bytes are
    ∙ sym (ap (λ n. put_all_at fields (drop n numbers) (put f.first_bit w (take n numbers) bytes))
    count ∙ ap (put_all_at fields numbers) (put-none f.first_bit w bytes are)))
    (fields-put fields (drop f.value_count numbers)
    (put f.first_bit w (take f.value_count numbers) bytes)
    (put-are f.first_bit w (take f.value_count numbers) bytes))

-- an answer of its parts
abbrev answer : Bool → Result (List ℤ) Refusal → Bool → Bool → List ℕ → Result (List ℕ) InsertError
answer counted read in_id fit bytes = cond counted (where_read read (cond in_id (Err refused.OutOfBounds)
    (cond fit (Ok bytes) (Err refused.DoesNotFit)))) (Err refused.WrongCount)

same-answer : {c c' i i' f f' : Bool} {r r' : Result (List ℤ) Refusal} {b b' : List ℕ}
    → c ≡ c' → r ≡ r' → i ≡ i' → f ≡ f' → b ≡ b' → answer c r i f b ≡ answer c' r' i' f' b'
same-answer {c = c} {c' = c'} {i = i} {i' = i'} {f = f} {f' = f'} {r = r} {r' = r'} {b = b} {b' = b'} ce re ie fe be =
    ap (λ x. answer x r i f b) ce ∙ ap (λ x. answer c' x i f b) re ∙ ap (λ x. answer c' r' x f b) ie
    ∙ ap (λ x. answer c' r' i' x b) fe ∙ ap (λ x. answer c' r' i' f' x) be

-- so they write what the fields do
fields-written : (fields : List HidreportField) (numbers : List ℤ) (bytes : List ℕ)
    → AreBytes bytes
    → runs_written (runs_of_fields fields) numbers bytes ≡ report_written_at fields numbers bytes
fields-written fields numbers bytes are =
    same-answer (ap (λ n. length numbers == n) (fields-count fields)) (fields-read fields bytes)
    (fields-in-id fields) (fields-fit fields numbers) (fields-put fields numbers bytes are)

-- runs that are the same write the same
same-written : (xs ys : List RunRecord) → SameRuns xs ys → (numbers : List ℤ) (bytes : List ℕ)
    → AreBytes bytes → runs_written xs numbers bytes ≡ runs_written ys numbers bytes
same-written xs ys s numbers bytes are =
    same-answer (ap (λ n. length numbers == n) s.count) (s.reads bytes) s.in_id (s.fits numbers)
    (s.puts numbers bytes are)

-- all runs, the last written too
pub prepared : (fields : List HidreportField) (i : ℕ) (runs old new : List HidreportRun)
    (told : HidreportAnswer) → length fields ≤ i → told ≡ counted (length runs)
    → new ≡ array_after runs old → length runs ≤ length fields
    → SameRuns (as_runs runs) (runs_of_fields (take i fields)) → IsPrepared fields old new told
prepared fields i runs old new told past count written few same =
    let own = runs_of_fields fields in
    let all : SameRuns (as_runs runs) own =
    subst (λ l. SameRuns (as_runs runs) (runs_of_fields l)) (take_all i fields past) same in record {
      runs = runs;
      count = count;
      written = written;
      few = few;
      reads = λ bytes. all.reads bytes ∙ fields-read fields bytes;
      writes = λ numbers bytes are. same-written (as_runs runs) own all numbers bytes are
          ∙ fields-written fields numbers bytes are;
    }

-- a run of one field more: whatever is the same as the runs so far and this one behind them
more : (fields : List HidreportField) (i : ℕ) (f : HidreportField) (run : HidreportRun)
    (so_far new : List RunRecord) → i < length fields → f ≡ get_or fields i f
    → run_of_field f ≡ as_run run ∷ [] → SameRuns so_far (runs_of_fields (take i fields))
    → SameRuns new (so_far ++ as_run run ∷ []) → SameRuns new (runs_of_fields (take (i + 1) fields))
more fields i f run so_far new within is own s a =
    let all = runs_of_fields (take i fields) in
    subst (SameRuns new) (sym (flat-next run_of_field fields i f within is ∙ ap (λ l. all ++ l) own))
    (same-then new (so_far ++ as_run run ∷ []) (all ++ as_run run ∷ []) a
    (same-before so_far all (as_run run ∷ []) s))

-- it is held where none was
pub so-far-first : (fields : List HidreportField) (i : ℕ) (f : HidreportField) (run : HidreportRun)
    (old new : List HidreportRun) (done : ℕ) → i < length fields → f ≡ get_or fields i f
    → run_of_field f ≡ as_run run ∷ [] → IsSoFar fields i None old new done
    → IsSoFar fields (i + 1) (Some run) old new done
so-far-first fields i f run old new done within is own s = record {
  made = s.made;
  count = s.count;
  written = s.written;
  few = omega (arith, s.few);
  same = more fields i f run (as_runs s.made ++ []) (as_runs s.made ++ as_run run ∷ []) within is own
      s.same (subst (λ l. SameRuns (as_runs s.made ++ as_run run ∷ []) (l ++ as_run run ∷ []))
      (sym (append-nil (as_runs s.made))) (same-refl (as_runs s.made ++ as_run run ∷ [])));
}

-- it is joined with the one that is held
pub so-far-joined : (fields : List HidreportField) (i : ℕ) (f : HidreportField)
    (front run joined : HidreportRun) (old new : List HidreportRun) (done : ℕ)
    → i < length fields → f ≡ get_or fields i f → run_of_field f ≡ as_run run ∷ []
    → Joins (as_run front) (as_run run) (as_run joined)
    → IsSoFar fields i (Some front) old new done → IsSoFar fields (i + 1) (Some joined) old new done
so-far-joined fields i f front run joined old new done within is own joins s = record {
  made = s.made;
  count = s.count;
  written = s.written;
  few = omega (arith, s.few);
  same = more fields i f run (as_runs s.made ++ as_run front ∷ [])
      (as_runs s.made ++ as_run joined ∷ []) within is own s.same
      (joined-behind (as_runs s.made) (as_runs s.made ++ as_run joined ∷ [])
      (as_runs s.made ++ as_run front ∷ []) (as_run front) (as_run run) (as_run joined) refl refl
      joins);
}

-- or that is written, and it is held
pub so-far-behind : (fields : List HidreportField) (i : ℕ) (f : HidreportField)
    (front run : HidreportRun) (old mid new : List HidreportRun) (done : ℕ) → i < length fields
    → f ≡ get_or fields i f → run_of_field f ≡ as_run run ∷ []
    → (s : IsSoFar fields i (Some front) old mid done) → new ≡ array_after (s.made ++ front ∷ []) old
    → IsSoFar fields (i + 1) (Some run) old new (done + 1)
so-far-behind fields i f front run old mid new done within is own s written =
    let size = length-append s.made (front ∷ []) in
    let all = map-append as_run s.made (front ∷ []) in record {
      made = s.made ++ front ∷ [];
      count = omega (arith, s.count, size);
      written = written;
      few = omega (arith, s.few, size);
      same = more fields i f run (as_runs s.made ++ as_run front ∷ [])
          (as_runs (s.made ++ front ∷ []) ++ as_run run ∷ []) within is own s.same
          (subst (λ l. SameRuns (l ++ as_run run ∷ [])
          ((as_runs s.made ++ as_run front ∷ []) ++ as_run run ∷ [])) (sym all)
          (same-refl ((as_runs s.made ++ as_run front ∷ []) ++ as_run run ∷ [])));
    }

-- all runs: none is held, or the one that is held is written too
pub prepared-none : (fields : List HidreportField) (i : ℕ) (old new : List HidreportRun) (done : ℕ)
    (told : HidreportAnswer) → length fields ≤ i → i ≤ length fields → told ≡ counted done
    → IsSoFar fields i None old new done → IsPrepared fields old new told
prepared-none fields i old new done told past most count s =
    prepared fields i s.made old new told past (count ∙ ap counted s.count) s.written
    (omega (arith, s.few, most))
    (subst (λ l. SameRuns l (runs_of_fields (take i fields))) (append-nil (as_runs s.made)) s.same)

pub prepared-last : (fields : List HidreportField) (i : ℕ) (run : HidreportRun)
    (old mid new : List HidreportRun) (done : ℕ) (told : HidreportAnswer) → length fields ≤ i
    → i ≤ length fields → told ≡ counted (done + 1)
    → (s : IsSoFar fields i (Some run) old mid done) → new ≡ array_after (s.made ++ run ∷ []) old
    → IsPrepared fields old new told
prepared-last fields i run old mid new done told past most count s written =
    let size = length-append s.made (run ∷ []) in
    let next : done + 1 ≡ length (s.made ++ run ∷ []) = omega (arith, s.count, size) in
    prepared fields i (s.made ++ run ∷ []) old new told past (count ∙ ap counted next) written
    (omega (arith, s.few, most, size))
    (subst (λ l. SameRuns l (runs_of_fields (take i fields)))
    (sym (map-append as_run s.made (run ∷ []))) s.same)

-- a run in its place behind others, if there is room for it
pub put-there : (made old now : List HidreportRun) (place : ℕ) (run : HidreportRun)
    → place ≡ length made → now ≡ array_after made old → place < length now
    → slice_set now place run ≡ array_after (made ++ run ∷ []) old
put-there made old now place run at is within =
    let size : length now ≡ length old = ap length is ∙ written-length made old in
    ap (λ n. slice_set now n run) at ∙ ap (λ l. slice_set l (length made) run) is
    ∙ written-next made old run (omega (arith, at, size, within))
