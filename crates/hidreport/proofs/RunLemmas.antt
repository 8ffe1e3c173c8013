-- Runs of values stand for the fields that they were made of.
use Rattle.std.proofs.Common.{◌≡◌, ℕ, ◌+◌, ◌-◌, ◌*◌, ◌<◌, Bool, true, false, cond}
use Rattle.std.proofs.Common.{nat_le, List, [], ◌∷◌, ◌++◌, Result, Ok, Err}
use Rattle.std.proofs.Common.{refl, sym, ap, ◌∙◌, arith, ℤ, append-nil, append_assoc}
use Rattle.std.specs.Prelude.{sum_by}
use Rattle.std.proofs.lemmas.Bool.Decides.{nat_tests}
use Rattle.std.proofs.lemmas.Grind.{common_steps, flat_map-append}
use Rattle.std.proofs.lemmas.List.Sums.{sum_by-append}
use Rattle.std.specs.List.{list_any}
use Rattle.hidreport_lists.specs.Answer.{Refusal, MismatchingReportId}
use Rattle.hidreport.specs.Reader.{available_numbers, before_numbers, begins_otherwise, each_alone}
use Rattle.hidreport.specs.Reader.{numbers_before, report_numbers, value_alone, values_alone}
use Rattle.hidreport_fields.specs.Reading.{ValueRecord, before_values, one_value, read_bits}
use Rattle.hidreport_fields.specs.Reading.{with_id, is_signed}
use Rattle.hidreport_fields.specs.Records.{FieldRecord, VariableRecord, ArrayRecord, ConstantRecord}
use Rattle.hidreport_fields.specs.Records.{own_id}
use Rattle.hidreport.specs.Runs.{RunRecord, count_in}
use Rattle.hidreport.specs.Runs.{run_of, run_reads, run_value, runs_of}
use Rattle.hidreport.specs.Runs.{StandFor, runs_alone, runs_available, runs_read}
use Rattle.hidreport_fields.specs.WritingLaws.{numbers_of, reads_numbers}
use Rattle.hidreport_fields.specs.WritingValues.{value_count}
use Rattle.hidreport.proofs.RunWriteLemmas.{runs-write}

-- nothing behind
pub before-none : (a : Result (List ℤ) Refusal) → before_numbers a (Ok []) ≡ a
before-none (Err e) = refl
before-none (Ok xs) = ap (λ (l : List ℤ). Ok l) (append-nil xs)

pub before-assoc : (a b c : Result (List ℤ) Refusal)
    → before_numbers (before_numbers a b) c ≡ before_numbers a (before_numbers b c)
before-assoc (Err e) b c = refl
before-assoc (Ok xs) (Err e) c = refl
before-assoc (Ok xs) (Ok ys) (Err e) = refl
before-assoc (Ok xs) (Ok ys) (Ok zs) = ap (λ (l : List ℤ). Ok l) (append_assoc xs ys zs)

pub before-nothing : (a : Result (List ℤ) Refusal) → before_numbers (Ok []) a ≡ a
before-nothing (Err e) = refl
before-nothing (Ok xs) = refl

-- runs behind runs
pub runs-append : (xs ys : List RunRecord) (bytes : List ℕ)
    → runs_read (xs ++ ys) bytes ≡ before_numbers (runs_read xs bytes) (runs_read ys bytes)
runs-append [] ys bytes = sym (before-nothing (runs_read ys bytes))
runs-append (x ∷ xs) ys bytes =
    ap (before_numbers (run_reads x bytes)) (runs-append xs ys bytes)
    ∙ sym (before-assoc (run_reads x bytes) (runs_read xs bytes) (runs_read ys bytes))

-- a single value begins where its field does, and ends there
one-place : (first end : ℕ) (s : Bool) (bytes : List ℕ)
    → read_bits (first + (end - first) * 0) (first + (end - first) * 0 + (end - first)) s bytes
    ≡ read_bits first end s bytes
one-place first end s bytes =
    let none : first + (end - first) * 0 ≡ first = omega arith in
    ap (λ n. read_bits n (n + (end - first)) s bytes) none ∙ by (nat_le end first) refl where
      by : (t : Bool) → nat_le end first ≡ t
          → read_bits first (first + (end - first)) s bytes ≡ read_bits first end s bytes
      by true e =
          let a : nat_le (first + (end - first)) first ≡ true = grind (arith, nat_tests, e) in
          rw (a, e) refl
      by false e =
          let lt : first < end = grind (arith, nat_tests, e) in
          let a : first + (end - first) ≡ end = omega arith in
          ap (λ n. read_bits first n s bytes) a

one-value : (a : Result ValueRecord Refusal) → before_values a (Ok []) ≡ one_value a
one-value (Err e) = refl
one-value (Ok x) = refl

-- the run of a field reads what it does
run-field : (field : FieldRecord) (bytes : List ℕ)
    → runs_read (run_of field) bytes ≡ reads_numbers field bytes
run-field (VariableRecord place usage shared) bytes =
    before-none _ ∙ ap (λ a. numbers_of (with_id place.report_id bytes a))
    (one-value _ ∙ ap one_value (one-place place.first place.end (is_signed shared) bytes))
run-field (ArrayRecord place usages is_range count shared) bytes = before-none _
run-field (ConstantRecord place) bytes = refl

-- so do the runs of all fields
pub runs-fields : (fields : List FieldRecord) (bytes : List ℕ)
    → runs_read (runs_of fields) bytes ≡ report_numbers fields bytes
runs-fields [] bytes = refl
runs-fields (field ∷ fields) bytes =
    runs-append (run_of field) (runs_of fields) bytes
    ∙ ap (λ a. before_numbers a (runs_read (runs_of fields) bytes)) (run-field field bytes)
    ∙ ap (before_numbers (reads_numbers field bytes)) (runs-fields fields bytes)

-- and they have as many values
run-count : (field : FieldRecord) → count_in (run_of field) ≡ value_count field
run-count (VariableRecord place usage shared) = refl
run-count (ArrayRecord place usages is_range count shared) = grind (arith, common_steps)
run-count (ConstantRecord place) = refl

pub runs-count : (fields : List FieldRecord) → count_in (runs_of fields) ≡ sum_by value_count fields
runs-count [] = refl
runs-count (field ∷ fields) =
    let here = run-count field in
    let rest = runs-count fields in
    let parts : count_in (runs_of (field ∷ fields)) ≡ count_in (run_of field) + count_in (runs_of fields) =
    sum_by-append (λ (run : RunRecord). run.count) (run_of field) (runs_of fields) in
    parts ∙ ap (λ n. n + count_in (runs_of fields)) here
    ∙ ap (λ n. value_count field + n) rest ∙ sym (sum-cons value_count field fields) where
      sum-cons : (f : FieldRecord → ℕ) (x : FieldRecord) (xs : List FieldRecord)
          → sum_by f (x ∷ xs) ≡ f x + sum_by f xs
      sum-cons f x xs = grind (arith, common_steps)

-- values alone are those of the fields
alone-field : (field : FieldRecord) (bytes : List ℕ)
    → runs_alone (run_of field) bytes ≡ each_alone (value_alone field bytes) 0 (value_count field)
alone-field (VariableRecord place usage shared) bytes =
    ap (λ a. a ∷ []) (one-place place.first place.end (is_signed shared) bytes)
alone-field (ArrayRecord place usages is_range count shared) bytes = append-nil _
alone-field (ConstantRecord place) bytes = refl

runs-alone : (fields : List FieldRecord) (bytes : List ℕ)
    → runs_alone (runs_of fields) bytes ≡ values_alone fields bytes
runs-alone [] bytes = refl
runs-alone (field ∷ fields) bytes =
    flat_map-append (λ (run : RunRecord). each_alone (run_value run bytes) 0 run.count)
    (run_of field) (runs_of fields)
    ∙ ap (λ l. l ++ runs_alone (runs_of fields) bytes) (alone-field field bytes)
    ∙ ap (λ l. each_alone (value_alone field bytes) 0 (value_count field) ++ l)
    (runs-alone fields bytes)

-- so is the id that they are read by
abbrev another : List ℕ → RunRecord → Bool
another bytes run = begins_otherwise bytes run.id

runs-another : (fields : List FieldRecord) (bytes : List ℕ)
    → list_any (another bytes) (runs_of fields)
    ≡ list_any (λ field. begins_otherwise bytes (own_id field)) fields
runs-another [] bytes = refl
runs-another (VariableRecord place usage shared ∷ fields) bytes =
    let rest = runs-another fields bytes in grind (arith, common_steps, rest)
runs-another (ArrayRecord place usages is_range count shared ∷ fields) bytes =
    let rest = runs-another fields bytes in grind (arith, common_steps, rest)
runs-another (ConstantRecord place ∷ fields) bytes =
    let rest = runs-another fields bytes in grind (arith, common_steps, rest)

runs-has : (fields : List FieldRecord) (bytes : List ℕ)
    → runs_available (runs_of fields) bytes ≡ available_numbers fields bytes
runs-has fields bytes =
    ap (λ b. cond b (Err MismatchingReportId) (Ok (numbers_before (runs_alone (runs_of fields) bytes))))
    (runs-another fields bytes)
    ∙ ap (λ l. cond (list_any (λ field. begins_otherwise bytes (own_id field)) fields) (Err MismatchingReportId)
    (Ok (numbers_before l))) (runs-alone fields bytes)

-- so they stand for them
pub runs-stand : (fields : List FieldRecord) → StandFor fields (runs_of fields)
runs-stand fields = record {
  reads = runs-fields fields;
  has = runs-has fields;
  count = runs-count fields;
  writes = λ numbers bytes are.
      runs-write fields (report_numbers fields bytes) numbers bytes are (runs-count fields)
      (runs-fields fields bytes);
}
