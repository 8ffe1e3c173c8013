-- Runs that read and write the same, and others behind them.
use Rattle.std.proofs.Common.{◌≡◌, ℕ, ◌+◌, ◌&&◌, ◌||◌, ◌==◌, Bool, true, false, cond, List, [], ◌∷◌, ◌++◌}
use Rattle.std.proofs.Common.{length, take, drop, get_or, map, Result, Ok, Err, refl, sym, ap, subst}
use Rattle.std.proofs.Common.{◌∙◌, ◌<◌, IfOk, arith, ℤ, append-nil}
use Rattle.std.specs.List.{list_all, list_any}
use Rattle.std.proofs.lemmas.Grind.{common_steps, flat_map-append}
use Rattle.std.proofs.lemmas.List.{drop-drop, map-append}
use Rattle.std.proofs.lemmas.List.Folds.{list_any-append}
use Rattle.std.proofs.lemmas.List.Sums.{sum_by-append, sum_by-cons}
use Rattle.hidreport_items.specs.Spelling.{AreBytes}
use Rattle.hidreport_lists.specs.Answer.{MismatchingReportId, Refusal}
use Rattle.hidreport_fields.specs.Reading.{ValueRecord}
use Rattle.hidreport.specs.Reader.{before_numbers, each_alone, numbers_before}
use Rattle.hidreport_fields.specs.Records.{FieldRecord}
use Rattle.hidreport.specs.Runs.{RunRecord, StandFor, count_in, run_in_id, run_reads, run_value}
use Rattle.hidreport.specs.Runs.{run_of, runs_alone, runs_fit, runs_of, runs_placed, runs_put}
use Rattle.hidreport.specs.Runs.{runs_read}
use Rattle.hidreport.specs.SameRuns.{SameRuns, of_another}
use Rattle.hidreport_fields.specs.WritingValues.{fits, put, where_read}
use Rattle.hidreport_fields.specs.declared.field.insert_error.InsertError.TheVariants as refused
use Rattle.hidreport.proofs.RunLemmas.{runs-append, runs-stand}
use Rattle.hidreport.proofs.WholeLemmas.{put-are}

pub same-refl : (xs : List RunRecord) → SameRuns xs xs
same-refl xs = record {
  reads = λ bytes. refl;
  alone = λ bytes. refl;
  ids = λ bytes. refl;
  count = refl;
  in_id = refl;
  fits = λ numbers. refl;
  puts = λ numbers bytes are. refl;
}

pub same-then : (xs ys zs : List RunRecord) → SameRuns xs ys → SameRuns ys zs → SameRuns xs zs
same-then xs ys zs a b = record {
  reads = λ bytes. a.reads bytes ∙ b.reads bytes;
  alone = λ bytes. a.alone bytes ∙ b.alone bytes;
  ids = λ bytes. a.ids bytes ∙ b.ids bytes;
  count = a.count ∙ b.count;
  in_id = a.in_id ∙ b.in_id;
  fits = λ numbers. a.fits numbers ∙ b.fits numbers;
  puts = λ numbers bytes are. a.puts numbers bytes are ∙ b.puts numbers bytes are;
}

-- runs behind runs
fits-append : (xs ys : List RunRecord) (numbers : List ℤ)
    → runs_fit (xs ++ ys) numbers ≡ (runs_fit xs numbers && runs_fit ys (drop (count_in xs) numbers))
fits-append [] ys numbers = refl
fits-append (x ∷ xs) ys numbers =
    let hold = list_all (fits x.width x.is_signed) (take x.count numbers) in
    let behind = drop-drop (count_in xs) x.count numbers
    ∙ ap (λ n. drop n numbers) (sym (sum_by-cons (λ (run : RunRecord). run.count) x xs)) in
    ap (λ b. hold && b) (fits-append xs ys (drop x.count numbers))
    ∙ ap (λ l. hold && (runs_fit xs (drop x.count numbers) && runs_fit ys l)) behind
    ∙ and-assoc hold (runs_fit xs (drop x.count numbers))
    (runs_fit ys (drop (count_in (x ∷ xs)) numbers)) where
      and-assoc : (a b c : Bool) → (a && (b && c)) ≡ ((a && b) && c)
      and-assoc true b c = refl
      and-assoc false b c = refl

puts-append : (xs ys : List RunRecord) (numbers : List ℤ) (bytes : List ℕ)
    → runs_put (xs ++ ys) numbers bytes
    ≡ runs_put ys (drop (count_in xs) numbers) (runs_put xs numbers bytes)
puts-append [] ys numbers bytes = refl
puts-append (x ∷ xs) ys numbers bytes =
    let mid = put x.first x.width (take x.count numbers) bytes in
    let behind = drop-drop (count_in xs) x.count numbers
    ∙ ap (λ n. drop n numbers) (sym (sum_by-cons (λ (run : RunRecord). run.count) x xs)) in
    puts-append xs ys (drop x.count numbers) mid
    ∙ ap (λ l. runs_put ys l (runs_put xs (drop x.count numbers) mid)) behind

pub same-before : (xs ys zs : List RunRecord) → SameRuns xs ys → SameRuns (xs ++ zs) (ys ++ zs)
same-before xs ys zs s = record {
  reads = λ bytes. runs-append xs zs bytes
      ∙ ap (λ a. before_numbers a (runs_read zs bytes)) (s.reads bytes)
      ∙ sym (runs-append ys zs bytes);
  alone = λ bytes. flat_map-append (each bytes) xs zs
      ∙ ap (λ l. l ++ runs_alone zs bytes) (s.alone bytes) ∙ sym (flat_map-append (each bytes) ys zs);
  ids = λ bytes. list_any-append (of_another bytes) xs zs
      ∙ ap (λ b. b || list_any (of_another bytes) zs) (s.ids bytes)
      ∙ sym (list_any-append (of_another bytes) ys zs);
  count = sum_by-append counted xs zs ∙ ap (λ n. n + count_in zs) s.count
      ∙ sym (sum_by-append counted ys zs);
  in_id = list_any-append run_in_id xs zs ∙ ap (λ b. b || list_any run_in_id zs) s.in_id
      ∙ sym (list_any-append run_in_id ys zs);
  fits = λ numbers. fits-append xs zs numbers
      ∙ ap (λ b. b && runs_fit zs (drop (count_in xs) numbers)) (s.fits numbers)
      ∙ ap (λ n. runs_fit ys numbers && runs_fit zs (drop n numbers)) s.count
      ∙ sym (fits-append ys zs numbers);
  puts = λ numbers bytes are. puts-append xs zs numbers bytes
      ∙ ap (runs_put zs (drop (count_in xs) numbers)) (s.puts numbers bytes are)
      ∙ ap (λ n. runs_put zs (drop n numbers) (runs_put ys numbers bytes)) s.count
      ∙ sym (puts-append ys zs numbers bytes);
} where
  counted : RunRecord → ℕ
  counted run = run.count

  each : List ℕ → RunRecord → List (Result ValueRecord Refusal)
  each bytes run = each_alone (run_value run bytes) 0 run.count

pub same-cons : (z : RunRecord) (xs ys : List RunRecord) → SameRuns xs ys → SameRuns (z ∷ xs) (z ∷ ys)
same-cons z xs ys s = record {
  reads = λ bytes. ap (before_numbers (run_reads z bytes)) (s.reads bytes);
  alone = λ bytes. ap (λ l. each_alone (run_value z bytes) 0 z.count ++ l) (s.alone bytes);
  ids = λ bytes. ap (λ b. of_another bytes z || b) (s.ids bytes);
  count = sum_by-cons (λ (run : RunRecord). run.count) z xs ∙ ap (λ n. z.count + n) s.count
      ∙ sym (sum_by-cons (λ (run : RunRecord). run.count) z ys);
  in_id = ap (λ b. run_in_id z || b) s.in_id;
  fits = λ numbers. ap (λ b. list_all (fits z.width z.is_signed) (take z.count numbers) && b)
      (s.fits (drop z.count numbers));
  puts = λ numbers bytes are. s.puts (drop z.count numbers)
      (put z.first z.width (take z.count numbers) bytes)
      (put-are z.first z.width (take z.count numbers) bytes);
}

pub same-behind : (zs xs ys : List RunRecord) → SameRuns xs ys → SameRuns (zs ++ xs) (zs ++ ys)
same-behind [] xs ys s = s
same-behind (z ∷ zs) xs ys s = same-cons z (zs ++ xs) (zs ++ ys) (same-behind zs xs ys s)

-- what is the same as the runs of fields stands for them
placed-same : (xs ys : List RunRecord) (numbers : List ℤ) (bytes : List ℕ) → AreBytes bytes
    → SameRuns xs ys → runs_placed xs numbers bytes ≡ runs_placed ys numbers bytes
placed-same xs ys numbers bytes are s =
    ap (λ b. cond b (Err refused.OutOfBounds) (cond (runs_fit xs numbers)
    (Ok (runs_put xs numbers bytes)) (Err refused.DoesNotFit))) s.in_id
    ∙ ap (λ b. cond (list_any run_in_id ys) (Err refused.OutOfBounds)
    (cond b (Ok (runs_put xs numbers bytes)) (Err refused.DoesNotFit))) (s.fits numbers)
    ∙ ap (λ l. cond (list_any run_in_id ys) (Err refused.OutOfBounds)
    (cond (runs_fit ys numbers) (Ok l) (Err refused.DoesNotFit))) (s.puts numbers bytes are)

pub same-stand : (fields : List FieldRecord) (runs : List RunRecord) → SameRuns runs (runs_of fields)
    → StandFor fields runs
same-stand fields runs s =
    let own = runs_of fields in
    let stand = runs-stand fields in record {
      reads = λ bytes. s.reads bytes ∙ stand.reads bytes;
      has = λ bytes.
          ap (λ b. cond b (Err MismatchingReportId) (Ok (numbers_before (runs_alone runs bytes)))) (s.ids bytes)
          ∙ ap (λ l. cond (list_any (of_another bytes) own) (Err MismatchingReportId) (Ok (numbers_before l)))
          (s.alone bytes) ∙ stand.has bytes;
      count = s.count ∙ stand.count;
      writes = λ numbers bytes are.
          ap (λ n. cond (length numbers == n) (where_read (runs_read runs bytes)
          (runs_placed runs numbers bytes)) (Err refused.WrongCount)) s.count
          ∙ ap (λ r. cond (length numbers == count_in own) (where_read r
          (runs_placed runs numbers bytes)) (Err refused.WrongCount)) (s.reads bytes)
          ∙ ap (λ p. cond (length numbers == count_in own) (where_read (runs_read own bytes) p)
          (Err refused.WrongCount)) (placed-same runs own numbers bytes are s)
          ∙ stand.writes numbers bytes are;
    }

-- the runs of one field more
runs-next : {X : Type 0} (h : X → FieldRecord) (xs : List X) (i : ℕ) (x : X) → i < length xs
    → x ≡ get_or xs i x
    → runs_of (map h (take (i + 1) xs)) ≡ runs_of (map h (take i xs)) ++ run_of (h x)
runs-next h xs i x lt e =
    let next : take (i + 1) xs ≡ take i xs ++ x ∷ [] = grind (arith, common_steps) in
    ap (λ l. runs_of (map h l)) next
    ∙ ap runs_of (map-append h (take i xs) (x ∷ []))
    ∙ flat_map-append run_of (map h (take i xs)) (h x ∷ [])
    ∙ ap (λ l. runs_of (map h (take i xs)) ++ l) (append-nil (run_of (h x)))

pub same-next : {X : Type 0} (h : X → FieldRecord) (xs : List X) (i : ℕ) (x : X)
    (old new : List RunRecord) (run : RunRecord) → i < length xs → x ≡ get_or xs i x
    → SameRuns old (runs_of (map h (take i xs))) → SameRuns new (old ++ run ∷ [])
    → run_of (h x) ≡ run ∷ [] → SameRuns new (runs_of (map h (take (i + 1) xs)))
same-next h xs i x old new run lt e so_far more is =
    let own = runs_of (map h (take i xs)) in
    subst (SameRuns new) (sym (runs-next h xs i x lt e ∙ ap (λ l. own ++ l) is))
    (same-then new (old ++ run ∷ []) (own ++ run ∷ []) more (same-before old own (run ∷ []) so_far))

pub same-padding : {X : Type 0} (h : X → FieldRecord) (xs : List X) (i : ℕ) (x : X)
    (runs : List RunRecord) → i < length xs → x ≡ get_or xs i x
    → SameRuns runs (runs_of (map h (take i xs))) → run_of (h x) ≡ []
    → SameRuns runs (runs_of (map h (take (i + 1) xs)))
same-padding h xs i x runs lt e so_far none =
    let own = runs_of (map h (take i xs)) in
    subst (SameRuns runs) (sym (runs-next h xs i x lt e ∙ ap (λ l. own ++ l) none ∙ append-nil own)) so_far

-- what holds of one that is made holds of a result that is this where there is one
pub if-is : {A E : Type 0} (P : A → Type 0) (r : Result A E) (x : A) → IfOk r (λ y. y ≡ x) → P x
    → IfOk r P
if-is P (Ok y) x same holds = subst P (sym same) holds
if-is P (Err e) x same holds = tt
