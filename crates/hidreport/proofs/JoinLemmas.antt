-- Two runs side by side are one.
use Rattle.std.proofs.Common.{◌≡◌, ℕ, zero, suc, ◌+◌, ◌*◌, ◌<◌, ◌≤◌, ◌||◌, ◌&&◌, ◌==◌, Bool, true, false}
use Rattle.std.proofs.Common.{cond, nat_lt, nat_le, List, [], ◌∷◌, ◌++◌, length, take, drop, get_or, map}
use Rattle.std.proofs.Common.{Option, None, Some, Result, Ok, Err, refl, sym, ap, subst, ◌∙◌, arith, ℤ}
use Rattle.std.proofs.Common.{append-nil, append_assoc}
use Rattle.std.specs.List.{list_all}
use Rattle.std.proofs.Math.Seq.{take-add}
use Rattle.std.proofs.lemmas.Bool.Decides.{nat_tests}
use Rattle.std.proofs.lemmas.Grind.{common_steps}
use Rattle.std.proofs.lemmas.List.{length-take-le}
use Rattle.std.proofs.lemmas.List.Folds.{list_all-append}
use Rattle.hidreport_lists.specs.Answer.{MismatchingReportId, Refusal}
use Rattle.hidreport_fields.specs.Choosing.{value_number}
use Rattle.hidreport.specs.Reader.{before_numbers, begins_otherwise, each_alone}
use Rattle.hidreport_fields.specs.Reading.{ValueRecord, before_values, each_value, read_bits, with_id}
use Rattle.hidreport.specs.Runs.{Joins, RunRecord, place_in, run_reads, run_value}
use Rattle.hidreport.specs.SameRuns.{SameRuns}
use Rattle.hidreport_fields.specs.WritingLaws.{numbers_of}
use Rattle.hidreport_fields.specs.WritingValues.{begins_in_id, fits, put}
use Rattle.hidreport_fields.proofs.PutValuesLemmas.{put-more, put-none}
use Rattle.hidreport.proofs.RunLemmas.{before-none, before-nothing}
use Rattle.hidreport.proofs.SameRunsLemmas.{same-behind}
use Rattle.hidreport.proofs.WholeLemmas.{put-are}

-- numbers that are read in two parts
join-head : (a : Result ValueRecord Refusal) (b c : Result (List ValueRecord) Refusal)
    (d : Result (List ℤ) Refusal) → numbers_of b ≡ before_numbers (numbers_of c) d
    → numbers_of (before_values a b) ≡ before_numbers (numbers_of (before_values a c)) d
join-head (Err e) b c d h = refl
join-head (Ok x) (Err e) (Err f) d h = h
join-head (Ok x) (Err e) (Ok ys) (Err f) h = h
join-head (Ok x) (Err e) (Ok ys) (Ok zs) h = cc
join-head (Ok x) (Ok xs) (Err f) d h = cc
join-head (Ok x) (Ok xs) (Ok ys) (Err f) h = cc
join-head (Ok x) (Ok xs) (Ok ys) (Ok zs) h =
    let same : map value_number xs ≡ map value_number ys ++ zs = cc in
    ap (λ l. Ok (value_number x ∷ l)) same

each-parts : (f : ℕ → Result ValueRecord Refusal) (index n m : ℕ)
    → numbers_of (each_value f index (n + m))
    ≡ before_numbers (numbers_of (each_value f index n)) (numbers_of (each_value f (index + n) m))
each-parts f index zero m =
    let none : 0 + m ≡ m = omega arith in
    let here : index + 0 ≡ index = omega arith in
    ap (λ k. numbers_of (each_value f index k)) none
    ∙ sym (ap (λ k. before_numbers (Ok []) (numbers_of (each_value f k m))) here
    ∙ before-nothing (numbers_of (each_value f index m)))
each-parts f index (suc n) m =
    let size : suc n + m ≡ suc (n + m) = omega arith in
    let next : index + 1 + n ≡ index + suc n = omega arith in
    ap (λ k. numbers_of (each_value f index k)) size
    ∙ join-head (f index) (each_value f (index + 1) (n + m)) (each_value f (index + 1) n)
    (numbers_of (each_value f (index + 1 + n) m)) (each-parts f (index + 1) n m)
    ∙ ap (λ k. before_numbers (numbers_of (each_value f index (suc n)))
    (numbers_of (each_value f k m))) next

with-parts : (id : Option ℕ) (bytes : List ℕ) (a b c : Result (List ValueRecord) Refusal)
    → numbers_of a ≡ before_numbers (numbers_of b) (numbers_of c)
    → numbers_of (with_id id bytes a)
    ≡ before_numbers (numbers_of (with_id id bytes b)) (numbers_of (with_id id bytes c))
with-parts None bytes a b c h = h
with-parts (Some id) [] a b c h = refl
with-parts (Some id) (byte ∷ bytes) a b c h = by (byte == id) where
  by : (t : Bool) → numbers_of (cond t a (Err MismatchingReportId))
      ≡ before_numbers (numbers_of (cond t b (Err MismatchingReportId))) (numbers_of (cond t c (Err MismatchingReportId)))
  by true = h
  by false = refl

-- reading from a later index on
each-shifted : (f g : ℕ → Result ValueRecord Refusal) (s : ℕ) → ((k : ℕ) → f (s + k) ≡ g k)
    → (index n : ℕ) → each_value f (s + index) n ≡ each_value g index n
each-shifted f g s same index zero = refl
each-shifted f g s same index (suc n) =
    let next : s + index + 1 ≡ s + (index + 1) = omega arith in
    ap (λ a. before_values a (each_value f (s + index + 1) n)) (same index)
    ∙ ap (λ k. before_values (g index) (each_value f k n)) next
    ∙ ap (before_values (g index)) (each-shifted f g s same (index + 1) n)

alone-shifted : (f g : ℕ → Result ValueRecord Refusal) (s : ℕ) → ((k : ℕ) → f (s + k) ≡ g k)
    → (index n : ℕ) → each_alone f (s + index) n ≡ each_alone g index n
alone-shifted f g s same index zero = refl
alone-shifted f g s same index (suc n) =
    let next : s + index + 1 ≡ s + (index + 1) = omega arith in
    ap (λ a. a ∷ each_alone f (s + index + 1) n) (same index)
    ∙ ap (λ k. g index ∷ each_alone f k n) next
    ∙ ap (λ l. g index ∷ l) (alone-shifted f g s same (index + 1) n)

alone-parts : (f : ℕ → Result ValueRecord Refusal) (index n m : ℕ)
    → each_alone f index (n + m) ≡ each_alone f index n ++ each_alone f (index + n) m
alone-parts f index zero m =
    let none : 0 + m ≡ m = omega arith in
    let here : index + 0 ≡ index = omega arith in
    ap (each_alone f index) none ∙ sym (ap (λ k. each_alone f k m) here)
alone-parts f index (suc n) m =
    let size : suc n + m ≡ suc (n + m) = omega arith in
    let next : index + 1 + n ≡ index + suc n = omega arith in
    ap (each_alone f index) size ∙ ap (λ l. f index ∷ l) (alone-parts f (index + 1) n m
    ∙ ap (λ k. each_alone f (index + 1) n ++ each_alone f k m) next)

-- numbers that are put in two parts
put-one-more : (first w : ℕ) (xs : List ℤ) (y : ℤ) (bytes : List ℕ)
    → put first w (xs ++ y ∷ []) bytes
    ≡ put (first + w * length xs) w (y ∷ []) (put first w xs bytes)
put-one-more first w xs y bytes =
    let all = xs ++ y ∷ [] in
    let front : take (length xs) all ≡ xs = grind (arith, common_steps) in
    let whole : take (length xs + 1) all ≡ all = grind (arith, common_steps) in
    let lt : length xs < length all = grind (arith, common_steps) in
    let at : y ≡ get_or all (length xs) y = grind (arith, common_steps) in
    sym (ap (λ l. put (first + w * length xs) w (y ∷ []) (put first w l bytes)) (sym front)
    ∙ put-more first w all bytes (length xs) y lt at ∙ ap (λ l. put first w l bytes) whole)

put-parts : (first w : ℕ) (xs ys : List ℤ) (bytes : List ℕ)
    → put first w (xs ++ ys) bytes ≡ put (first + w * length xs) w ys (put first w xs bytes)
put-parts first w xs [] bytes =
    ap (λ l. put first w l bytes) (append-nil xs)
    ∙ sym (put-none (first + w * length xs) w (put first w xs bytes) (put-are first w xs bytes))
put-parts first w xs (y ∷ ys) bytes =
    let mid = put first w xs bytes in
    let from = first + w * length xs in
    let count : length (xs ++ y ∷ []) ≡ length xs + 1 = grind (arith, common_steps) in
    let place : first + w * (length xs + 1) ≡ from + w * 1 = omega arith in
    ap (λ l. put first w l bytes) (sym (append_assoc xs (y ∷ []) ys))
    ∙ put-parts first w (xs ++ y ∷ []) ys bytes
    ∙ ap (λ n. put (first + w * n) w ys (put first w (xs ++ y ∷ []) bytes)) count
    ∙ ap (λ n. put n w ys (put first w (xs ++ y ∷ []) bytes)) place
    ∙ ap (put (from + w * 1) w ys) (put-one-more first w xs y bytes)
    ∙ sym (put-parts from w (y ∷ []) ys mid)

-- also where there are fewer numbers
put-taken-parts : (first w c n : ℕ) (numbers : List ℤ) (bytes : List ℕ)
    → put first w (take (c + n) numbers) bytes
    ≡ put (first + w * c) w (take n (drop c numbers)) (put first w (take c numbers) bytes)
put-taken-parts first w c n numbers bytes = by (nat_le c (length numbers)) refl where
  by : (t : Bool) → nat_le c (length numbers) ≡ t
      → put first w (take (c + n) numbers) bytes
      ≡ put (first + w * c) w (take n (drop c numbers)) (put first w (take c numbers) bytes)
  by true e =
      let le : c ≤ length numbers = grind (arith, nat_tests) in
      let size = length-take-le c numbers le in
      ap (λ l. put first w l bytes) (take-add c n numbers)
      ∙ put-parts first w (take c numbers) (take n (drop c numbers)) bytes
      ∙ ap (λ k. put (first + w * k) w (take n (drop c numbers)) (put first w (take c numbers) bytes)) size
  by false e =
      let few : length numbers < c = grind (arith, nat_tests) in
      let all : take (c + n) numbers ≡ take c numbers = grind (arith, common_steps) in
      let none : take n (drop c numbers) ≡ [] = grind (arith, common_steps) in
      ap (λ l. put first w l bytes) all
      ∙ sym (ap (λ l. put (first + w * c) w l (put first w (take c numbers) bytes)) none
      ∙ put-none (first + w * c) w (put first w (take c numbers) bytes)
      (put-are first w (take c numbers) bytes))

-- a run that goes on where another ends, and both in one
abbrev later : RunRecord → ℕ → RunRecord
later run n = record {
  id = run.id;
  first = place_in run run.count;
  width = run.width;
  count = n;
  is_signed = run.is_signed;
}

abbrev longer : RunRecord → ℕ → RunRecord
longer run n = record {
  id = run.id;
  first = run.first;
  width = run.width;
  count = run.count + n;
  is_signed = run.is_signed;
}

value-later : (run : RunRecord) (bytes : List ℕ) (n k : ℕ)
    → run_value run bytes (run.count + k) ≡ run_value (later run n) bytes k
value-later run bytes n k =
    let at : run.first + run.width * (run.count + k)
    ≡ run.first + run.width * run.count + run.width * k = omega arith in
    ap (λ p. read_bits p (p + run.width) run.is_signed bytes) at

or-again : (b : Bool) → (b || false) ≡ (b || (b || false))
or-again true = refl
or-again false = refl

starts-again : (id : Option ℕ) (first behind : ℕ) → first ≤ behind
    → (begins_in_id id first || false)
    ≡ (begins_in_id id first || (begins_in_id id behind || false))
starts-again None first behind le = refl
starts-again (Some id) first behind le = by (nat_lt first 8) refl where
  by : (t : Bool) → nat_lt first 8 ≡ t
      → (nat_lt first 8 || false) ≡ (nat_lt first 8 || (nat_lt behind 8 || false))
  by true e = rw (e) refl
  by false e =
      let past : nat_lt behind 8 ≡ false = grind (arith, nat_tests) in rw (e, past) refl

and-parts : (a b : Bool) → ((a && b) && true) ≡ (a && (b && true))
and-parts true b = refl
and-parts false b = refl

longer-same : (run : RunRecord) (n : ℕ) → SameRuns (longer run n ∷ []) (run ∷ later run n ∷ [])
longer-same run n = record {
  reads = λ bytes.
      let shift : 0 + run.count ≡ run.count + 0 = omega arith in
      let parts = each-parts (run_value run bytes) 0 run.count n
      ∙ ap (λ k. before_numbers (numbers_of (each_value (run_value run bytes) 0 run.count))
      (numbers_of (each_value (run_value run bytes) k n))) shift
      ∙ ap (λ r. before_numbers (numbers_of (each_value (run_value run bytes) 0 run.count))
      (numbers_of r)) (each-shifted (run_value run bytes) (run_value (later run n) bytes) run.count
      (value-later run bytes n) 0 n) in
      before-none (run_reads (longer run n) bytes)
      ∙ with-parts run.id bytes (each_value (run_value run bytes) 0 (run.count + n))
      (each_value (run_value run bytes) 0 run.count)
      (each_value (run_value (later run n) bytes) 0 n) parts
      ∙ ap (before_numbers (run_reads run bytes)) (sym (before-none (run_reads (later run n) bytes)));
  alone = λ bytes.
      let shift : 0 + run.count ≡ run.count + 0 = omega arith in
      let front = each_alone (run_value run bytes) 0 run.count in
      append-nil (each_alone (run_value run bytes) 0 (run.count + n))
      ∙ alone-parts (run_value run bytes) 0 run.count n
      ∙ ap (λ k. front ++ each_alone (run_value run bytes) k n) shift
      ∙ ap (λ l. front ++ l) (alone-shifted (run_value run bytes) (run_value (later run n) bytes)
      run.count (value-later run bytes n) 0 n)
      ∙ ap (λ l. front ++ l) (sym (append-nil (each_alone (run_value (later run n) bytes) 0 n)));
  ids = λ bytes. or-again (begins_otherwise bytes run.id);
  count = grind (arith, common_steps);
  in_id = starts-again run.id run.first (place_in run run.count) (omega arith);
  fits = λ numbers.
      let p = fits run.width run.is_signed in
      ap (λ l. list_all p l && true) (take-add run.count n numbers)
      ∙ ap (λ b. b && true) (list_all-append p (take run.count numbers) (take n (drop run.count numbers)))
      ∙ and-parts (list_all p (take run.count numbers))
      (list_all p (take n (drop run.count numbers)));
  puts = λ numbers bytes are.
      put-taken-parts run.first run.width run.count n numbers bytes;
}

abbrev pub run_by : Option ℕ → ℕ → ℕ → ℕ → Bool → RunRecord
run_by id first width count is_signed = record {
  id = id;
  first = first;
  width = width;
  count = count;
  is_signed = is_signed;
}

-- the runs by what joins them
back-is : (front back run : RunRecord) → Joins front back run → back ≡ later front back.count
back-is front back run j =
    ap (λ (i : Option ℕ). run_by i back.first back.width back.count back.is_signed) j.id
    ∙ ap (λ (p : ℕ). run_by front.id p back.width back.count back.is_signed) j.first
    ∙ ap (λ (w : ℕ). run_by front.id (place_in front front.count) w back.count back.is_signed)
    j.width
    ∙ ap (λ (s : Bool). run_by front.id (place_in front front.count) front.width back.count s)
    j.is_signed

pub joined-same : (front back run : RunRecord) → Joins front back run
    → SameRuns (run ∷ []) (front ∷ back ∷ [])
joined-same front back run j =
    subst (λ (x : RunRecord). SameRuns (x ∷ []) (front ∷ back ∷ [])) (sym j.is)
    (subst (λ (y : RunRecord). SameRuns (longer front back.count ∷ []) (front ∷ y ∷ []))
    (sym (back-is front back run j)) (longer-same front back.count))

-- a run behind others that is joined with the last of them
pub joined-behind : (front new old : List RunRecord) (last run joined : RunRecord)
    → old ≡ front ++ last ∷ [] → new ≡ front ++ joined ∷ [] → Joins last run joined
    → SameRuns new (old ++ run ∷ [])
joined-behind front new old last run joined is made j =
    let behind : old ++ run ∷ [] ≡ front ++ last ∷ run ∷ [] =
    ap (λ l. l ++ run ∷ []) is ∙ append_assoc front (last ∷ []) (run ∷ []) in
    subst (λ l. SameRuns l (old ++ run ∷ [])) (sym made)
    (subst (λ l. SameRuns (front ++ joined ∷ []) l) (sym behind)
    (same-behind front (joined ∷ []) (last ∷ run ∷ []) (joined-same last run joined j)))
