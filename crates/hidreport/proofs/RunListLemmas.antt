-- Runs gone over one by one.
use Rattle.std.proofs.Common.{◌≡◌, ◌⊎◌, inl, inr, ℕ, ◌+◌, ◌*◌, ◌<◌, ◌≤◌, true, List, []}
use Rattle.std.proofs.Common.{◌∷◌, ◌++◌, length, take, drop, get_or, Option, None, Ok}
use Rattle.std.proofs.Common.{◌||◌, ◌&&◌, ◌==◌, nat_lt, nat_le, refl, sym, ap, subst, ◌∙◌, arith, ℤ}
use Rattle.std.proofs.lemmas.Bool.Decides.{nat_tests}
use Rattle.std.proofs.lemmas.Grind.{common_steps, flat_map-append}
use Rattle.std.proofs.lemmas.List.Sums.{sum_by-append, sum_by-take-le}
use Rattle.hidreport_lists.specs.Answer.{Refuses}
use Rattle.hidreport_lists.specs.declared.error.ParserError.{ParserError}
use Rattle.hidreport.specs.Reader.{each_alone, filled, numbers_before}
use Rattle.hidreport_fields.specs.Reading.{with_id}
use Rattle.hidreport.specs.Runs.{HasAllValues, IsPlain, RunRecord, all_numbers, count_in, is_inside}
use Rattle.hidreport.specs.Runs.{numbers_from, place_in, run_reads, run_value, runs_alone, runs_read}
use Rattle.hidreport.specs.Runs.{set_from}
use Rattle.hidreport_fields.specs.Tiling.{Each}
use Rattle.std.proofs.lemmas.List.{length-append, take-append-drop}
use Rattle.hidreport.proofs.AvailableLemmas.{before-part, before-whole, length-alone}
use Rattle.hidreport.proofs.FilledLemmas.{filled-more}
use Rattle.hidreport.proofs.RunReadLemmas.{carries, first-refuses, length-all}

-- one more at the end
each-next : (P : RunRecord → Type 0) (xs : List RunRecord) (x : RunRecord) → Each P xs → P x
    → Each P (xs ++ x ∷ [])
each-next P [] x each here = (here, tt)
each-next P (y ∷ xs) x each here = (each.0, each-next P xs x each.1 here)

each-map : (P Q : RunRecord → Type 0) → ((x : RunRecord) → P x → Q x) → (xs : List RunRecord)
    → Each P xs → Each Q xs
each-map P Q f [] each = tt
each-map P Q f (x ∷ xs) each = (f x each.0, each-map P Q f xs each.1)

-- those up to an index, and the one there
taken-next : (xs : List RunRecord) (i : ℕ) (x : RunRecord) → i < length xs → x ≡ get_or xs i x
    → take (i + 1) xs ≡ take i xs ++ x ∷ []
taken-next xs i x lt e = grind (arith, common_steps)

split-there : (xs : List RunRecord) (i : ℕ) (x : RunRecord) → i < length xs → x ≡ get_or xs i x
    → take i xs ++ x ∷ drop (i + 1) xs ≡ xs
split-there xs i x lt e = grind (arith, common_steps)

pub each-taken : (P : RunRecord → Type 0) (xs : List RunRecord) (i : ℕ) (x : RunRecord)
    → i < length xs → x ≡ get_or xs i x → Each P (take i xs) → P x → Each P (take (i + 1) xs)
each-taken P xs i x lt e each here =
    subst (Each P) (sym (taken-next xs i x lt e)) (each-next P (take i xs) x each here)

-- a refusal behind runs that don't refuse
pub refused-there : (xs : List RunRecord) (i : ℕ) (x : RunRecord) (bytes : List ℕ)
    (e : ParserError) → i < length xs → x ≡ get_or xs i x → Each (HasAllValues bytes) (take i xs)
    → Refuses e (run_reads x bytes) → Refuses e (runs_read xs bytes)
refused-there xs i x bytes e lt at each refused =
    carries e (run_reads x bytes) (runs_read xs bytes) (λ r h.
    ap (λ l. runs_read l bytes) (sym (split-there xs i x lt at))
    ∙ first-refuses (take i xs) x (drop (i + 1) xs) bytes r each h) refused

-- counting goes on
pub count-taken : (xs : List RunRecord) (i : ℕ) (x : RunRecord) → i < length xs
    → x ≡ get_or xs i x → count_in (take (i + 1) xs) ≡ count_in (take i xs) + x.count
count-taken xs i x lt e =
    let one : count_in (x ∷ []) ≡ x.count = grind (arith, common_steps) in
    ap count_in (taken-next xs i x lt e)
    ∙ sum_by-append (λ (run : RunRecord). run.count) (take i xs) (x ∷ [])
    ∙ ap (λ n. count_in (take i xs) + n) one

-- and so do the numbers
pub put-taken : (xs : List RunRecord) (i : ℕ) (x : RunRecord) (bytes : List ℕ) (place : ℕ)
    (values : List ℤ) → i < length xs → x ≡ get_or xs i x → place ≡ count_in (take i xs)
    → set_from place (numbers_from x bytes 0 x.count) (filled (all_numbers (take i xs) bytes) values)
    ≡ filled (all_numbers (take (i + 1) xs) bytes) values
put-taken xs i x bytes place values lt e at =
    let size : place ≡ length (all_numbers (take i xs) bytes) =
    at ∙ sym (length-all (take i xs) bytes) in
    let one : all_numbers (x ∷ []) bytes ≡ numbers_from x bytes 0 x.count =
    grind (arith, common_steps) in
    let all : all_numbers (take (i + 1) xs) bytes
    ≡ all_numbers (take i xs) bytes ++ numbers_from x bytes 0 x.count =
    ap (λ l. all_numbers l bytes) (taken-next xs i x lt e)
    ∙ flat_map-append (λ run. numbers_from run bytes 0 run.count) (take i xs) (x ∷ [])
    ∙ ap (λ l. all_numbers (take i xs) bytes ++ l) one in
    filled-more (numbers_from x bytes 0 x.count) (all_numbers (take i xs) bytes) values place size
    ∙ ap (λ l. filled l values) (sym all)

-- more bytes are enough, too
more-inside : (run : RunRecord) (n m : ℕ) → n ≤ m → is_inside run n ≡ true
    → is_inside run m ≡ true
more-inside run n m le t = by run.count run.width (place_in run run.count) t where
  by : (count width end : ℕ)
      → ((count == 0) || (nat_lt 0 width && (nat_le width 32 && nat_le end n))) ≡ true
      → ((count == 0) || (nat_lt 0 width && (nat_le width 32 && nat_le end m))) ≡ true
  by count width end t = grind (arith, nat_tests)

pub plain-one : (id : Option ℕ) (n m : ℕ) (run : RunRecord) → n ≤ m → IsPlain id n run
    → IsPlain id m run
plain-one id n m run le plain = record {
  own = plain.own;
  inside = more-inside run (8 * n) (8 * m) (omega (arith, le)) plain.inside;
}

pub plain-more : (id : Option ℕ) (n m : ℕ) (runs : List RunRecord) → n ≤ m
    → Each (IsPlain id n) runs → Each (IsPlain id m) runs
plain-more id n m runs le each =
    each-map (IsPlain id n) (IsPlain id m) (λ run plain. plain-one id n m run le plain) runs each

-- bytes that are enough and begin with the id have all
pub own-by : (own id : Option ℕ) (bytes : List ℕ) → (own ≡ None) ⊎ (own ≡ id)
    → with_id id bytes (Ok (tt {0})) ≡ Ok (tt {0}) → with_id own bytes (Ok (tt {0})) ≡ Ok (tt {0})
own-by own id bytes (inl none) passes =
    ap (λ (i : Option ℕ). with_id i bytes (Ok (tt {0}))) none
own-by own id bytes (inr same) passes =
    ap (λ (i : Option ℕ). with_id i bytes (Ok (tt {0}))) same ∙ passes

pub plain-open : (id : Option ℕ) (n : ℕ) (bytes : List ℕ) (runs : List RunRecord)
    → n ≤ length bytes → with_id id bytes (Ok (tt {0})) ≡ Ok (tt {0})
    → Each (IsPlain id n) runs → Each (HasAllValues bytes) runs
plain-open id n bytes runs le passes each =
    each-map (IsPlain id n) (HasAllValues bytes) (λ run plain. record {
      own = own-by run.id id bytes plain.own passes;
      inside = more-inside run (8 * n) (8 * length bytes) (omega (arith, le)) plain.inside;
    }) runs each

-- values that are there, run by run
pub length-alone-all : (runs : List RunRecord) (bytes : List ℕ)
    → length (runs_alone runs bytes) ≡ count_in runs
length-alone-all [] bytes = refl
length-alone-all (run ∷ runs) bytes =
    let here = length-alone (run_value run bytes) 0 run.count in
    let rest = length-alone-all runs bytes in
    grind (arith, common_steps, here, rest)

alone-taken : (xs : List RunRecord) (i : ℕ) (x : RunRecord) (bytes : List ℕ) → i < length xs
    → x ≡ get_or xs i x → runs_alone (take (i + 1) xs) bytes
    ≡ runs_alone (take i xs) bytes ++ each_alone (run_value x bytes) 0 x.count
alone-taken xs i x bytes lt e =
    let one : runs_alone (x ∷ []) bytes ≡ each_alone (run_value x bytes) 0 x.count =
    grind (arith, common_steps) in
    ap (λ l. runs_alone l bytes) (taken-next xs i x lt e)
    ∙ flat_map-append (λ (run : RunRecord). each_alone (run_value run bytes) 0 run.count) (take i xs) (x ∷ [])
    ∙ ap (λ l. runs_alone (take i xs) bytes ++ l) one

-- what is there up to an index, and of the run there
pub available-next : (xs : List RunRecord) (i : ℕ) (x : RunRecord) (bytes : List ℕ) → i < length xs
    → x ≡ get_or xs i x
    → length (numbers_before (runs_alone (take i xs) bytes)) ≡ count_in (take i xs)
    → numbers_before (runs_alone (take (i + 1) xs) bytes)
    ≡ numbers_before (runs_alone (take i xs) bytes)
    ++ numbers_before (each_alone (run_value x bytes) 0 x.count)
available-next xs i x bytes lt e whole =
    ap numbers_before (alone-taken xs i x bytes lt e)
    ∙ before-whole (runs_alone (take i xs) bytes) (each_alone (run_value x bytes) 0 x.count)
    (whole ∙ sym (length-alone-all (take i xs) bytes))

pub available-length : (xs : List RunRecord) (i : ℕ) (x : RunRecord) (bytes : List ℕ)
    → i < length xs → x ≡ get_or xs i x
    → length (numbers_before (runs_alone (take i xs) bytes)) ≡ count_in (take i xs)
    → length (numbers_before (runs_alone (take (i + 1) xs) bytes))
    ≡ count_in (take i xs) + length (numbers_before (each_alone (run_value x bytes) 0 x.count))
available-length xs i x bytes lt e whole =
    ap length (available-next xs i x bytes lt e whole)
    ∙ length-append (numbers_before (runs_alone (take i xs) bytes))
    (numbers_before (each_alone (run_value x bytes) 0 x.count))
    ∙ ap (λ n. n + length (numbers_before (each_alone (run_value x bytes) 0 x.count))) whole

-- so many values as one run more has are still counted
pub count-room : (xs : List RunRecord) (i : ℕ) (x : RunRecord) → i < length xs → x ≡ get_or xs i x
    → count_in (take i xs) + x.count ≤ count_in xs
count-room xs i x lt e =
    let next = count-taken xs i x lt e in
    let le : count_in (take (i + 1) xs) ≤ count_in xs =
    sum_by-take-le (λ (run : RunRecord). run.count) xs (i + 1) in
    omega (arith, next, le)

-- so they are put in place
pub put-available-next : (xs : List RunRecord) (i : ℕ) (x : RunRecord) (bytes : List ℕ) (place : ℕ)
    (values : List ℤ) → i < length xs → x ≡ get_or xs i x
    → length (numbers_before (runs_alone (take i xs) bytes)) ≡ count_in (take i xs)
    → place ≡ length (numbers_before (runs_alone (take i xs) bytes))
    → set_from place (numbers_before (each_alone (run_value x bytes) 0 x.count))
    (filled (numbers_before (runs_alone (take i xs) bytes)) values)
    ≡ filled (numbers_before (runs_alone (take (i + 1) xs) bytes)) values
put-available-next xs i x bytes place values lt e whole size =
    filled-more (numbers_before (each_alone (run_value x bytes) 0 x.count))
    (numbers_before (runs_alone (take i xs) bytes)) values place size
    ∙ ap (λ l. filled l values) (sym (available-next xs i x bytes lt e whole))

-- a run that isn't there as a whole ends all
pub available-stops : (xs : List RunRecord) (i : ℕ) (x : RunRecord) (bytes : List ℕ) → i < length xs
    → x ≡ get_or xs i x
    → length (numbers_before (runs_alone (take i xs) bytes)) ≡ count_in (take i xs)
    → length (numbers_before (each_alone (run_value x bytes) 0 x.count)) < x.count
    → numbers_before (runs_alone xs bytes) ≡ numbers_before (runs_alone (take (i + 1) xs) bytes)
available-stops xs i x bytes lt e whole part =
    let front = runs_alone (take (i + 1) xs) bytes in
    let parts : runs_alone xs bytes ≡ front ++ runs_alone (drop (i + 1) xs) bytes =
    ap (λ l. runs_alone l bytes) (sym (take-append-drop (i + 1) xs))
    ∙ flat_map-append (λ (run : RunRecord). each_alone (run_value run bytes) 0 run.count)
    (take (i + 1) xs) (drop (i + 1) xs) in
    let here : length front ≡ count_in (take i xs) + x.count =
    length-alone-all (take (i + 1) xs) bytes ∙ count-taken xs i x lt e in
    let there = available-length xs i x bytes lt e whole in
    ap numbers_before parts
    ∙ before-part front (runs_alone (drop (i + 1) xs) bytes) (omega (arith, here, there, part))
