-- The numbers of a run: where all its bits are there, and where they aren't.
use Rattle.std.proofs.Common.{◌≡◌, ℕ, zero, suc, ◌+◌, ◌-◌, ◌*◌, ◌<◌, ◌≤◌, Bool, true, false, cond}
use Rattle.std.proofs.Common.{◌||◌, ◌&&◌, ◌==◌, nat_lt, nat_le, List, [], ◌∷◌, ◌++◌, length}
use Rattle.std.proofs.Common.{refl, sym, ap, subst, ◌∙◌, arith, ℤ, Result, Ok, Err, IsOk, Option}
use Rattle.std.proofs.Math.Nat.{mul-le-mul_left}
use Rattle.std.proofs.lemmas.Bool.Decides.{nat_tests}
use Rattle.std.proofs.lemmas.Grind.{common_steps}
use Rattle.hidreport_lists.specs.Answer.{Refusal, OutOfBounds, Refuses}
use Rattle.hidreport_lists.specs.declared.error.ParserError.{ParserError}
use Rattle.hidreport_lists.specs.declared.error.ParserError.TheVariants as errors
use Rattle.hidreport_fields.specs.BitValue.{as_word, value}
use Rattle.hidreport.specs.Reader.{ReadsInto, before_numbers, filled}
use Rattle.hidreport_fields.specs.Reading.{ValueRecord, before_values, each_value, read_bits, with_id}
use Rattle.hidreport.specs.Runs.{HasAllValues, RunRecord, all_numbers, count_in, is_inside, number_at}
use Rattle.hidreport.specs.Runs.{numbers_from, place_in, run_reads, run_value, runs_read}
use Rattle.hidreport_fields.specs.Tiling.{Each}
use Rattle.hidreport_fields.specs.WritingLaws.{numbers_of}
use Rattle.hidreport_fields.proofs.ReadBackLemmas.{ReadsAs, id-passes, number-before}
use Rattle.hidreport_fields.proofs.ValueBitsLemmas.{number-read}

-- a value whose bits are there
pub readable : (p w : ℕ) (s : Bool) (bytes : List ℕ) → 0 < w → w ≤ 32 → p + w ≤ 8 * length bytes
    → ReadsAs (read_bits p (p + w) s bytes) (value bytes p w s)
readable p w s bytes some narrow within =
    let width : p + w - p ≡ w = omega arith in
    let t : (nat_le (p + w) p || (nat_lt 32 (p + w - p) || nat_lt (8 * length bytes) (p + w)))
    ≡ false = grind (arith, nat_tests) in record {
      value = record { word = as_word (value bytes p (p + w - p) s); is_signed = s };
      is = ap (λ b. cond b (Err OutOfBounds)
          (Ok (record { word = as_word (value bytes p (p + w - p) s); is_signed = s }))) t;
      says = number-read bytes p (p + w - p) s (omega arith) ∙ ap (λ k. value bytes p k s) width;
    }

-- values that are read one by one are these numbers
each-numbers : (run : RunRecord) (bytes : List ℕ) (index more : ℕ)
    → ((k : ℕ) → k < index + more → ReadsAs (run_value run bytes k) (number_at run bytes k))
    → numbers_of (each_value (run_value run bytes) index more)
    ≡ Ok (numbers_from run bytes index more)
each-numbers run bytes index zero each = refl
each-numbers run bytes index (suc more) each =
    let head = each index (omega arith) in
    let rest = each-numbers run bytes (index + 1) more (λ k lt. each k (omega (arith, lt))) in
    number-before (run_value run bytes index) (each_value (run_value run bytes) (index + 1) more) head.value
    (number_at run bytes index) (numbers_from run bytes (index + 1) more) head.is head.says rest

-- what the test of a run says
pub record Inside (run : RunRecord) (room : ℕ) : Type 0 where
  pub some : 0 < run.width
  pub narrow : run.width ≤ 32
  pub within : place_in run run.count ≤ room

pub inside-parts : (run : RunRecord) (room : ℕ) → is_inside run room ≡ true → 0 < run.count
    → Inside run room
inside-parts run room t some =
    let filled : (run.count == 0) ≡ false = grind (arith, nat_tests) in
    let rest : (nat_lt 0 run.width && (nat_le run.width 32 && nat_le (place_in run run.count) room))
    ≡ true =
    sym (ap (λ b. b || (nat_lt 0 run.width && (nat_le run.width 32 && nat_le (place_in run run.count) room)))
    filled) ∙ t in
    record {
      some = grind (arith, nat_tests, rest);
      narrow = grind (arith, nat_tests, rest);
      within = grind (arith, nat_tests, rest);
    }

-- an element lies before the end of all
pub before-end : (run : RunRecord) (k : ℕ) → k < run.count
    → place_in run k + run.width ≤ place_in run run.count
before-end run k lt =
    let le : run.width * (k + 1) ≤ run.width * run.count = mul-le-mul_left run.width (omega arith) in
    let parts : run.width * (k + 1) ≡ run.width * k + run.width = omega arith in
    omega arith

-- an id that is there lets every answer through
pub own-passes : {A : Type 0} (id : Option ℕ) (bytes : List ℕ)
    → with_id id bytes (Ok (tt {0})) ≡ Ok (tt {0}) → (a : Result A Refusal) → with_id id bytes a ≡ a
own-passes id bytes own a = id-passes id bytes (Ok (tt {0})) a (subst (λ (r : Result (Unit {0}) Refusal). IsOk r) (sym own) refl)

-- bytes that have all bits of a run give its numbers
pub open-reads : (run : RunRecord) (bytes : List ℕ) → HasAllValues bytes run
    → run_reads run bytes ≡ Ok (numbers_from run bytes 0 run.count)
open-reads run bytes has =
    ap numbers_of (own-passes run.id bytes has.own (each_value (run_value run bytes) 0 run.count))
    ∙ each-numbers run bytes 0 run.count (λ k lt.
    let there : k < run.count = omega (arith, lt) in
    let i = inside-parts run (8 * length bytes) has.inside (omega (arith, there)) in
    let le = before-end run k there in
    let within = i.within in
    readable (place_in run k) run.width run.is_signed bytes i.some i.narrow (omega (arith, le, within)))

pub all-read : (runs : List RunRecord) (bytes : List ℕ) → Each (HasAllValues bytes) runs
    → runs_read runs bytes ≡ Ok (all_numbers runs bytes)
all-read [] bytes has = refl
all-read (run ∷ runs) bytes has =
    ap (λ a. before_numbers a (runs_read runs bytes)) (open-reads run bytes has.0)
    ∙ ap (before_numbers (Ok (numbers_from run bytes 0 run.count))) (all-read runs bytes has.1)

-- how many there are
pub length-from : (run : RunRecord) (bytes : List ℕ) (index more : ℕ)
    → length (numbers_from run bytes index more) ≡ more
length-from run bytes index zero = refl
length-from run bytes index (suc more) =
    let rest = length-from run bytes (index + 1) more in omega (arith, rest)

pub length-all : (runs : List RunRecord) (bytes : List ℕ)
    → length (all_numbers runs bytes) ≡ count_in runs
length-all [] bytes = refl
length-all (run ∷ runs) bytes =
    let here = length-from run bytes 0 run.count in
    let rest = length-all runs bytes in
    grind (arith, common_steps, here, rest)

-- where a value isn't there, none of the run is given
outside-value : (run : RunRecord) (bytes : List ℕ) (last : ℕ) → run.count ≡ last + 1
    → is_inside run (8 * length bytes) ≡ false → run_value run bytes last ≡ Err OutOfBounds
outside-value run bytes last e t =
    let p = place_in run last in
    let w = run.width in
    let parts : run.width * (last + 1) ≡ run.width * last + run.width = omega arith in
    let end : place_in run run.count ≡ p + w = ap (λ n. run.first + run.width * n) e ∙ (omega arith) in
    let test : (nat_le (p + w) p || (nat_lt 32 (p + w - p) || nat_lt (8 * length bytes) (p + w)))
    ≡ true = tested p w (8 * length bytes) run.count (omega arith)
    (sym (ap (λ n. (run.count == 0) || (nat_lt 0 w && (nat_le w 32 && nat_le n (8 * length bytes)))) end)
    ∙ t) in
    ap (λ b. cond b (Err OutOfBounds)
    (Ok (record { word = as_word (value bytes p (p + w - p) run.is_signed); is_signed = run.is_signed }))) test
  where
    tested : (p w n count : ℕ) → 0 < count
        → ((count == 0) || (nat_lt 0 w && (nat_le w 32 && nat_le (p + w) n))) ≡ false
        → (nat_le (p + w) p || (nat_lt 32 (p + w - p) || nat_lt n (p + w))) ≡ true
    tested p w n count some t = grind (arith, nat_tests)

bounds-only : {A : Type 0} (b : Bool) (x : A) (r : Refusal) → cond b (Err OutOfBounds) (Ok x) ≡ Err r
    → r ≡ OutOfBounds
bounds-only true x r h = cc
bounds-only false x r h = cc

behind-refused : (a : Result ValueRecord Refusal) (rest : Result (List ValueRecord) Refusal)
    → ((r : Refusal) → a ≡ Err r → r ≡ OutOfBounds) → rest ≡ Err OutOfBounds
    → before_values a rest ≡ Err OutOfBounds
behind-refused (Err e) rest only h = ap (λ (r : Refusal). Err r) (only e refl)
behind-refused (Ok x) (Err e) only h = h
behind-refused (Ok x) (Ok xs) only h = cc

last-refused : (run : RunRecord) (bytes : List ℕ) (index more : ℕ)
    → run_value run bytes (index + more) ≡ Err OutOfBounds
    → each_value (run_value run bytes) index (suc more) ≡ Err OutOfBounds
last-refused run bytes index zero h =
    let here : index + 0 ≡ index = omega arith in
    ap (λ a. before_values a (Ok [])) (sym (ap (run_value run bytes) here) ∙ h)
last-refused run bytes index (suc more) h =
    let next : index + 1 + more ≡ index + suc more = omega arith in
    behind-refused (run_value run bytes index)
    (each_value (run_value run bytes) (index + 1) (suc more)) (λ r e. bounds-only _ _ r e)
    (last-refused run bytes (index + 1) more (ap (run_value run bytes) next ∙ h))

pub outside-run : (run : RunRecord) (bytes : List ℕ) → is_inside run (8 * length bytes) ≡ false
    → each_value (run_value run bytes) 0 run.count ≡ Err OutOfBounds
outside-run run bytes t = by run.count refl where
  by : (n : ℕ) → run.count ≡ n → each_value (run_value run bytes) 0 run.count ≡ Err OutOfBounds
  by zero e =
      let no : is_inside run (8 * length bytes) ≡ true = grind (arith, nat_tests) in cc
  by (suc n) e =
      let size : run.count ≡ n + 1 = omega arith in
      let here : 0 + n ≡ n = omega arith in
      ap (each_value (run_value run bytes) 0) e
      ∙ last-refused run bytes 0 n (ap (run_value run bytes) here ∙ outside-value run bytes n size t)

-- a refusal of one answer is that of another
pub carries : {A B : Type 0} (e : ParserError) (a : Result A Refusal) (b : Result B Refusal)
    → ((r : Refusal) → a ≡ Err r → b ≡ Err r) → Refuses e a → Refuses e b
carries (errors.InvalidData offset message) a b to h = to _ h
carries errors.OutOfBounds a b to h = to _ h
carries errors.MismatchingReportId a b to h = to _ h
carries errors.OutOfMemory a b to h = tt
carries (errors.BudgetExceeded offset) a b to h = to _ h

-- the first run that refuses refuses for all
pub first-refuses : (done : List RunRecord) (run : RunRecord) (rest : List RunRecord)
    (bytes : List ℕ) (r : Refusal) → Each (HasAllValues bytes) done → run_reads run bytes ≡ Err r
    → runs_read (done ++ run ∷ rest) bytes ≡ Err r
first-refuses [] run rest bytes r has h = ap (λ a. before_numbers a (runs_read rest bytes)) h
first-refuses (d ∷ done) run rest bytes r has h =
    ap (λ a. before_numbers a (runs_read (done ++ run ∷ rest) bytes)) (open-reads d bytes has.0)
    ∙ ap (before_numbers (Ok (numbers_from d bytes 0 d.count)))
    (first-refuses done run rest bytes r has.1 h)

-- what is put in place is what is read
pub put-reads : (runs : List RunRecord) (bytes : List ℕ) (count : ℕ) (old new : List ℤ)
    → Each (HasAllValues bytes) runs → count ≡ count_in runs
    → new ≡ filled (all_numbers runs bytes) old
    → ReadsInto (Ok count) old new (runs_read runs bytes)
put-reads runs bytes count old new each size put =
    subst (λ (a : Result (List ℤ) Refusal). ReadsInto (Ok count) old new a)
    (sym (all-read runs bytes each)) (size ∙ sym (length-all runs bytes), put)
