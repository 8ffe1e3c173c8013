-- Values up to the first that isn't there.
use Rattle.std.proofs.Common.{◌≡◌, ℕ, zero, suc, ◌+◌, ◌-◌, ◌<◌, List, [], ◌∷◌, ◌++◌, length}
use Rattle.std.proofs.Common.{Result, Ok, Err, refl, sym, ap, ◌∙◌, arith, ℤ}
use Rattle.std.proofs.lemmas.Grind.{common_steps}
use Rattle.hidreport_lists.specs.Answer.{Refusal}
use Rattle.hidreport_fields.specs.Choosing.{value_number}
use Rattle.hidreport.specs.Reader.{each_alone, numbers_before}
use Rattle.hidreport_fields.specs.Reading.{ValueRecord}

-- where all are there, those behind follow
pub before-whole : (xs ys : List (Result ValueRecord Refusal))
    → length (numbers_before xs) ≡ length xs
    → numbers_before (xs ++ ys) ≡ numbers_before xs ++ numbers_before ys
before-whole [] ys whole = refl
before-whole (Err r ∷ xs) ys whole = absurd (omega (arith, whole))
before-whole (Ok v ∷ xs) ys whole =
    ap (λ l. value_number v ∷ l) (before-whole xs ys (omega (arith, whole)))

-- where one isn't, none behind follows
pub before-part : (xs ys : List (Result ValueRecord Refusal))
    → length (numbers_before xs) < length xs → numbers_before (xs ++ ys) ≡ numbers_before xs
before-part [] ys part = absurd (omega (arith, part))
before-part (Err r ∷ xs) ys part = refl
before-part (Ok v ∷ xs) ys part =
    ap (λ l. value_number v ∷ l) (before-part xs ys (omega (arith, part)))

pub length-alone : (f : ℕ → Result ValueRecord Refusal) (index more : ℕ)
    → length (each_alone f index more) ≡ more
length-alone f index zero = refl
length-alone f index (suc more) =
    let rest = length-alone f (index + 1) more in omega (arith, rest)

-- so many, and those behind them
pub alone-more : (f : ℕ → Result ValueRecord Refusal) (index n m : ℕ)
    → each_alone f index (n + m) ≡ each_alone f index n ++ each_alone f (index + n) m
alone-more f index zero m =
    let none : index + 0 ≡ index = omega arith in
    let all : 0 + m ≡ m = omega arith in
    ap (each_alone f index) all ∙ ap (λ k. each_alone f k m) (sym none)
alone-more f index (suc n) m =
    let next : index + 1 + n ≡ index + suc n = omega arith in
    let all : suc n + m ≡ suc (n + m) = omega arith in
    ap (each_alone f index) all
    ∙ ap (λ l. f index ∷ l) (alone-more f (index + 1) n m
    ∙ ap (λ k. each_alone f (index + 1) n ++ each_alone f k m) next)

-- one more that is there
pub there-next : (f : ℕ → Result ValueRecord Refusal) (n : ℕ) (v : ValueRecord)
    → length (numbers_before (each_alone f 0 n)) ≡ n → f n ≡ Ok v
    → numbers_before (each_alone f 0 (n + 1))
    ≡ numbers_before (each_alone f 0 n) ++ value_number v ∷ []
there-next f n v whole e =
    let size = length-alone f 0 n in
    let none : 0 + n ≡ n = omega arith in
    ap numbers_before (alone-more f 0 n 1)
    ∙ before-whole (each_alone f 0 n) (f (0 + n) ∷ []) (whole ∙ sym size)
    ∙ ap (λ a. numbers_before (each_alone f 0 n) ++ numbers_before (a ∷ [])) (ap f none ∙ e)

pub there-count : (f : ℕ → Result ValueRecord Refusal) (n : ℕ) (v : ValueRecord)
    → length (numbers_before (each_alone f 0 n)) ≡ n → f n ≡ Ok v
    → length (numbers_before (each_alone f 0 (n + 1))) ≡ n + 1
there-count f n v whole e =
    ap length (there-next f n v whole e) ∙ grind (arith, common_steps, whole)

-- the first that isn't
pub stops-there : (f : ℕ → Result ValueRecord Refusal) (n count : ℕ) (r : Refusal) → n < count
    → length (numbers_before (each_alone f 0 n)) ≡ n → f n ≡ Err r
    → numbers_before (each_alone f 0 count) ≡ numbers_before (each_alone f 0 n)
stops-there f n count r lt whole e =
    let left = count - n - 1 in
    let all : count ≡ n + suc left = omega arith in
    let none : 0 + n ≡ n = omega arith in
    let size = length-alone f 0 n in
    ap (λ k. numbers_before (each_alone f 0 k)) all
    ∙ ap numbers_before (alone-more f 0 n (suc left))
    ∙ before-whole (each_alone f 0 n) (f (0 + n) ∷ each_alone f (0 + n + 1) left) (whole ∙ sym size)
    ∙ ap (λ a. numbers_before (each_alone f 0 n) ++ numbers_before (a ∷ each_alone f (0 + n + 1) left))
    (ap f none ∙ e)
    ∙ append-none (numbers_before (each_alone f 0 n)) where
      append-none : (xs : List ℤ) → xs ++ [] ≡ xs
      append-none xs = grind (arith, common_steps)
