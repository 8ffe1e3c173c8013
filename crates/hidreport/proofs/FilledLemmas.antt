-- Numbers in place of values, one after the other.
use Rattle.std.proofs.Common.{◌≡◌, ℕ, zero, suc, ◌+◌, ◌-◌, ◌*◌, ◌/◌, ◌%◌, ◌^◌, ◌<◌, ◌≤◌, Bool, true, false, nat_lt}
use Rattle.std.proofs.Common.{List, [], ◌∷◌, ◌++◌, length, take, drop}
use Rattle.std.proofs.Common.{refl, sym, ap, ◌∙◌, arith, ℤ, pos, append_assoc, append-nil}
use Rattle.std.specs.Prelude.{slice_index, slice_set}
use Rattle.std.proofs.lemmas.Bool.Decides.{nat_tests}
use Rattle.std.proofs.lemmas.List.Elements.{All-cons}
use Rattle.std.proofs.lemmas.Grind.{common_steps}
use Rattle.hidreport_items.specs.Spelling.{AreBytes}
use Rattle.hidreport_fields.specs.BitValue.{sum_of_bits, value}
use Rattle.hidreport.specs.Reader.{filled}
use Rattle.hidreport.specs.Runs.{RunRecord, number_at, numbers_from, set_from}
use Rattle.hidreport_fields.proofs.WordLemmas.{sum-from, sum-word}

-- one more number
filled-next : (numbers : List ℤ) (number : ℤ) (values : List ℤ)
    → filled (numbers ++ number ∷ []) values
    ≡ slice_set (filled numbers values) (length numbers) number
filled-next [] number [] = refl
filled-next [] number (v ∷ values) = refl
filled-next (n ∷ numbers) number [] = refl
filled-next (n ∷ numbers) number (v ∷ values) =
    let size : length (n ∷ numbers) ≡ suc (length numbers) = refl in
    ap (λ l. n ∷ l) (filled-next numbers number values)

-- numbers behind those that are in place
pub filled-more : (numbers done values : List ℤ) (place : ℕ) → place ≡ length done
    → set_from place numbers (filled done values) ≡ filled (done ++ numbers) values
filled-more [] done values place e = ap (λ l. filled l values) (sym (append-nil done))
filled-more (n ∷ numbers) done values place e =
    let next : place + 1 ≡ length (done ++ n ∷ []) = grind (arith, common_steps) in
    ap (λ k. set_from (place + 1) numbers (slice_set (filled done values) k n)) e
    ∙ ap (set_from (place + 1) numbers) (sym (filled-next done n values))
    ∙ filled-more numbers (done ++ n ∷ []) values (place + 1) next
    ∙ ap (λ l. filled l values) (append_assoc done (n ∷ []) numbers)

-- one more at the end
pub set-next : (numbers : List ℤ) (number : ℤ) (place : ℕ) (values : List ℤ)
    → set_from place (numbers ++ number ∷ []) values
    ≡ slice_set (set_from place numbers values) (place + length numbers) number
set-next [] number place values =
    let none : place + 0 ≡ place = omega arith in
    ap (λ k. slice_set values k number) (sym none)
set-next (n ∷ numbers) number place values =
    let next : place + 1 + length numbers ≡ place + length (n ∷ numbers) = omega arith in
    set-next numbers number (place + 1) (slice_set values place n)
    ∙ ap (λ k. slice_set (set_from (place + 1) numbers (slice_set values place n)) k number) next

-- one more number of a run
numbers-next : (run : RunRecord) (bytes : List ℕ) (index more : ℕ)
    → numbers_from run bytes index (suc more)
    ≡ numbers_from run bytes index more ++ number_at run bytes (index + more) ∷ []
numbers-next run bytes index zero =
    let none : index + 0 ≡ index = omega arith in
    ap (λ k. number_at run bytes k ∷ []) (sym none)
numbers-next run bytes index (suc more) =
    let next : index + 1 + more ≡ index + suc more = omega arith in
    ap (λ l. number_at run bytes index ∷ l) (numbers-next run bytes (index + 1) more
    ∙ ap (λ k. numbers_from run bytes (index + 1) more ++ number_at run bytes k ∷ []) next)

length-numbers : (run : RunRecord) (bytes : List ℕ) (index more : ℕ)
    → length (numbers_from run bytes index more) ≡ more
length-numbers run bytes index zero = refl
length-numbers run bytes index (suc more) =
    let rest = length-numbers run bytes (index + 1) more in omega (arith, rest)

-- it stands behind those before it
pub put-next : (run : RunRecord) (bytes : List ℕ) (index place : ℕ) (values : List ℤ)
    → set_from place (numbers_from run bytes 0 (index + 1)) values
    ≡ slice_set (set_from place (numbers_from run bytes 0 index) values) (place + index)
    (number_at run bytes index)
put-next run bytes index place values =
    let more : index + 1 ≡ suc index = omega arith in
    let none : 0 + index ≡ index = omega arith in
    ap (λ k. set_from place (numbers_from run bytes 0 k) values) more
    ∙ ap (λ l. set_from place l values) (numbers-next run bytes 0 index)
    ∙ set-next (numbers_from run bytes 0 index) (number_at run bytes (0 + index)) place values
    ∙ ap (λ k. slice_set (set_from place (numbers_from run bytes 0 index) values) (place + k)
    (number_at run bytes (0 + index))) (length-numbers run bytes 0 index)
    ∙ ap (λ k. slice_set (set_from place (numbers_from run bytes 0 index) values) (place + index)
    (number_at run bytes k)) none

-- the only number of a run
pub put-one : (run : RunRecord) (bytes : List ℕ) (place : ℕ) (n : ℤ) (values : List ℤ) → run.count ≡ 1
    → n ≡ value bytes run.first run.width run.is_signed
    → slice_set values place n ≡ set_from place (numbers_from run bytes 0 run.count) values
put-one run bytes place n values one is =
    let from : run.first ≡ run.first + run.width * 0 = omega arith in
    ap (slice_set values place) (is ∙ ap (λ k. value bytes k run.width run.is_signed) from)
    ∙ ap (λ k. set_from place (numbers_from run bytes 0 k) values) (sym one)

-- as many values as before
length-set-from : (place : ℕ) (numbers values : List ℤ)
    → length (set_from place numbers values) ≡ length values
length-set-from place [] values = refl
length-set-from place (n ∷ numbers) values =
    length-set-from (place + 1) numbers (slice_set values place n) ∙ grind (arith, common_steps)

-- numbers in place behind others
set-append : (xs ys : List ℤ) (place : ℕ) (values : List ℤ)
    → set_from place (xs ++ ys) values ≡ set_from (place + length xs) ys (set_from place xs values)
set-append [] ys place values =
    let none : place + 0 ≡ place = omega arith in ap (λ k. set_from k ys values) (sym none)
set-append (x ∷ xs) ys place values =
    let next : place + 1 + length xs ≡ place + length (x ∷ xs) = omega arith in
    set-append xs ys (place + 1) (slice_set values place x)
    ∙ ap (λ k. set_from k ys (set_from (place + 1) xs (slice_set values place x))) next

-- behind the last value there is no place
set-past : (ys : List ℤ) (place : ℕ) (values : List ℤ) → length values ≤ place
    → set_from place ys values ≡ values
set-past [] place values past = refl
set-past (y ∷ ys) place values past =
    let same : slice_set values place y ≡ values = grind (arith, common_steps) in
    ap (set_from (place + 1) ys) same ∙ set-past ys (place + 1) values (omega (arith, past))

numbers-parts : (run : RunRecord) (bytes : List ℕ) (index n m : ℕ)
    → numbers_from run bytes index (n + m)
    ≡ numbers_from run bytes index n ++ numbers_from run bytes (index + n) m
numbers-parts run bytes index zero m =
    let none : 0 + m ≡ m = omega arith in
    let here : index + 0 ≡ index = omega arith in
    ap (numbers_from run bytes index) none ∙ sym (ap (λ k. numbers_from run bytes k m) here)
numbers-parts run bytes index (suc n) m =
    let size : suc n + m ≡ suc (n + m) = omega arith in
    let next : index + 1 + n ≡ index + suc n = omega arith in
    ap (numbers_from run bytes index) size
    ∙ ap (λ l. number_at run bytes index ∷ l) (numbers-parts run bytes (index + 1) n m
    ∙ ap (λ k. numbers_from run bytes (index + 1) n ++ numbers_from run bytes k m) next)

-- the numbers that there is room for are all that count
pub put-room : (run : RunRecord) (bytes : List ℕ) (place room : ℕ) (values : List ℤ)
    → room ≤ run.count → (room < run.count → length values ≤ place + room)
    → set_from place (numbers_from run bytes 0 room) values
    ≡ set_from place (numbers_from run bytes 0 run.count) values
put-room run bytes place room values few full = by (nat_lt room run.count) refl where
  by : (t : Bool) → nat_lt room run.count ≡ t
      → set_from place (numbers_from run bytes 0 room) values
      ≡ set_from place (numbers_from run bytes 0 run.count) values
  by false e =
      let all : room ≡ run.count = grind (arith, nat_tests, few, e) in
      ap (λ n. set_from place (numbers_from run bytes 0 n) values) all
  by true e =
      let lt : room < run.count = grind (arith, nat_tests, e) in
      let past = full lt in
      let front = numbers_from run bytes 0 room in
      let rest = numbers_from run bytes (0 + room) (run.count - room) in
      let size : room + (run.count - room) ≡ run.count = omega (arith, lt) in
      let count = length-numbers run bytes 0 room in
      let same = length-set-from place front values in
      sym (ap (λ n. set_from place (numbers_from run bytes 0 n) values) (sym size)
      ∙ ap (λ l. set_from place l values) (numbers-parts run bytes 0 room (run.count - room))
      ∙ set-append front rest place values
      ∙ set-past rest (place + length front) (set_from place front values)
      (omega (arith, past, count, same)))

-- a value that is a whole byte
pub byte-number : (bytes : List ℕ) → AreBytes bytes → (k : ℕ) → k < length bytes
    → sum_of_bits bytes (8 * k) 8 ≡ slice_index bytes k
byte-number bytes are k lt =
    let b = slice_index bytes k in
    let at : 8 * k ≡ 8 * k + 0 = omega arith in
    let one : take 1 (drop k bytes) ≡ b ∷ [] = grind (arith, common_steps) in
    let small : b < 256 = are k 0 lt in
    let alone : AreBytes (b ∷ []) = All-cons (λ n. n < 256) b [] small (λ i d none. absurd (omega (arith, none))) in
    let first : 2 ^ 0 ≡ 1 = refl in
    let all : 2 ^ 8 ≡ 256 = refl in
    ap (λ n. sum_of_bits bytes n 8) at ∙ sum-from bytes k 1 0 8 (omega arith)
    ∙ ap (λ l. sum_of_bits l 0 8) one ∙ sum-word (b ∷ []) alone 0 8 (omega arith)
    ∙ (omega (arith, small, first, all))

-- so is that of a run of them
pub byte-value : (run : RunRecord) (bytes : List ℕ) → AreBytes bytes → (index : ℕ) → run.width ≡ 8
    → run.is_signed ≡ false → run.first % 8 ≡ 0 → run.first / 8 + index < length bytes
    → number_at run bytes index ≡ pos (slice_index bytes (run.first / 8 + index))
byte-value run bytes are index width plain aligned lt =
    let at : run.first + 8 * index ≡ 8 * (run.first / 8 + index) = omega arith in
    ap (λ w. value bytes (run.first + w * index) w run.is_signed) width
    ∙ ap (value bytes (run.first + 8 * index) 8) plain
    ∙ ap (λ n. pos (sum_of_bits bytes n 8)) at
    ∙ ap (λ (n : ℕ). pos n) (byte-number bytes are (run.first / 8 + index) lt)
