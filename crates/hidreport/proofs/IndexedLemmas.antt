-- Lists of placed items: counted, filtered, cut.
use Rattle.std.proofs.Common.{◌≡◌, ℕ, zero, suc, ◌+◌, ◌-◌, ◌<◌, ◌≤◌, Bool, true, false, cond, ◌&&◌}
use Rattle.std.proofs.Common.{nat_lt, List}
use Rattle.std.proofs.lemmas.Grind.{common_steps}
use Rattle.std.proofs.Common.{[], ◌∷◌, ◌++◌, length, take, filter, refl, sym, ap, ◌∙◌, subst, arith}
use Rattle.hidreport_items.specs.declared.item.ItemType.{ItemType}
use Rattle.hidreport.specs.Kinds.{Indexed}
use Rattle.hidreport.specs.Visibility.{before}
use Rattle.hidreport.proofs.ItemStateLemmas.{before-front, AreBelow, enumerated-below}

-- the numbers from a on, so many
abbrev pub count_up : ℕ → ℕ → List ℕ
count_up a zero = []
count_up a (suc n) = a ∷ count_up (a + 1) n

pub length-count_up : (a n : ℕ) → length (count_up a n) ≡ n
length-count_up a zero = refl
length-count_up a (suc n) = let e = length-count_up (a + 1) n in omega arith

pub count_up-next : (a n : ℕ) → count_up a (suc n) ≡ count_up a n ++ (a + n) ∷ []
count_up-next a zero = ap (λ k. k ∷ []) (let e : a ≡ a + 0 = omega arith in e)
count_up-next a (suc n) = ap (λ l. a ∷ l) (count_up-next (a + 1) n)
    ∙ ap (λ k. a ∷ (count_up (a + 1) n ++ k ∷ []))
    (let e : a + 1 + n ≡ a + suc n = omega arith in e)

pub take-count_up : (m a n : ℕ) → m ≤ n → take m (count_up a n) ≡ count_up a m
take-count_up zero a n h = refl
take-count_up (suc m) a zero h = absurd (omega arith)
take-count_up (suc m) a (suc n) h = ap (λ l. a ∷ l) (take-count_up m (a + 1) n (omega arith))

pub take-nil : {A : Type 0} (n : ℕ) → take {A = A} n [] ≡ []
take-nil zero = refl
take-nil (suc n) = refl

pub take-all : {A : Type 0} (n : ℕ) (xs : List A) → length xs ≤ n → take n xs ≡ xs
take-all n [] h = take-nil n
take-all zero (x ∷ xs) h = absurd (omega arith)
take-all (suc n) (x ∷ xs) h = ap (λ l. x ∷ l) (take-all n xs (omega arith))

filter-both-by : (a b : Bool) (p : Indexed) (xs ys : List Indexed) (r : Indexed → Bool)
    → xs ≡ filter r ys → r p ≡ b
    → cond (a && b) (p ∷ xs) xs ≡ filter r (cond a (p ∷ ys) ys)
filter-both-by true true p xs ys r e h = ap (λ l. p ∷ l) e
    ∙ ap (λ c. cond c (p ∷ filter r ys) (filter r ys)) (sym h)
filter-both-by true false p xs ys r e h = e
    ∙ ap (λ c. cond c (p ∷ filter r ys) (filter r ys)) (sym h)
filter-both-by false b p xs ys r e h = e

-- both tests, one after the other
pub filter-both : (q r : Indexed → Bool) (xs : List Indexed)
    → filter (λ p. q p && r p) xs ≡ filter r (filter q xs)
filter-both q r [] = refl
filter-both q r (x ∷ xs) = filter-both-by (q x) (r x) x (filter (λ p. q p && r p) xs) (filter q xs)
    r (filter-both q r xs) refl

pub filter-same-below : (k : ℕ) (p q : Indexed → Bool) → ((x : Indexed) → x.0 < k → p x ≡ q x)
    → (xs : List Indexed) → AreBelow k xs → filter p xs ≡ filter q xs
filter-same-below k p q h [] below = refl
filter-same-below k p q h (x ∷ xs) below =
    ap (λ b. cond b (x ∷ filter p xs) (filter p xs)) (h x below.0)
    ∙ ap (λ l. cond (q x) (x ∷ l) l) (filter-same-below k p q h xs below.1)

pub and_last : (a s d : Bool) → (a && (d && s)) ≡ ((a && s) && d)
and_last true true true = refl
and_last true true false = refl
and_last true false true = refl
and_last true false false = refl
and_last false s d = refl

pub and_true : (b : Bool) → (b && true) ≡ b
and_true true = refl
and_true false = refl

-- what stays as long as each place behind j passes a test, one place further
pub stays-further : (stays : ℕ → Bool) (holds : ℕ → Bool) (j k : ℕ)
    → ((m : ℕ) → stays (suc m) ≡ (holds (j + suc m) && stays m)) → j < k
    → (nat_lt j (suc k) && stays (suc k - j)) ≡ ((nat_lt j k && stays (k - j)) && holds (suc k))
stays-further stays holds j k step lt =
    let further : suc k - j ≡ suc (k - j) = omega arith in
    let there : j + suc (k - j) ≡ suc k = omega arith in
    let before_next : nat_lt j (suc k) ≡ true = grind (arith, common_steps) in
    let before_now : nat_lt j k ≡ true = grind (arith, common_steps) in
    ap (λ b. b && stays (suc k - j)) before_next
    ∙ ap stays further
    ∙ step (k - j)
    ∙ ap (λ n. holds n && stays (k - j)) there
    ∙ and_last true (stays (k - j)) (holds (suc k))
    ∙ ap (λ b. (b && stays (k - j)) && holds (suc k)) (sym before_now)

-- the same of the place itself
pub stays-new : (stays : ℕ → Bool) (holds : ℕ → Bool) (k : ℕ) → stays zero ≡ true
    → ((m : ℕ) → stays (suc m) ≡ (holds (k + suc m) && stays m))
    → (nat_lt k (suc k) && stays (suc k - k)) ≡ holds (suc k)
stays-new stays holds k empty step =
    let one : suc k - k ≡ suc zero = omega arith in
    let there : k + suc zero ≡ suc k = omega arith in
    let before_next : nat_lt k (suc k) ≡ true = grind (arith, common_steps) in
    ap (λ b. b && stays (suc k - k)) before_next
    ∙ ap stays one
    ∙ step zero
    ∙ ap (λ n. holds n && stays zero) there
    ∙ ap (λ b. holds (suc k) && b) empty
    ∙ and_true (holds (suc k))

pub and_assoc : (a b c : Bool) → ((a && b) && c) ≡ (a && (b && c))
and_assoc true b c = refl
and_assoc false b c = refl

-- the places before k are below k
pub subst-below : (k : ℕ) (items front rest : List ItemType) → k ≡ length front
    → items ≡ front ++ rest → AreBelow k (before items k)
subst-below k items front rest size e =
    subst (λ (n : ℕ). AreBelow n (before items n)) (sym size)
    (subst (AreBelow (length front)) (sym (before-front items front rest e))
    (enumerated-below 0 (length front) front (omega arith)))
