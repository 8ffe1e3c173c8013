-- A blank report, of which as much is written as there is room for.
use Rattle.std.proofs.Common.{◌≡◌, ℕ, zero, suc, List, [], ◌∷◌, ◌++◌, drop, length, min}
use Rattle.std.proofs.Common.{Option, None, Some, ap, sym, refl, ◌∙◌, arith}
use Rattle.std.proofs.Math.Seq.{drop-nil}
use Rattle.std.specs.Prelude.{replicate}
use Rattle.hidreport.specs.Blank.{with_first}
use Rattle.hidreport_c.proofs.ListsLemmas.{written-none}
use Rattle.hidreport_c.specs.Answer.{array_after}

zeros-written : (n m : ℕ) (old : List ℕ) → m ≡ min n (length old)
    → replicate m 0 ++ drop m old ≡ array_after (replicate n 0) old
zeros-written zero m old is =
    let none : m ≡ 0 = omega (arith, is) in
    ap (λ k. replicate k 0 ++ drop k old) none ∙ sym (written-none old)
zeros-written (suc n) m [] is =
    let none : m ≡ 0 = omega (arith, is) in
    ap (λ k. replicate k 0 ++ drop k []) none
    ∙ sym (drop-nil (length {A = ℕ} (replicate (suc n) 0)))
zeros-written (suc n) m (o ∷ old) is =
    let next : m ≡ suc (min n (length old)) = omega (arith, is) in
    ap (λ k. replicate k 0 ++ drop k (o ∷ old)) next
    ∙ ap (λ l. 0 ∷ l) (zeros-written n (min n (length old)) old refl)

pub blank-written : (id : Option ℕ) (n m : ℕ) (old : List ℕ) → m ≡ min n (length old)
    → with_first id (replicate m 0) ++ drop m old
    ≡ array_after (with_first id (replicate n 0)) old
blank-written None n m old is = zeros-written n m old is
blank-written (Some id) zero m old is =
    let none : m ≡ 0 = omega (arith, is) in
    ap (λ k. with_first (Some id) (replicate k 0) ++ drop k old) none ∙ sym (written-none old)
blank-written (Some id) (suc n) m [] is =
    let none : m ≡ 0 = omega (arith, is) in
    ap (λ k. with_first (Some id) (replicate k 0) ++ drop k []) none
    ∙ sym (drop-nil (length {A = ℕ} (with_first (Some id) (replicate (suc n) 0))))
blank-written (Some id) (suc n) m (o ∷ old) is =
    let next : m ≡ suc (min n (length old)) = omega (arith, is) in
    ap (λ k. with_first (Some id) (replicate k 0) ++ drop k (o ∷ old)) next
    ∙ ap (λ l. id ∷ l) (zeros-written n (min n (length old)) old refl)
