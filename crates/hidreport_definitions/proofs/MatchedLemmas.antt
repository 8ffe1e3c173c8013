-- Items in which each Push has its Pop, joined and put between a Push and a Pop.
use Rattle.std.proofs.Common.{◌≡◌, ℕ, zero, suc, ◌+◌, ◌-◌, ◌<◌, ◌≤◌, Bool, false, ◌||◌, List, []}
use Rattle.std.proofs.Common.{◌∷◌, ◌++◌, ◌⊎◌, inl, inr, length, take, refl, sym, ap, ◌∙◌, subst}
use Rattle.std.proofs.Common.{arith, count_by}
use Rattle.std.specs.List.{list_any}
use Rattle.std.proofs.Math.Seq.{take-append-add}
use Rattle.std.proofs.lemmas.Bool.{cases_lt}
use Rattle.std.proofs.lemmas.List.{take-append-le}
use Rattle.std.proofs.lemmas.List.Folds.{list_any-append}
use Rattle.hidreport.proofs.TilingLemmas.{count-append}
use Rattle.hidreport.specs.GlobalItem.TheVariants as global
use Rattle.hidreport.specs.ItemType.{ItemType}
use Rattle.hidreport.specs.ItemType.TheVariants as item
use Rattle.hidreport.specs.Kinds.{is_main, is_pop, is_push}
use Rattle.hidreport.specs.Segments.{IsMatched}

abbrev Within : List ItemType → Type 0
Within items = count_by is_pop items ≤ count_by is_push items

-- what is true of the first part, and of it with each beginning of the second, is true of each
-- beginning of both
parts : (xs ys : List ItemType) (m : ℕ) → ((n : ℕ) → Within (take n xs))
    → ((n : ℕ) → Within (xs ++ take n ys)) → Within (take m (xs ++ ys))
parts xs ys m first second = by (cases_lt (length xs) m) where
  by : (length xs < m) ⊎ (m ≤ length xs) → Within (take m (xs ++ ys))
  by (inl past) =
      let n = m - length xs in
      let is : length xs + n ≡ m = omega (arith, past) in
      let same : xs ++ take n ys ≡ take m (xs ++ ys) =
      sym (take-append-add xs ys n) ∙ ap (λ k. take k (xs ++ ys)) is in
      subst Within same (second n)
  by (inr upto) = subst Within (sym (take-append-le m xs ys upto)) (first m)

none : (a b : Bool) → a ≡ false → b ≡ false → (a || b) ≡ false
none a b p q = cc

pub joined : (xs ys : List ItemType) → IsMatched xs → IsMatched ys → IsMatched (xs ++ ys)
joined xs ys a b = record {
  idle = list_any-append is_main xs ys
      ∙ none (list_any is_main xs) (list_any is_main ys) a.idle b.idle;
  within = λ m. parts xs ys m a.within (λ n. omega (
    arith,
    count-append is_pop xs (take n ys),
    count-append is_push xs (take n ys),
    a.closed,
    b.within n,
  ));
  closed = omega (arith, count-append is_pop xs ys, count-append is_push xs ys, a.closed, b.closed);
}

abbrev push : List ItemType
push = item.Global global.Push ∷ []

abbrev pop : List ItemType
pop = item.Global global.Pop ∷ []

last : (n : ℕ) → count_by is_pop (take n pop) ≤ 1
last zero = omega arith
last (suc zero) = omega arith
last (suc (suc n)) = omega arith

begun : (xs : List ItemType) → IsMatched xs → (m : ℕ)
    → count_by is_pop (take m (xs ++ pop)) ≤ 1 + count_by is_push (take m (xs ++ pop))
begun xs a m = by (cases_lt (length xs) m) where
  by : (length xs < m) ⊎ (m ≤ length xs)
      → count_by is_pop (take m (xs ++ pop)) ≤ 1 + count_by is_push (take m (xs ++ pop))
  by (inl past) =
      let n = m - length xs in
      let is : length xs + n ≡ m = omega (arith, past) in
      let same : xs ++ take n pop ≡ take m (xs ++ pop) =
      sym (take-append-add xs pop n) ∙ ap (λ k. take k (xs ++ pop)) is in
      subst (λ l. count_by is_pop l ≤ 1 + count_by is_push l) same
      (omega (
        arith,
        count-append is_pop xs (take n pop),
        count-append is_push xs (take n pop),
        a.closed,
        last n,
      ))
  by (inr upto) = subst (λ l. count_by is_pop l ≤ 1 + count_by is_push l)
      (sym (take-append-le m xs pop upto)) (omega (arith, a.within m))

pub nested : (xs : List ItemType) → IsMatched xs → IsMatched (push ++ (xs ++ pop))
nested xs a = record {
  idle = list_any-append is_main push (xs ++ pop)
      ∙ none (list_any is_main push) (list_any is_main (xs ++ pop)) refl
      (list_any-append is_main xs pop
      ∙ none (list_any is_main xs) (list_any is_main pop) a.idle refl);
  within = λ m. from m;
  closed = omega (
    arith,
    count-append is_pop push (xs ++ pop),
    count-append is_pop xs pop,
    count-append is_push push (xs ++ pop),
    count-append is_push xs pop,
    a.closed,
  );
}
  where
    from : (m : ℕ) → Within (take m (push ++ (xs ++ pop)))
    from zero = omega arith
    from (suc m) = omega (
      arith,
      count-append is_pop push (take m (xs ++ pop)),
      count-append is_push push (take m (xs ++ pop)),
      begun xs a m,
    )
