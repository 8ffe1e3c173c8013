-- What is found in a table, by a number and by a name.
use Rattle.std.proofs.Common.{◌≡◌, ◌≢◌, ℕ, zero, suc, ◌/◌, ◌<◌, ◌≤◌, false, List, [], ◌∷◌, map, length, slice_index}
use Rattle.std.proofs.Common.{Some, None, Result, Ok, Err, MatchOption, MatchResult, refl, sym, ap, ◌∙◌, arith, inl}
use Rattle.std.proofs.Common.{inr}
use Rattle.std.specs.Ordering.{nat_cmp, is_lt, ordering_then}
use Rattle.std.specs.declared.cmp.Ordering.TheVariants.{Less, Equal, Greater}
use Rattle.std.specs.declared.cmp.Ordering.{Ordering}
use Rattle.std.specs.Cmp.Lexicographic.{slice_cmp}
use Rattle.std.proofs.lemmas.Bool.{cases_lt, cases_eq}
use Rattle.std.proofs.lemmas.Bool.Decides.{nat_tests}
use Rattle.std.proofs.lemmas.Cmp.{ranked, by_ranked, tied_itself, nat_list_cmp_total}
use Rattle.std.proofs.lemmas.Map.Lookups.{exact_bytes}
use Rattle.std.proofs.lemmas.List.{get_or-map, length-map}
use Rattle.std.proofs.lemmas.List.Sorted.{searched}
use Rattle.std.specs.List.Sorted.{IsBinarySearchResult}
use Rattle.std.specs.Result.{result_ok}
use mathlib.Core.Bool.{false≢true}
use Rattle.hidreport_usages.specs.Packed.{Rises}
use Rattle.hidreport_usages.specs.Rows.{Row, row_at, name_in, order, page_order, IsPlaceOf, IsNameOrder, IsRank}
use Rattle.hidreport_usages.specs.Rows.{IsFirstNamed}

abbrev pub numbers_of : List Row → List ℕ
numbers_of rows = map (λ row. row.0) rows

pub number_at : (rows : List Row) (p : ℕ) → p < length rows → slice_index (numbers_of rows) p ≡ (row_at rows p).0
number_at rows p inside = get_or-map (λ (row : Row). row.0) rows p (0, []) 0 inside

-- a number that no row has, has no name
pub name_in-absent : (rows : List Row) (n : ℕ) → ((p : ℕ) → p < length rows → (row_at rows p).0 ≢ n)
    → name_in rows n ≡ None
name_in-absent [] n none = refl
name_in-absent (x ∷ rows) n none =
    grind (arith, nat_tests, none 0 (omega arith), name_in-absent rows n (λ p inside. none (suc p) (omega arith)))

-- a number that has a name stands in a row with it
pub name_in-row : (rows : List Row) (n : ℕ) (name : List ℕ) → name_in rows n ≡ Some name
    → (p : ℕ) × (p < length rows) × ((row_at rows p).0 ≡ n) × ((row_at rows p).1 ≡ name)
name_in-row [] n name h = absurd (grind (arith, h))
name_in-row (x ∷ rows) n name h = elim (cases_eq x.0 n) [
  | inl same ↦ (0, omega arith, same, grind (arith, nat_tests, same, h))
  | inr other ↦
      let later : name_in rows n ≡ Some name = grind (arith, nat_tests, other, h) in
      let row = name_in-row rows n name later in
      (suc row.0, omega (arith, row.1), row.2, row.3)
]

-- the first row with a number gives its name
name_in-first : (rows : List Row) (n p : ℕ) → p < length rows → (row_at rows p).0 ≡ n
    → ((q : ℕ) → q < p → (row_at rows q).0 ≢ n) → name_in rows n ≡ Some (row_at rows p).1
name_in-first [] n p inside same none = absurd (omega arith)
name_in-first (x ∷ rows) n zero inside same none = grind (arith, nat_tests, same)
name_in-first (x ∷ rows) n (suc p) inside same none =
    grind (arith, nat_tests, none 0 (omega arith), name_in-first rows n p (omega arith) same (λ q below. none (suc q) (omega arith)))

-- so, where numbers rise, each row's number has its name
pub name_in-at : (rows : List Row) → Rises (numbers_of rows) → (p : ℕ) → p < length rows
    → name_in rows (row_at rows p).0 ≡ Some (row_at rows p).1
name_in-at rows rising p inside = name_in-first rows _ p inside refl (λ q below same.
    omega (arith, rising q p below (omega (arith, inside, length-map rows (λ (row : Row). row.0))), number_at rows q (omega arith), number_at rows p inside, same))

-- what a binary search of rising numbers says of the rows
pub place_found : (rows : List Row) (n : ℕ) (r : Result ℕ ℕ) → Rises (numbers_of rows)
    → IsBinarySearchResult (λ y. nat_cmp y n) (numbers_of rows) r
    → MatchOption (result_ok r) (name_in rows n ≡ None) (IsPlaceOf rows n)
place_found rows n r rising answer = place r (searched (numbers_of rows) n r answer (λ i j le inside. not_above i j le inside))
  where
    long : length (numbers_of rows) ≡ length rows
    long = length-map rows (λ (row : Row). row.0)

    not_above : (i j : ℕ) → i ≤ j → j < length (numbers_of rows)
        → slice_index (numbers_of rows) i ≤ slice_index (numbers_of rows) j
    not_above i j le inside = elim (cases_lt i j) [
      | inl below ↦ omega (arith, rising i j below inside)
      | inr above ↦ let same : i ≡ j = omega arith in omega (arith, ap (slice_index (numbers_of rows)) same)
    ]

    place : (r : Result ℕ ℕ) → MatchResult r
        (λ i. (i < length (numbers_of rows)) × (slice_index (numbers_of rows) i ≡ n))
        (λ i. (i ≤ length (numbers_of rows)) × ((k : ℕ) → k < i → slice_index (numbers_of rows) k < n)
        × ((k : ℕ) → i ≤ k → k < length (numbers_of rows) → n < slice_index (numbers_of rows) k))
        → MatchOption (result_ok r) (name_in rows n ≡ None) (IsPlaceOf rows n)
    place (Ok i) found =
        let inside : i < length rows = omega (arith, found.0, long) in
        record { within = inside; names = ap (name_in rows) (sym (sym (number_at rows i inside) ∙ found.1)) ∙ name_in-at rows rising i inside }
    place (Err i) gap = name_in-absent rows n (λ p inside same. elim (cases_lt p i) [
      | inl below ↦ omega (arith, gap.1 p below, number_at rows p inside, same)
      | inr behind ↦ omega (arith, gap.2 p behind (omega (arith, inside, long)), number_at rows p inside, same)
    ])

-- rows of one name stand by number
pub same_name : (x y : Row) → x.1 ≡ y.1 → order x y ≡ nat_cmp x.0 y.0
same_name x y same = ap (λ o. ordering_then o (nat_cmp x.0 y.0)) (ap (slice_cmp nat_cmp x.1) (sym same) ∙ tied_itself nat_list_cmp_total x.1)

below : (x y : Row) → x.1 ≡ y.1 → order x y ≡ Less → x.0 < y.0
below x y same h = ranked x.0 y.0 Less (sym h ∙ same_name x y same)

pub not_below : (x y : Row) → x.1 ≡ y.1 → is_lt (order x y) ≡ false → y.0 ≤ x.0
not_below x y same h =
    by_ranked (x.0 < y.0) (x.0 ≡ y.0) (y.0 < x.0) (order x y) (ranked x.0 y.0 (order x y) (same_name x y same))
    (λ less _. absurd (false≢true (sym h ∙ ap is_lt less))) (λ _ equal. omega arith) (λ _ greater. omega arith)

-- a row that stands before one of a name, and not before another of that name, has the name
between : (x y z : Row) → order x y ≡ Less → y.1 ≡ z.1 → is_lt (order x z) ≡ false → x.1 ≡ z.1
between x y z less same not_less = cases (slice_cmp nat_cmp x.1 z.1) refl
  where
    cases : (o : Ordering) → o ≡ slice_cmp nat_cmp x.1 z.1 → x.1 ≡ z.1
    cases Less e = absurd (false≢true (sym not_less ∙ ap (λ o. is_lt (ordering_then o (nat_cmp x.0 z.0))) (sym e)))
    cases Equal e = exact_bytes x.1 z.1 (sym e)
    cases Greater e =
        let greater : order x y ≡ Greater = ap (λ o. ordering_then o (nat_cmp x.0 y.0)) (ap (slice_cmp nat_cmp x.1) same ∙ sym e) in
        absurd (false≢true (ap is_lt (sym greater ∙ less)))

-- where each row with a name and a number stands
stand_of : (rows : List Row) (places : List ℕ) → IsNameOrder rows places → (name : List ℕ) (n : ℕ)
    → name_in rows n ≡ Some name → (k : ℕ) × (k < length places) × ((row_at rows (slice_index places k)).0 ≡ n) × ((row_at rows (slice_index places k)).1 ≡ name)
stand_of rows places stands name n h =
    let row = name_in-row rows n name h in
    let at = stands.complete row.0 row.1 in
    (at.0, at.1, ap (λ p. (row_at rows p).0) at.2 ∙ row.2, ap (λ p. (row_at rows p).1) at.2 ∙ row.3)

-- rows of one name that stand by page have pages that rise
pages_rise : (x y : Row) → x.1 ≡ y.1 → page_order x y ≡ Less → x.0 / 65536 < y.0 / 65536
pages_rise x y same h =
    let tied = ap (λ o. ordering_then o (nat_cmp (x.0 / 65536) (y.0 / 65536))) (ap (slice_cmp nat_cmp x.1) (sym same) ∙ tied_itself nat_list_cmp_total x.1) in
    ranked (x.0 / 65536) (y.0 / 65536) Less (sym h ∙ tied)

-- so a name stands once on a page
pub one_on_page : (rows : List Row) (places : List ℕ) → IsNameOrder rows places → (name : List ℕ) (m n : ℕ)
    → name_in rows m ≡ Some name → name_in rows n ≡ Some name → m / 65536 ≡ n / 65536 → m ≡ n
one_on_page rows places stands name m n hm hn pages =
    let at_m = stand_of rows places stands name m hm in
    let at_n = stand_of rows places stands name n hn in
    let x = row_at rows (slice_index places at_m.0) in
    let y = row_at rows (slice_index places at_n.0) in
    let same : x.1 ≡ y.1 = at_m.3 ∙ sym at_n.3 in
    let page_m = ap (λ k. k / 65536) at_m.2 in
    let page_n = ap (λ k. k / 65536) at_n.2 in
    elim (cases_lt at_m.0 at_n.0) [
      | inl first ↦ absurd (omega (arith, pages_rise x y same (stands.apart at_m.0 at_n.0 first at_n.1), page_m, page_n, pages))
      | inr rest ↦ elim (cases_lt at_n.0 at_m.0) [
        | inl second ↦ absurd (omega (arith, pages_rise y x (sym same) (stands.apart at_n.0 at_m.0 second at_m.1), page_m, page_n, pages))
        | inr none ↦
            let e : at_m.0 ≡ at_n.0 = omega (arith, rest, none) in
            omega (arith, at_m.2, at_n.2, ap (λ k. (row_at rows (slice_index places k)).0) e)
      ]
    ]

module _ (rows : List Row) (places : List ℕ) (stands : IsNameOrder rows places) (name : List ℕ) (from rank : ℕ) (is_rank : IsRank rows places (from, name) rank) where
  -- a row with the name, from the number on, doesn't stand before the rank
  not_before : (n k : ℕ) → from ≤ n → k < length places → (row_at rows (slice_index places k)).0 ≡ n
      → (row_at rows (slice_index places k)).1 ≡ name → rank ≤ k
  not_before n k le inside number same = elim (cases_lt k rank) [
    | inl before ↦
        let under = below (row_at rows (slice_index places k)) (from, name) same (is_rank.before k before) in
        absurd (omega (arith, under, number, le))
    | inr behind ↦ behind
  ]

  pub none_left : rank ≡ length places → (n : ℕ) → from ≤ n → name_in rows n ≡ Some name → ⊥
  none_left last n le h =
      let at = stand_of rows places stands name n h in
      omega (arith, last, at.1, not_before n at.0 le at.1 at.2 at.3)

  -- the row at the rank is the first of those with the name, if there is one
  pub least : rank < length places → (n : ℕ) → from ≤ n → name_in rows n ≡ Some name
      → ((row_at rows (slice_index places rank)).1 ≡ name) × ((row_at rows (slice_index places rank)).0 ≤ n)
  least inside n le h =
      let at = stand_of rows places stands name n h in
      let x = row_at rows (slice_index places rank) in
      let y = row_at rows (slice_index places at.0) in
      let from_rank = not_before n at.0 le at.1 at.2 at.3 in
      elim (cases_lt rank at.0) [
        | inl later ↦
            let less = stands.rising rank at.0 later at.1 in
            let same = between x y (from, name) less at.3 (is_rank.behind rank (omega arith) inside) in
            (same, omega (arith, below x y (same ∙ sym at.3) less, at.2))
        | inr here ↦
            let e : at.0 ≡ rank = omega (arith, from_rank, here) in
            (ap (λ k. (row_at rows (slice_index places k)).1) (sym e) ∙ at.3, omega (arith, ap (λ k. (row_at rows (slice_index places k)).0) (sym e) ∙ at.2))
      ]

  pub first_found : Rises (numbers_of rows) → rank < length places → (row_at rows (slice_index places rank)).1 ≡ name
      → IsFirstNamed (name_in rows) name from (Some (row_at rows (slice_index places rank)).0)
  first_found rising inside same = (
    not_below (row_at rows (slice_index places rank)) (from, name) same (is_rank.behind rank (omega arith) inside),
    name_in-at rows rising (slice_index places rank) (stands.within rank inside) ∙ ap Some same,
    λ n le h. (least inside n le h).1,
  )

  pub none_found : rank < length places → (row_at rows (slice_index places rank)).1 ≢ name
      → IsFirstNamed (name_in rows) name from None
  none_found inside other = λ n le h. other (least inside n le h).0
