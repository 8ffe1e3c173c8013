-- How the rows of a table stand by name.
use Rattle.std.proofs.Common.{◌≡◌, ℕ, zero, suc, ◌+◌, ◌-◌, ◌/◌, ◌<◌, ◌≤◌, Bool, true, false, nat_lt, nat_eq, List, [], ◌∷◌}
use Rattle.std.proofs.Common.{length, slice_index, slice_index_or, refl, sym, ap, subst, ◌∙◌, arith, inl, inr}
use Rattle.std.specs.Cmp.{IsTotalOrder}
use Rattle.std.specs.Ordering.{is_lt, ordering_then}
use Rattle.std.specs.declared.cmp.Ordering.TheVariants.{Less, Equal, Greater}
use Rattle.std.specs.declared.cmp.Ordering.{Ordering}
use Rattle.std.proofs.lemmas.Bool.{and_parts, cases_lt}
use Rattle.std.proofs.lemmas.Bool.Decides.{nat_tests}
use Rattle.std.proofs.lemmas.List.{get_or_default, get_or_past}
use Rattle.std.proofs.lemmas.Cmp.{ranked as ranked_numbers, then_total, on_total, nat_list_cmp_total, nat_cmp_total}
use mathlib.Core.Bool.{false≢true}
use Rattle.hidreport_usages.specs.Rows.{Row, row_at, order, page_order, IsNameOrder}
use Rattle.hidreport_usages.proofs.Checks.{are_places, stand_from, rank_from}
use Rattle.std.specs.Cmp.Lexicographic.{slice_cmp}
use Rattle.std.specs.Ordering.{nat_cmp}

pub order_total : IsTotalOrder order
order_total = then_total (on_total (λ (row : Row). row.1) nat_list_cmp_total) (on_total (λ (row : Row). row.0) nat_cmp_total)

page_order_total : IsTotalOrder page_order
page_order_total = then_total (on_total (λ (row : Row). row.1) nat_list_cmp_total) (on_total (λ (row : Row). row.0 / 65536) nat_cmp_total)

pub less : (o : Ordering) → is_lt o ≡ true → o ≡ Less
less Less h = refl
less Equal h = absurd (false≢true h)
less Greater h = absurd (false≢true h)

-- rows in order by page are in order by number
less_by_page : (x y : Row) → page_order x y ≡ Less → order x y ≡ Less
less_by_page x y h = cases (slice_cmp nat_cmp x.1 y.1) h
  where
    cases : (o : Ordering) → ordering_then o (nat_cmp (x.0 / 65536) (y.0 / 65536)) ≡ Less
        → ordering_then o (nat_cmp x.0 y.0) ≡ Less
    cases Less e = refl
    cases Greater e = e
    cases Equal e =
        let pages : x.0 / 65536 < y.0 / 65536 = ranked_numbers (x.0 / 65536) (y.0 / 65536) Less (sym e) in
        let below : x.0 < y.0 = omega (arith, pages) in
        grind (arith, nat_tests, below)

module _ (rows : List Row) where
  places_within : (places : List ℕ) → are_places rows places ≡ true → (k : ℕ) → k < length places
      → slice_index places k < length rows
  places_within [] h k inside = absurd (omega arith)
  places_within (p ∷ places) h zero inside =
      let parts = and_parts (nat_lt p (length rows)) (are_places rows places) h in
      grind (arith, nat_tests, parts.0)
  places_within (p ∷ places) h (suc k) inside =
      places_within places (and_parts (nat_lt p (length rows)) (are_places rows places) h).1 k (omega arith)

  -- each row that stands behind x is above it
  above : (x : Row) (places : List ℕ) → stand_from x rows places ≡ true → (k : ℕ) → k < length places
      → page_order x (row_at rows (slice_index places k)) ≡ Less
  above x [] h k inside = absurd (omega arith)
  above x (p ∷ places) h zero inside =
      less _ (and_parts (is_lt (page_order x (row_at rows p))) (stand_from (row_at rows p) rows places) h).0
  above x (p ∷ places) h (suc k) inside =
      let parts = and_parts (is_lt (page_order x (row_at rows p))) (stand_from (row_at rows p) rows places) h in
      page_order_total.trans x (row_at rows p) (row_at rows (slice_index places k)) (less _ parts.0) (above (row_at rows p) places parts.1 k (omega arith))

  stand_rising : (x : Row) (places : List ℕ) → stand_from x rows places ≡ true → (i j : ℕ) → i < j
      → j < length places → page_order (row_at rows (slice_index places i)) (row_at rows (slice_index places j)) ≡ Less
  stand_rising x [] h i j below inside = absurd (omega arith)
  stand_rising x (p ∷ places) h zero zero below inside = absurd (omega arith)
  stand_rising x (p ∷ places) h zero (suc j) below inside =
      above (row_at rows p) places (and_parts (is_lt (page_order x (row_at rows p))) (stand_from (row_at rows p) rows places) h).1 j (omega arith)
  stand_rising x (p ∷ places) h (suc i) zero below inside = absurd (omega arith)
  stand_rising x (p ∷ places) h (suc i) (suc j) below inside =
      stand_rising (row_at rows p) places (and_parts (is_lt (page_order x (row_at rows p))) (stand_from (row_at rows p) rows places) h).1 i j (omega arith) (omega arith)

module _ (places : List ℕ) where
  -- a place that is found is within, since past the end another number is answered
  found_within : (n k : ℕ) → slice_index_or places k (suc n) ≡ n → (k < length places) × (slice_index places k ≡ n)
  found_within n k h = elim (cases_lt k (length places)) [
    | inl inside ↦ (inside, get_or_default places k 0 (suc n) inside ∙ h)
    | inr outside ↦ absurd (omega (arith, sym (get_or_past places k (suc n) outside) ∙ h))
  ]

  ranked : (n : ℕ) (ranks : List ℕ) → rank_from places n ranks ≡ true → (p : ℕ) → p < length ranks
      → (k : ℕ) × (k < length places) × (slice_index places k ≡ n + p)
  ranked n [] h p inside = absurd (omega arith)
  ranked n (rank ∷ ranks) h zero inside =
      let parts = and_parts (nat_eq (slice_index_or places rank (suc n)) n) (rank_from places (suc n) ranks) h in
      let found = found_within n rank (grind (arith, nat_tests, parts.0)) in
      (rank, found.0, omega (arith, found.1))
  ranked n (rank ∷ ranks) h (suc p) inside =
      let parts = and_parts (nat_eq (slice_index_or places rank (suc n)) n) (rank_from places (suc n) ranks) h in
      let later = ranked (suc n) ranks parts.1 p (omega arith) in
      (later.0, later.1, omega (arith, later.2))

pub IsNameOrder-from_tests : (rows : List Row) (places ranks : List ℕ) → are_places rows places ≡ true
    → stand_from (0, []) rows places ≡ true → rank_from places 0 ranks ≡ true → length ranks ≡ length rows
    → IsNameOrder rows places
IsNameOrder-from_tests rows places ranks within stand ranks_fit long = record {
  within = places_within rows places within;
  rising = λ i j below inside. less_by_page (row_at rows (slice_index places i)) (row_at rows (slice_index places j)) (stand_rising rows (0, []) places stand i j below inside);
  apart = stand_rising rows (0, []) places stand;
  complete = λ p inside. let found = ranked places 0 ranks ranks_fit p (omega (arith, long)) in (found.0, found.1, omega (arith, found.2));
}

-- a row above one that isn't less than a key isn't either
not_less : (x y key : Row) → order x y ≡ Less → is_lt (order x key) ≡ false → is_lt (order y key) ≡ false
not_less x y key below h = cases (is_lt (order y key)) refl
  where
    cases : (b : Bool) → is_lt (order y key) ≡ b → b ≡ false
    cases false e = refl
    cases true e = absurd (false≢true (sym h ∙ ap is_lt (order_total.trans x y key below (less (order y key) e))))

-- a step of a bisection: all rows up to one that stands before a row do so, and all from one that
-- doesn't do not
module _ (rows : List Row) (places : List ℕ) (stands : IsNameOrder rows places) (key : Row) (m : ℕ) (inside : m < length places) where
  pub before_more : is_lt (order (row_at rows (slice_index places m)) key) ≡ true → (k : ℕ) → k < m + 1
      → order (row_at rows (slice_index places k)) key ≡ Less
  before_more h k up_to = elim (cases_lt k m) [
    | inl earlier ↦ order_total.trans (row_at rows (slice_index places k)) (row_at rows (slice_index places m)) key (stands.rising k m earlier inside) (less _ h)
    | inr here ↦ let e : m ≡ k = omega (arith, here, up_to) in subst (λ n. order (row_at rows (slice_index places n)) key ≡ Less) e (less _ h)
  ]

  pub behind_more : is_lt (order (row_at rows (slice_index places m)) key) ≡ false → (k : ℕ) → m ≤ k
      → k < length places → is_lt (order (row_at rows (slice_index places k)) key) ≡ false
  behind_more h k from within = elim (cases_lt m k) [
    | inl later ↦ not_less (row_at rows (slice_index places m)) (row_at rows (slice_index places k)) key (stands.rising m k later within) h
    | inr here ↦ let e : m ≡ k = omega (arith, here, from) in subst (λ n. is_lt (order (row_at rows (slice_index places n)) key) ≡ false) e h
  ]

-- a search tests the row in the middle of those that are left: where it stands before the row, all
-- up to it do; where it doesn't, none from it on does
module _ (rows : List Row) (places : List ℕ) (stands : IsNameOrder rows places) (key : Row) (low high : ℕ) (some : low < high)
    (within : high ≤ length places) (place : ℕ) (told : Bool) (is : place ≡ slice_index places (low + (high - low) / 2))
    (test : told ≡ is_lt (order (row_at rows place) key)) where
  half_inside : low + (high - low) / 2 < length places
  half_inside = omega (arith, some, within)

  half_told : (b : Bool) → told ≡ b → is_lt (order (row_at rows (slice_index places (low + (high - low) / 2))) key) ≡ b
  half_told b h = ap (λ p. is_lt (order (row_at rows p) key)) (sym is) ∙ sym test ∙ h

  pub before_half : told ≡ true → (k : ℕ) → k < low + (high - low) / 2 + 1
      → order (row_at rows (slice_index places k)) key ≡ Less
  before_half h = before_more rows places stands key (low + (high - low) / 2) half_inside (half_told true h)

  pub behind_half : told ≡ false → (k : ℕ) → low + (high - low) / 2 ≤ k → k < length places
      → is_lt (order (row_at rows (slice_index places k)) key) ≡ false
  behind_half h = behind_more rows places stands key (low + (high - low) / 2) half_inside (half_told false h)
