-- A table of names: numbers that rise, each with its name.
use Rattle.std.specs.Prelude.{◌≡◌, ℕ, ◌/◌, ◌<◌, ◌≤◌, ◌==◌, false, if◌then◌else◌, List, [], ◌∷◌}
use Rattle.std.specs.Prelude.{length, slice_index, slice_index_or, Option, Some, None, MatchOption}
use Rattle.std.specs.Cmp.Lexicographic.{slice_cmp}
use Rattle.std.specs.Ordering.{nat_cmp, ordering_then, is_lt}
use Rattle.std.specs.declared.cmp.Ordering.{Ordering}
use Rattle.std.specs.declared.cmp.Ordering.TheVariants.{Less}

-- a number and the letters of its name
abbrev pub Row : Type 0
Row = ℕ × List ℕ

-- the name that a number has, if it has one
abbrev pub name_in : List Row → ℕ → Option (List ℕ)
name_in [] number = None
name_in (row ∷ rows) number = if row.0 == number then Some row.1 else name_in rows number

-- the row at a place, the first at 0
abbrev pub row_at : List Row → ℕ → Row
row_at rows place = slice_index_or rows place (0, [])

-- the row at the place gives the number its name
pub record IsPlaceOf (rows : List Row) (number place : ℕ) : Type 0 where
  pub within : place < length rows
  pub names : name_in rows number ≡ Some (row_at rows place).1

-- the first number from a number on that has the name, or none where no such number has it
abbrev pub IsFirstNamed : (ℕ → Option (List ℕ)) → List ℕ → ℕ → Option ℕ → Type 0
IsFirstNamed name_of name from first = MatchOption first
    ((n : ℕ) → from ≤ n → name_of n ≡ Some name → ⊥)
    (λ f. (from ≤ f) × (name_of f ≡ Some name)
    × ((n : ℕ) → from ≤ n → name_of n ≡ Some name → f ≤ n))

-- how two rows stand: by name, letter by letter, and rows of one name by number
abbrev pub order : Row → Row → Ordering
order x y = ordering_then (slice_cmp nat_cmp x.1 y.1) (nat_cmp x.0 y.0)

-- the same, where rows of one name stand by their pages alone
abbrev pub page_order : Row → Row → Ordering
page_order x y = ordering_then (slice_cmp nat_cmp x.1 y.1) (nat_cmp (x.0 / 65536) (y.0 / 65536))

-- The places of all rows, as they stand by name: each is one of a row, each row has one, and they
-- rise by name, those of one name by page; so a name stands once on a page, as `Select` does on Game
-- Controls' page and on others.
pub record IsNameOrder (rows : List Row) (places : List ℕ) : Type 0 where
  pub within : (k : ℕ) → k < length places → slice_index places k < length rows
  pub rising : (i j : ℕ) → i < j → j < length places
      → order (row_at rows (slice_index places i)) (row_at rows (slice_index places j)) ≡ Less
  pub apart : (i j : ℕ) → i < j → j < length places
      → page_order (row_at rows (slice_index places i)) (row_at rows (slice_index places j)) ≡ Less
  pub complete : (p : ℕ) → p < length rows
      → (k : ℕ) × (k < length places) × (slice_index places k ≡ p)

-- how many rows stand before a row: those up to the rank do, and no others
pub record IsRank (rows : List Row) (places : List ℕ) (row : Row) (rank : ℕ) : Type 0 where
  pub within : rank ≤ length places
  pub before : (k : ℕ) → k < rank → order (row_at rows (slice_index places k)) row ≡ Less
  pub behind : (k : ℕ) → rank ≤ k → k < length places
      → is_lt (order (row_at rows (slice_index places k)) row) ≡ false
