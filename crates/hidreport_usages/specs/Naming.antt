-- A text that names a number.
use Rattle.std.specs.Prelude.{◌≡◌, ℕ, ◌<◌, List, Option, Some, MatchOption}

-- the one number of 16 bits that has the name, or none where no such number has it
abbrev pub IsOnlyNamed : (ℕ → Option (List ℕ)) → List ℕ → Option ℕ → Type 0
IsOnlyNamed name_of name only = MatchOption only
    ((n : ℕ) → n < 65536 → name_of n ≡ Some name → ⊥)
    (λ o. (o < 65536) × (name_of o ≡ Some name)
    × ((n : ℕ) → n < 65536 → name_of n ≡ Some name → n ≡ o))
