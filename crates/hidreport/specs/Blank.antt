-- A report without values (Section 5.6): all bits 0 but those of its id.
use Rattle.std.specs.Prelude.{ℕ, ◌+◌, ◌/◌, List, [], ◌∷◌, replicate, Option, None, Some}

-- the first byte is the report's id, where it has one
abbrev pub with_first : Option ℕ → List ℕ → List ℕ
with_first None bytes = bytes
with_first (Some id) [] = []
with_first (Some id) (b ∷ bytes) = id ∷ bytes

-- as many bytes as a report of so many bits has
abbrev pub blank_bytes : Option ℕ → ℕ → List ℕ
blank_bytes id size = with_first id (replicate ((size + 7) / 8) 0)
