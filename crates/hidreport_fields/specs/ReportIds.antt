-- The ids of reports (Section 5.6).
use Rattle.std.specs.Prelude.{ℕ, ◌==◌, Bool, true, false, Option, None, Some}

-- two keys are the same
abbrev pub same_key : Option ℕ → Option ℕ → Bool
same_key None None = true
same_key (Some a) (Some b) = a == b
same_key None (Some b) = false
same_key (Some a) None = false

-- a report with an id begins with one byte for it
abbrev pub id_bits : Option ℕ → ℕ
id_bits None = 0
id_bits (Some id) = 8
