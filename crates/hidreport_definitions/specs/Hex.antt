-- Bytes as two hexadecimal digits each, for the rows.
use Rattle.std.specs.Prelude.{ℕ, ◌+◌, ◌-◌, ◌*◌, nat_lt, if◌then◌else◌, List, [], ◌∷◌}

abbrev pub digit : ℕ → ℕ
digit c = if nat_lt c 58 then c - 48 else c - 87

-- the bytes of a text such as `codes "05 01"`
abbrev pub hex : List ℕ → List ℕ
hex [] = []
hex (a ∷ []) = []
hex (a ∷ b ∷ []) = (16 * digit a + digit b) ∷ []
hex (a ∷ b ∷ c ∷ text) = (16 * digit a + digit b) ∷ hex text
