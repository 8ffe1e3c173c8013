-- Bits beside two fields.
use Rattle.std.proofs.Common.{◌<◌, ◌≤◌, ◌+◌, ◌⊎◌, ℕ, [], ◌∷◌}
use Rattle.std.specs.Prelude.{All}
use Rattle.std.proofs.lemmas.List.Elements.{All-cons, All-nil}
use Rattle.hidreport.specs.Bits.{covered_bits}
use Rattle.hidreport.specs.Records.{FieldRecord, place_of}

-- a bit lies in no element of the field
abbrev pub Beside : ℕ → FieldRecord → Type 0
Beside n f = (n < (place_of f).first) ⊎ ((place_of f).first + covered_bits f ≤ n)

pub beside-both : (n : ℕ) (f g : FieldRecord) → Beside n f → Beside n g
    → All (Beside n) (f ∷ g ∷ [])
beside-both n f g first second = All-cons (Beside n) f (g ∷ []) first
    (All-cons (Beside n) g [] second (All-nil (Beside n)))
