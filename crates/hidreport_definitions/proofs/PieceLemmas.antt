-- Pieces and entries of two bytes, of which repairs are told.
use Rattle.std.proofs.Common.{ℕ, [], ◌∷◌, None}
use Rattle.hidreport.specs.Entry.{Entry}
use Rattle.hidreport.specs.ItemType.{ItemType}
use Rattle.hidreport.specs.Mending.{PieceRecord, holding}

-- an item of two bytes that stands as it stood
abbrev pub unchanged : ℕ → ℕ → ℕ → ItemType → PieceRecord
unchanged offset a b x = holding None offset (a ∷ b ∷ []) (a ∷ b ∷ []) x

-- the same as it is written
abbrev pub written_at : ℕ → ℕ → ℕ → ItemType → Entry
written_at offset a b x = record { offset = offset; bytes = a ∷ b ∷ []; item = x }
