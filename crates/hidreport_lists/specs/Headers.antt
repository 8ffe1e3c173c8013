-- How many items begin in bytes, by what follows their headers (Sections 6.2.2.2 and 6.2.2.3).
use Rattle.std.specs.Prelude.{ℕ, ◌+◌, zero, suc, List, [], ◌∷◌}
use Rattle.hidreport_items.specs.Spelling.{following_length}

-- of the bytes, a count still belongs to the item before; the last item may be cut short
abbrev pub headers_from : ℕ → List ℕ → ℕ
headers_from inside [] = 0
headers_from zero (h ∷ bs) = 1 + headers_from (following_length h bs) bs
headers_from (suc inside) (b ∷ bs) = headers_from inside bs
