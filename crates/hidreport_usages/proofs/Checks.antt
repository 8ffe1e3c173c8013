-- Tests of a table, each in one walk over it.
use Rattle.std.specs.Prelude.{ℕ, suc, ◌-◌, ◌/◌, Bool, true, ◌&&◌, nat_lt, nat_le, not, ◌==◌, List, [], ◌∷◌}
use Rattle.std.specs.Prelude.{take, drop, length, slice_index, slice_index_or, is_none}
use Rattle.std.specs.Ordering.{is_lt}
use Rattle.hidreport_usages.specs.Families.{family_of}
use Rattle.hidreport_usages.specs.Rows.{Row, row_at, page_order}

-- each number is above the one before, the first above n
abbrev pub rises_from : ℕ → List ℕ → Bool
rises_from n [] = true
rises_from n (x ∷ xs) = nat_lt n x && rises_from x xs

-- the pieces of a text up to each end
abbrev pub cut : ℕ → List ℕ → List ℕ → List (List ℕ)
cut from [] text = []
cut from (end ∷ ends) text = take (end - from) text ∷ cut end ends (drop (end - from) text)

-- each end is at least the one before, and at most the last
abbrev pub ends_rise : ℕ → List ℕ → ℕ → Bool
ends_rise from [] last = nat_le from last
ends_rise from (end ∷ ends) last = nat_le from end && ends_rise end ends last

-- each letter is plain
abbrev pub are_plain : List ℕ → Bool
are_plain [] = true
are_plain (letter ∷ letters) = nat_lt letter 128 && are_plain letters

-- each place has a row
abbrev pub are_places : List Row → List ℕ → Bool
are_places rows [] = true
are_places rows (p ∷ places) = nat_lt p (length rows) && are_places rows places

-- the rows at these places stand by name, those of one name by page, behind the row x
abbrev pub stand_from : Row → List Row → List ℕ → Bool
stand_from x rows [] = true
stand_from x rows (p ∷ places) = let y = row_at rows p in is_lt (page_order x y) && stand_from y rows places

-- the places at these ranks are n and those behind it
abbrev pub rank_from : List ℕ → ℕ → List ℕ → Bool
rank_from places n [] = true
rank_from places n (rank ∷ ranks) = (slice_index_or places rank (suc n) == n) && rank_from places (suc n) ranks

-- no row is on a page of a family
abbrev pub are_apart : List Row → Bool
are_apart [] = true
are_apart (row ∷ rows) = is_none (family_of (row.0 / 65536)) && are_apart rows

-- each row is of a page below those of vendors, with another name than they have
abbrev pub are_no_vendors : List Row → Bool
are_no_vendors [] = true
are_no_vendors (row ∷ rows) = (nat_lt row.0 0xff00 && not (slice_index row.1 6 == 45)) && are_no_vendors rows
