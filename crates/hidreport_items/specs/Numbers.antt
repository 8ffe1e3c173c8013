-- Numbers in an item's data (Section 6.2.2.2): little-endian, unsigned or in two's complement.
use Rattle.std.specs.Prelude.{ℕ, ◌+◌, ◌*◌, ◌^◌, List, [], ◌∷◌, length, Bool, false, nat_le, ◌||◌}
use Rattle.std.specs.Prelude.{◌==◌, ℤ, pos, ◌-ℤ◌, if◌then◌else◌}

-- the unsigned word: the sum of byte i times 256 ^ i
abbrev pub word : List ℕ → ℕ
word [] = 0
word (b ∷ bs) = b + 256 * word bs

-- the top bit of the last byte is set
abbrev pub has_top_bit : List ℕ → Bool
has_top_bit [] = false
has_top_bit (b ∷ []) = nat_le 128 b
has_top_bit (b ∷ c ∷ bs) = has_top_bit (c ∷ bs)

-- the signed number: the word, less 256 ^ n where the top bit of the last of n bytes is set
abbrev pub signed : List ℕ → ℤ
signed bs = if has_top_bit bs then pos (word bs) -ℤ pos (256 ^ length bs) else pos (word bs)

-- the data of a short item has 0, 1, 2 or 4 bytes
abbrev pub is_short_length : ℕ → Bool
is_short_length n = nat_le n 2 || n == 4
