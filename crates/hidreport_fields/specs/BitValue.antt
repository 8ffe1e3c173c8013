-- Value of a bit range (Section 5.8): bits are counted from the lowest of byte 0 on.
use Rattle.std.specs.Prelude.{ℕ, ◌+◌, ◌-◌, ◌*◌, ◌/◌, ◌%◌, ◌^◌, zero, suc, Bool, true, false, List}
use Rattle.std.specs.Prelude.{slice_index, ℤ, pos, negsuc, ◌-ℤ◌}

-- bit n: bit n mod 8, counted from the lowest, of byte n / 8
abbrev pub bit : List ℕ → ℕ → ℕ
bit bytes n = slice_index bytes (n / 8) / 2 ^ (n % 8) % 2

-- the sum over i below `width` of bit s + i times 2 ^ i
abbrev pub sum_of_bits : List ℕ → ℕ → ℕ → ℕ
sum_of_bits bytes s zero = 0
sum_of_bits bytes s (suc width) = sum_of_bits bytes s width + bit bytes (s + width) * 2 ^ width

-- the same; where it is signed the top bit's term is negative
abbrev pub value : List ℕ → ℕ → ℕ → Bool → ℤ
value bytes s width false = pos (sum_of_bits bytes s width)
value bytes s zero true = pos 0
value bytes s (suc width) true =
    pos (sum_of_bits bytes s width) -ℤ pos (bit bytes (s + width) * 2 ^ width)

-- a number as 32 bits: 2 ^ 32 is added where it is negative
abbrev pub as_word : ℤ → ℕ
as_word (pos n) = n
as_word (negsuc n) = 2 ^ 32 - (n + 1)
