-- The texts inside refusals.
use Rattle.std.specs.Prelude.{ℕ, ◌-◌, List, ◌++◌, length, replicate, codes, decimal, false}
use Rattle.std.specs.Fmt.{radix_digits}

-- the data has a length that no short item's data has
abbrev pub size_message : ℕ → List ℕ
size_message n = codes "Size " ++ (decimal n ++ codes " cannot happen")

-- a number in binary, with zeros before it up to six digits
abbrev pub six_digits : ℕ → List ℕ
six_digits n = replicate (6 - length (radix_digits 2 false n)) 48 ++ radix_digits 2 false n

-- the main item's header, without its size code, is none of the five
abbrev pub tag_message : ℕ → List ℕ
tag_message prefix = codes "Invalid item tag 0b" ++ six_digits prefix

-- a long item where a short one is asked for (Sections 6.2.2.2 and 6.2.2.3), and the other way
-- round
abbrev pub long_message : List ℕ
long_message = codes "Item is a long item"

-- the text for a short item where a long one is read
abbrev pub not_long_message : List ℕ
not_long_message = codes "Item is not a long item"
