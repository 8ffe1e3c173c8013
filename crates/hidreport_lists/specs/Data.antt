-- The tag and the data bytes of an item, and what the data is taken for (Sections 6.2.2.2 and
-- 6.2.2.3).
use Rattle.std.specs.Prelude.{ℕ, ◌/◌, if◌then◌else◌, List, [], ◌∷◌, ◌++◌, length, drop}
use Rattle.std.specs.Prelude.{Option, None, Some}
use Rattle.std.specs.Prelude.{Result, Ok, Err, codes, decimal}
use Rattle.hidreport_items.specs.Answer.{GrammarFault, Invalid, Insufficient}
use Rattle.hidreport_items.specs.Numbers.{word, is_short_length}
use Rattle.hidreport_items.specs.Spelling.{first_or_zero}

-- a short item's tag is the upper four bits of its header; its data stands behind it
abbrev pub short_tag : List ℕ → ℕ
short_tag bytes = first_or_zero bytes / 16

-- the data of a short item: all but its header
abbrev pub short_data : List ℕ → List ℕ
short_data bytes = drop 1 bytes

-- a long item's tag is its third byte; its data stands behind it
abbrev pub long_tag : List ℕ → ℕ
long_tag bytes = first_or_zero (drop 2 bytes)

-- the data of a long item: all but header, size and tag
abbrev pub long_data : List ℕ → List ℕ
long_data bytes = drop 3 bytes

-- the data is of a length that no short item has
abbrev pub length_message : ℕ → List ℕ
length_message n = codes "Size of " ++ (decimal n ++ codes " cannot happen")

-- the data is more than one byte
abbrev pub byte_message : ℕ → List ℕ
byte_message n = codes "Cannot convert " ++ (decimal n ++ codes " bytes to u8")

-- data of 1, 2 or 4 bytes
abbrev pub of_data : {A : Type 0} → List ℕ → A → Result A GrammarFault
of_data [] x = Err Insufficient
of_data (b ∷ bs) x =
    if is_short_length (length (b ∷ bs)) then Ok x
    else Err (Invalid (length_message (length (b ∷ bs))))

-- data as an unsigned number
abbrev pub data_number : List ℕ → Result ℕ GrammarFault
data_number bs = of_data bs (word bs)

-- data as a list of its own
abbrev pub data_list : List ℕ → Result (List ℕ) GrammarFault
data_list bs = of_data bs bs

-- data as one byte
abbrev pub data_byte : List ℕ → Result ℕ GrammarFault
data_byte [] = Err Insufficient
data_byte (b ∷ []) = Ok b
data_byte (b ∷ c ∷ bs) = Err (Invalid (byte_message (length (b ∷ c ∷ bs))))

-- the data, where there is some
abbrev pub some_data : List ℕ → Option (List ℕ)
some_data [] = None
some_data (b ∷ bs) = Some (b ∷ bs)
