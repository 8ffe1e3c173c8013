-- What a descriptor announces under a limit, in short, and what its fields weigh.
use Rattle.std.specs.Prelude.{ℕ, Bool, true, false, List, ◌++◌, Some, Result, Ok, Err, codes}
use Rattle.hidreport.specs.Answer.{Refusal}
use Rattle.hidreport.specs.Budget.{parse_within}
use Rattle.hidreport.specs.Options.{default_options, parse_as}
use Rattle.hidreport.specs.Records.{DescriptorRecord}
use Rattle.hidreport.specs.Weight.{descriptor_weight}
use Rattle.hidreport_definitions.specs.Hex.{hex}
use Rattle.hidreport_definitions.specs.Summary.{DescriptorSummary, announced_by, in_short}

-- what the bytes of a text announce under a limit
abbrev pub within : ℕ → List ℕ → Result DescriptorSummary Refusal
within limit text = in_short (parse_within limit (hex text))

-- what at most so many bytes announce
abbrev pub of_at_most : ℕ → List ℕ → Result DescriptorSummary Refusal
of_at_most longest text = in_short (parse_as
    (record default_options { longest = Some longest }) (hex text))

abbrev pub is_announced : Result DescriptorRecord Refusal → Bool
is_announced (Ok d) = true
is_announced (Err refusal) = false

-- they announce something
abbrev pub is_read_within : ℕ → List ℕ → Bool
is_read_within limit text = is_announced (parse_within limit (hex text))

abbrev pub announced_weight : Result DescriptorRecord Refusal → Result ℕ Refusal
announced_weight (Ok d) = Ok (descriptor_weight d)
announced_weight (Err refusal) = Err refusal

-- what the fields weigh that the bytes of a text announce
abbrev pub weight_of : List ℕ → Result ℕ Refusal
weight_of text = announced_weight (announced_by text)

-- the same behind two items that open collections, the outer with one usage and the inner with two
abbrev pub inner_weight : List ℕ → Result ℕ Refusal
inner_weight text = weight_of (codes "05 01 09 02 a1 01 09 01 09 05 a1 00 " ++ text)
