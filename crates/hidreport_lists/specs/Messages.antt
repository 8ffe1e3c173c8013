-- The texts inside a parser's refusals.
use Rattle.std.specs.Prelude.{ℕ, List, ◌++◌, codes}
use Rattle.hidreport_items.specs.Answer.{GrammarFault, Invalid, Insufficient}

-- an item that can't be read, for this reason
abbrev pub grammar_message : GrammarFault → List ℕ
grammar_message (Invalid message) = codes "Invalid data: " ++ message
grammar_message Insufficient = codes "Insufficient data"
