-- What rebuilding gives, for the rows.
use Rattle.std.specs.Prelude.{ℕ, List, Result, Ok}
use Rattle.hidreport.specs.ItemAnswer.{GrammarFault}
use Rattle.hidreport.specs.Itemising.{itemise}
use Rattle.hidreport.specs.Rebuilt.{rebuild_answer}
use Rattle.hidreport.specs.Spelling.{item_of}
use Rattle.hidreport_definitions.specs.Hex.{hex}

-- the rebuilt bytes of those of a text
abbrev pub again : List ℕ → Result (List ℕ) (ℕ × GrammarFault)
again text = rebuild_answer (itemise item_of (hex text))

-- the answer is the bytes of a text
abbrev pub kept_bytes : List ℕ → Result (List ℕ) (ℕ × GrammarFault)
kept_bytes text = Ok (hex text)
