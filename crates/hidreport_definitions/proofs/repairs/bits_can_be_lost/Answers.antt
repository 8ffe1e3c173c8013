use Rattle.std.proofs.Common.{◌≡◌, ℕ, List, [], ◌∷◌, filter_map, map, Option, Some, Result, Ok}
use Rattle.std.proofs.Common.{Err, arith, refl, ap, sym, ◌∙◌}
use Rattle.hidreport_lists.proofs.CutLemmas.{itemise-items}
use Rattle.hidreport.specs.Entry.{Entry}
use Rattle.hidreport.specs.ItemAnswer.{GrammarFault, Insufficient}
use Rattle.hidreport.specs.ItemType.{ItemType}
use Rattle.hidreport_fields.specs.declared.field.data_item.Direction.{Direction}
use Rattle.hidreport_fields.specs.declared.field.data_item.Direction.TheVariants.{Input, Output}
use Rattle.hidreport.specs.Making.{extent}
use Rattle.hidreport.specs.Mending.{PieceRecord, item_in}
use Rattle.hidreport.specs.Options.{default_options, reading_of}
use Rattle.hidreport.specs.Places.{bits_of}
use Rattle.hidreport.specs.Rebuilt.{items_of}
use Rattle.hidreport.specs.RepairLaws.{item_direction}
use Rattle.hidreport.specs.Spelling.{item_of}
use Rattle.hidreport_definitions.proofs.repairs.bits_can_be_lost.Goals as goal

abbrev cut_short : Result (List PieceRecord) (ℕ × GrammarFault)
cut_short = Err (0, Insufficient)

-- the directions of what is read, and of what is written
abbrev of_pieces : Result (List PieceRecord) (ℕ × GrammarFault) → List (Option Direction)
of_pieces (Ok ps) = map item_direction (filter_map item_in ps)
of_pieces (Err fault) = []

abbrev of_entries : Result (List Entry) (ℕ × GrammarFault) → List (Option Direction)
of_entries (Ok entries) = map item_direction (items_of entries)
of_entries (Err fault) = []

-- the bits that the item at 2 would add
abbrev bits_in : List ItemType → ℕ
bits_in items = bits_of (extent (reading_of default_options items 2))

abbrev bits_of_pieces : Result (List PieceRecord) (ℕ × GrammarFault) → ℕ
bits_of_pieces (Ok ps) = bits_in (filter_map item_in ps)
bits_of_pieces (Err fault) = 0

abbrev bits_of_entries : Result (List Entry) (ℕ × GrammarFault) → ℕ
bits_of_entries (Ok entries) = bits_in (items_of entries)
bits_of_entries (Err fault) = 0

abbrev one : Direction → List (Option Direction)
one d = Some d ∷ []

pub returns-clause-not_read : goal.returns-clause-not_read
returns-clause-not_read c = λ keeps. let none : cut_short ≡ Ok keeps.read = keeps.reads in cc

pub returns-clause-nothing : goal.returns-clause-nothing
returns-clause-nothing c = λ keeps. keeps.written.some refl

pub returns-clause-direction : goal.returns-clause-direction
returns-clause-direction c = λ keeps.
    let same : one Input ≡ one Output = ap of_pieces keeps.reads ∙ keeps.places.directions
    ∙ sym (ap of_entries (itemise-items item_of _ _ keeps.written)) in cc

pub returns-clause-size : goal.returns-clause-size
returns-clause-size c = λ keeps.
    let same : 8 ≡ 16 = ap bits_of_pieces keeps.reads ∙ ap bits_of (keeps.places.extents 2)
    ∙ sym (ap bits_of_entries (itemise-items item_of _ _ keeps.written)) in omega (arith, same)
