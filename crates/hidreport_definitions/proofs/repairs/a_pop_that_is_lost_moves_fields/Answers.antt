use Rattle.std.proofs.Common.{◌≡◌, ℕ, List, filter_map, Result, Ok, Err, arith, ap}
use Rattle.std.proofs.Common.{sym, ◌∙◌}
use Rattle.hidreport_lists.proofs.CutLemmas.{itemise-items}
use Rattle.hidreport.specs.Entry.{Entry}
use Rattle.hidreport.specs.ItemAnswer.{GrammarFault}
use Rattle.hidreport.specs.ItemType.{ItemType}
use Rattle.hidreport.specs.Making.{extent}
use Rattle.hidreport.specs.Itemising.{itemise}
use Rattle.hidreport.specs.Mending.{PieceRecord, item_in, pieces}
use Rattle.hidreport.specs.Options.{reading_of}
use Rattle.hidreport.specs.Places.{bits_of}
use Rattle.hidreport.specs.Rebuilt.{items_of}
use Rattle.hidreport.specs.Repair.{RepairedRecord}
use Rattle.hidreport.specs.RepairLaws.{KeepsBits}
use Rattle.hidreport.specs.Spelling.{item_of}
use Rattle.hidreport.specs.declared.parse_options.ParseOptions.{ParseOptions}
use Rattle.hidreport.specs.declared.repairing.repair_options.RepairOptions.{RepairOptions}
use Rattle.hidreport_definitions.specs.Repairs.{as_hid_core, by_globals}
use Rattle.hidreport_definitions.proofs.repairs.a_pop_that_is_lost_moves_fields.Goals as goal

-- the bits that the item at 5 would add
abbrev bits_in : ParseOptions → List ItemType → ℕ
bits_in options items = bits_of (extent (reading_of options items 5))

abbrev bits_of_pieces : ParseOptions → Result (List PieceRecord) (ℕ × GrammarFault) → ℕ
bits_of_pieces options (Ok ps) = bits_in options (filter_map item_in ps)
bits_of_pieces options (Err fault) = 0

abbrev bits_of_entries : ParseOptions → Result (List Entry) (ℕ × GrammarFault) → ℕ
bits_of_entries options (Ok entries) = bits_in options (items_of entries)
bits_of_entries options (Err fault) = 0

-- where bits are kept, the item at 5 adds as many to what hid-core reads as to what is repaired
same-bits : (options : RepairOptions) (bytes : List ℕ) (r : RepairedRecord)
    → KeepsBits options bytes r
    → bits_of_pieces options.parse (pieces options.leave_out_cut_short bytes)
    ≡ bits_of_entries options.parse (itemise item_of r.bytes)
same-bits options bytes r law =
    ap (bits_of_pieces options.parse) law.reads ∙ ap bits_of (law.places.extents 5)
    ∙ sym (ap (bits_of_entries options.parse) (itemise-items item_of _ _ law.written))

pub returns-clause-locals : goal.returns-clause-locals
returns-clause-locals c = λ law.
    let same : 8 ≡ 16 = same-bits as_hid_core _ _ law in omega (arith, same)

pub returns-clause-globals : goal.returns-clause-globals
returns-clause-globals c = λ law.
    let same : 8 ≡ 16 = same-bits by_globals _ _ law in omega (arith, same)
