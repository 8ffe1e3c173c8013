-- What the parser makes of a piece, from what is held.
use Rattle.std.specs.Prelude.{Bool}
use Rattle.hidreport_lists.specs.Mending.{PieceRecord, item_in}
use Rattle.hidreport.specs.Parser.Machine.{StateRecord, fault_held}
use Rattle.hidreport.specs.Repair.{padded_by, widened_in}

-- made padding where the item that it would be lacks usages here
abbrev pub padded_in : StateRecord → PieceRecord → PieceRecord
padded_in h p = padded_by (fault_held h (item_in p)) p

-- a maximum that was meant unsigned where that is asked for, then padding
abbrev pub mended_in : Bool → StateRecord → PieceRecord → PieceRecord
mended_in asked h p = padded_in h (widened_in asked h.item_state p)
