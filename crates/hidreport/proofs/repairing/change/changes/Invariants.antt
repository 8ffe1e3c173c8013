use Rattle.std.proofs.Common.{◌≡◌, filter_map, map, take}
use Rattle.hidreport.specs.Repair.{change_in, change_view}
use Rattle.hidreport.proofs.repairing.change.changes.Given as goal

-- the changes of the pieces so far
abbrev pub invariant-loop-piece : goal.invariant-loop-piece
invariant-loop-piece l =
    map change_view l.changes.items ≡ filter_map change_in (take l.piece-index l.pieces)
