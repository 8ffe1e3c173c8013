use Rattle.std.proofs.Common.{◌≡◌, take}
use Rattle.hidreport.specs.Repair.{joined}
use Rattle.hidreport.proofs.repairing.change.joined.Given as goal

-- the bytes of the pieces so far
abbrev pub invariant-loop-piece : goal.invariant-loop-piece
invariant-loop-piece l = l.bytes.items ≡ joined (take l.piece-index l.pieces)
