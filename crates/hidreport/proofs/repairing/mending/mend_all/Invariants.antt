use Rattle.hidreport.proofs.RepairLemmas.{Done}
use Rattle.hidreport.proofs.repairing.mending.mend_all.Given as goal

-- the pieces so far are mended, and this is held behind their items
abbrev pub invariant-loop-piece : goal.invariant-loop-piece
invariant-loop-piece l =
    Done l.options l.initial.pieces l.pieces l.piece-index l.budget l.state
