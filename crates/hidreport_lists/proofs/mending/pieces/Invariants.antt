use Rattle.std.proofs.Common.{◌≡◌, ◌+◌, length}
use Rattle.hidreport_lists.specs.Mending.{pieces_from}
use Rattle.hidreport_lists.proofs.MendingLemmas.{with_pieces}
use Rattle.hidreport_lists.proofs.mending.pieces.Given as goal

-- the pieces so far, and then those of the rest, are those of all the bytes
abbrev pub invariant-loop-rest : goal.invariant-loop-rest
invariant-loop-rest l = record {
  place : l.offset + length l.rest ≡ length l.bytes;
  pieces : with_pieces l.pieces.items (pieces_from l.leave_out_cut_short l.offset 0 l.rest)
      ≡ pieces_from l.leave_out_cut_short 0 0 l.bytes;
}

abbrev pub decreases-loop-rest : goal.decreases-loop-rest
decreases-loop-rest l = length l.rest
