use Rattle.std.proofs.Common.{◌≡◌, ◌≤◌, length, drop, take}
use Rattle.hidreport_lists.specs.Mending.{ends_unknown, without_ended}
use Rattle.hidreport_lists.proofs.mending.leave_out_ended.Given as goal

-- the pieces from the index on are done, those before it are as they were
abbrev pub invariant-loop-index : goal.invariant-loop-index
invariant-loop-index l = record {
  within : l.index ≤ length l.pieces;
  before : take l.index l.pieces ≡ take l.index l.fn.pieces;
  behind : drop l.index l.pieces ≡ without_ended (drop l.index l.fn.pieces);
  unknown : l.is_unknown ≡ ends_unknown (drop l.index l.fn.pieces);
  size : length l.pieces ≡ length l.fn.pieces;
}

abbrev pub decreases-loop-index : goal.decreases-loop-index
decreases-loop-index l = l.index
