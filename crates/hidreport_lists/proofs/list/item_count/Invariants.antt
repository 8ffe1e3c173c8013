use Rattle.std.proofs.Common.{◌≡◌, ◌+◌, ◌-◌, ◌≤◌, drop, length}
use Rattle.hidreport_lists.specs.Headers.{headers_from}
use Rattle.hidreport_lists.proofs.list.item_count.Given as goal

-- the headers so far, and those of the rest, are all
abbrev pub invariant-loop-index : goal.invariant-loop-index
invariant-loop-index l = record {
  few : l.count ≤ l.index;
  all : l.count + headers_from 0 (drop l.index l.bytes) ≡ headers_from 0 l.bytes;
}

abbrev pub decreases-loop-index : goal.decreases-loop-index
decreases-loop-index l = length l.bytes - l.index
