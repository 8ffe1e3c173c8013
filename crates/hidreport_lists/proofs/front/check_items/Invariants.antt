use Rattle.std.proofs.Common.{◌≡◌, ◌+◌, length}
use Rattle.hidreport_items.specs.Spelling.{item_of}
use Rattle.hidreport_lists.specs.Itemising.{items_from}
use Rattle.hidreport_lists.proofs.FrontLemmas.{fault_in}
use Rattle.hidreport_lists.proofs.front.check_items.Given as goal

-- the fault of the rest is that of all the bytes
abbrev pub invariant-loop-rest : goal.invariant-loop-rest
invariant-loop-rest l = record {
  place : l.offset + length l.rest ≡ l.fn.offset + length l.fn.bytes;
  fault : fault_in (items_from item_of l.offset 0 l.rest)
      ≡ fault_in (items_from item_of l.fn.offset 0 l.fn.bytes);
}

abbrev pub decreases-loop-rest : goal.decreases-loop-rest
decreases-loop-rest l = length l.rest
