use Rattle.std.proofs.Common.{◌≡◌, ◌+◌, length}
use Rattle.hidreport_items.specs.Spelling.{item_of}
use Rattle.hidreport_lists.specs.Itemising.{items_from}
use Rattle.hidreport_lists.proofs.ItemLemmas.{with_front}
use Rattle.hidreport_lists.proofs.list.ReportDescriptorItems.try_from.Given as goal

-- the items so far, and then those of the rest, are those of all the bytes
abbrev pub invariant-loop-rest : goal.invariant-loop-rest
invariant-loop-rest l = record {
  place : l.offset + length l.rest ≡ length l.bytes;
  items : with_front l.items.items (items_from item_of l.offset 0 l.rest) ≡ items_from item_of 0 0
      l.bytes;
}

abbrev pub decreases-loop-rest : goal.decreases-loop-rest
decreases-loop-rest l = length l.rest
