use Rattle.std.proofs.Common.{◌≡◌, ◌+◌, ◌≤◌, [], length, true}
use Rattle.hidreport_items.specs.Spelling.{item_of}
use Rattle.hidreport_lists.specs.Itemising.{items_from}
use Rattle.hidreport.specs.Parser.Budget.{in_groups, walk_items_to}
use Rattle.hidreport.specs.Parser.ItemPlaces.{placed}
use Rattle.hidreport.specs.Parser.Machine.{first_state}
use Rattle.hidreport.proofs.parser.walk.Given as goal

-- the walk over the rest from what is held, with what is left, is the walk over all bytes, and so are
-- the places
abbrev pub invariant-loop-rest : goal.invariant-loop-rest
invariant-loop-rest l = record {
  place : l.place.offset + length l.rest ≡ length l.bytes;
  counted : l.place.index ≤ l.place.offset;
  walk : walk_items_to in_groups l.budget l.state (items_from item_of l.place.offset 0 l.rest)
      ≡ walk_items_to in_groups l.fn.options.limit (first_state l.fn.options) (items_from item_of 0 0 l.bytes);
  places : l.beside.keeps_places ≡ true → placed l.places.items l.state l.place.index (items_from item_of l.place.offset 0 l.rest)
      ≡ placed [] (first_state l.fn.options) 0 (items_from item_of 0 0 l.bytes);
}

abbrev pub decreases-loop-rest : goal.decreases-loop-rest
decreases-loop-rest l = length l.rest
