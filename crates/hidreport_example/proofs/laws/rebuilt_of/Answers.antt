use Rattle.hidreport.specs.Itemising.{itemise}
use Rattle.hidreport.specs.Spelling.{item_of}
use Rattle.hidreport_example.proofs.LawLemmas.{rebuilt-of}
use Rattle.hidreport_example.proofs.laws.rebuilt_of.Goals as goal

pub returns : goal.returns
returns c = record {
  entries = c.in_ok-_items._items;
  items = c.in_ok-_items.ensures.items;
  same = rebuilt-of (itemise item_of c.args.bytes.now) c.in_ok-_items._items
      c.in_ok-rebuilt.rebuilt.items c.in_ok-_items.ensures.exact c.in_ok-rebuilt.ensures.exact;
}
