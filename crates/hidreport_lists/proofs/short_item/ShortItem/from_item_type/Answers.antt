use Rattle.std.proofs.Common.{◌∙◌, ap, sym}
use Rattle.hidreport_items.specs.ItemFaults.{told_fault}
use Rattle.hidreport_items.specs.Spelling.{item_of}
use Rattle.hidreport_lists.specs.Itemising.{short_item}
use Rattle.hidreport_lists.proofs.ItemLemmas.{item-fault}
use Rattle.hidreport_lists.proofs.short_item.ShortItem.from_item_type.Goals as goal

pub returns-in-Err-clause-exact : goal.returns-in-Err-clause-exact
returns-in-Err-clause-exact c =
    item-fault c.args.item.now (told_fault c.in-Err._no_bytes)
    (ap (short_item item_of) (sym (c.as_slice.ensures ∙ c.write_item.ensures))
    ∙ sym c.in-Err.ensures)
