use Rattle.hidreport_lists.proofs.CutLemmas.{items_or_fault, itemise-items, itemise-fault}
use Rattle.hidreport_lists.proofs.laws.bytes_are_items_or_have_a_fault.Goals as goal

pub returns : goal.returns
returns c = record { either = items_or_fault; one_way = itemise-items; one_fault = itemise-fault }
