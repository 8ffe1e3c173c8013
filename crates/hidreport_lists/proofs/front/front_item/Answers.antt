use Rattle.std.proofs.lemmas.Result.{err_from_is_err_and}
use Rattle.hidreport_items.specs.ItemFaults.{told_fault}
use Rattle.hidreport_lists.proofs.FrontLemmas.{parts-err, parts-ok}
use Rattle.hidreport_lists.proofs.front.front_item.Goals as goal

pub returns-in_err-item-clause-fault : goal.returns-in_err-item-clause-fault
returns-in_err-item-clause-fault c =
    let p = err_from_is_err_and c.from_residual-in_err-item.result c.from_residual-in_err-item.ensures.1 in
    rw (p.1, p.2) (parts-err c.in_ok-parts.parts c.args.bytes.now
    (told_fault c.in_err-item.field-0.0) c.in_ok-parts.ensures.parts c.in_err-item.ensures)

pub returns-clause-item : goal.returns-clause-item
returns-clause-item c = parts-ok c.in_ok-parts.parts c.args.bytes.now c.in_ok-item.item
    c.in_ok-parts.ensures.parts c.in_ok-item.ensures
