use Rattle.std.proofs.Common.{◌≡◌, ◌∙◌, Err, List, ℕ, subst, sym}
use Rattle.std.proofs.lemmas.Result.{err_from_is_err_and}
use Rattle.hidreport_items.specs.ItemFaults.{told_fault}
use Rattle.hidreport_items.specs.Spelling.{item_of}
use Rattle.hidreport_lists.specs.Itemising.{short_item}
use Rattle.hidreport_lists.proofs.ItemLemmas.{short_item-err}
use Rattle.hidreport_lists.proofs.short_item.ShortItem.read.Goals as goal

pub returns-in_err-item : goal.returns-in_err-item
returns-in_err-item c =
    let p = err_from_is_err_and c.from_residual.result c.from_residual.ensures.1 in
    let fault = told_fault c.in_err-item.field-0.0 in
    rw (p.1, p.2) (subst (λ (l : List ℕ). Err fault ≡ short_item item_of l)
    (sym c.in-Some.ensures.cases.0)
    (short_item-err c.in-Some.header.now c.in-Some.after.now c.announced-announced.result fault
    (sym c.is_long_header.ensures ∙ c.if-is_long_header.false)
    c.announced-announced.ensures.value c.if-after-announced.false c.in_err-item.ensures))
