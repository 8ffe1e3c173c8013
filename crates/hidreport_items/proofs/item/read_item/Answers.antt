use Rattle.std.proofs.Common.{◌∙◌, ap, sym}
use Rattle.std.proofs.lemmas.Result.{err_from_is_err_and}
use Rattle.hidreport_items.specs.declared.item.ItemType.TheVariants as item
use Rattle.hidreport_items.specs.Spelling.{read_as}
use Rattle.hidreport_items.proofs.ReadingLemmas.{item_of-main, item_of-global, item_of-local}
use Rattle.hidreport_items.proofs.item.read_item.Goals as goal

pub returns-in_err-from_parts-in-0 : goal.returns-in_err-from_parts-in-0
returns-in_err-from_parts-in-0 c =
    let p = err_from_is_err_and c.from_residual.result c.from_residual.ensures.1 in
    rw (p.1, p.2) (sym (item_of-main c.args.header c.args.data_bytes.now c.in-0.is
    ∙ ap (read_as item.Main) (sym c.in_err-from_parts-in-0.ensures)))

pub returns-in_err-from_parts-in-1 : goal.returns-in_err-from_parts-in-1
returns-in_err-from_parts-in-1 c =
    let p = err_from_is_err_and c.from_residual-in_err-from_parts-in-1.result
    c.from_residual-in_err-from_parts-in-1.ensures.1 in
    rw (p.1, p.2) (sym (item_of-global c.args.header c.args.data_bytes.now c.in-1.is
    ∙ ap (read_as item.Global) (sym c.in_err-from_parts-in-1.ensures)))

pub returns-in_err-from_parts-in-2 : goal.returns-in_err-from_parts-in-2
returns-in_err-from_parts-in-2 c =
    let p = err_from_is_err_and c.from_residual-in_err-from_parts-in-2.result
    c.from_residual-in_err-from_parts-in-2.ensures.1 in
    rw (p.1, p.2) (sym (item_of-local c.args.header c.args.data_bytes.now c.in-2.is
    ∙ ap (read_as item.Local) (sym c.in_err-from_parts-in-2.ensures)))
