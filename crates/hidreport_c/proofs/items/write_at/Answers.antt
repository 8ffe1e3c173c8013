use Rattle.hidreport_c.proofs.FrontItemsLemmas.{item-written}
use Rattle.hidreport_c.proofs.items.write_at.Goals as goal

pub returns-then-place-items : goal.returns-then-place-items
returns-then-place-items c = λ before old at sofar.
    item-written before old c.args.items.now c.args.place c.args.item at sofar
    c.if-place-items.true
