use Rattle.std.proofs.Common.{◌≡◌, ◌≢◌, ◌+◌, ◌∙◌, [], ap, arith, length, length-drop, sym}
use Rattle.hidreport_items.specs.ItemFaults.{told_fault}
use Rattle.hidreport_items.specs.Spelling.{item_of}
use Rattle.hidreport_lists.specs.Itemising.{items_from}
use Rattle.hidreport_lists.proofs.FrontLemmas.{fault_in, fault-behind, fault-some}
use Rattle.hidreport_lists.proofs.FrontLemmas.{front-first}
use Rattle.hidreport_lists.proofs.ItemLemmas.{items_from-fault}
use Rattle.hidreport_lists.proofs.front.check_items.Goals as goal

pub overflow_add-offset : goal.overflow_add-offset
overflow_add-offset c =
    omega (arith, c.in-Ok.ensures.item.0, c.loop-rest.invariant.place, c.requires)

pub loop-rest-smaller : goal.loop-rest-smaller
loop-rest-smaller c =
    let some = (front-first c.loop-rest.offset c.loop-rest.rest.now c.in-Ok.front
    c.in-Ok.ensures.item).0 in
    rw c.split_at.ensures.back (simp length-drop (omega (arith, some, c.in-Ok.ensures.item.0)))

pub loop-rest-preserved : goal.loop-rest-preserved
loop-rest-preserved c =
    let rest = c.loop-rest.rest.now in
    let front = c.in-Ok.front in
    record {
      place = rw c.split_at.ensures.back (simp length-drop
          (omega (arith, c.in-Ok.ensures.item.0, c.loop-rest.invariant.place)));
      fault = ap (λ l. fault_in (items_from item_of (c.loop-rest.offset + front.size) 0 l))
          c.split_at.ensures.back
          ∙ fault-behind c.loop-rest.offset rest front c.in-Ok.ensures.item
          ∙ c.loop-rest.invariant.fault;
    }

pub returns-in-Err-clause-fault : goal.returns-in-Err-clause-fault
returns-in-Err-clause-fault c =
    let more : c.loop-rest.rest.now ≢ [] =
    λ e. let l : length c.loop-rest.rest.now ≡ 0 = ap length e in grind
    (arith, c.is_empty.ensures, c.loop-rest-test.true) in
    fault-some _ (c.loop-rest.offset, told_fault c.in-Err.fault)
    (sym c.loop-rest.invariant.fault
    ∙ ap fault_in (items_from-fault c.loop-rest.offset c.loop-rest.rest.now
    (told_fault c.in-Err.fault) more c.in-Err.ensures.fault))
