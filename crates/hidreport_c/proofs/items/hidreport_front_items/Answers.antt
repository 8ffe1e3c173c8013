use Rattle.std.proofs.Common.{◌≡◌, ◌+◌, [], ◌∷◌, ◌++◌, length, ap, sym, ◌∙◌, arith}
use Rattle.std.proofs.Common.{append-nil, append_assoc, length-append}
use Rattle.hidreport_c.proofs.FrontItemsLemmas.{front-fault, front-more, front-none}
use Rattle.hidreport_c.proofs.FrontItemsLemmas.{front-some, front-whole}
use Rattle.hidreport_c.specs.Answer.{array_after, counted}
use Rattle.hidreport_c.specs.Items.{front_items}
use Rattle.hidreport_c.specs.declared.structs.HidreportItem.{HidreportItem}
use Rattle.hidreport_c.proofs.items.hidreport_front_items.Goals as goal
use Rattle.hidreport_c.proofs.items.hidreport_front_items.Goals.{In_default}

-- what was listed is all
listed : (c : In_default) → front_items 0 0 c.args.descriptor.now ≡ c.loop-rest.invariant.0
listed c =
    let inv = c.loop-rest.invariant in
    inv.2 ∙ ap (λ l. inv.0 ++ l)
    (front-none c.loop-rest.offset c.loop-rest.rest.now _ c.in_default.ensures.fault)
    ∙ append-nil inv.0

pub returns-in_default-clause-answer : goal.returns-in_default-clause-answer
returns-in_default-clause-answer c =
    c.counted.ensures ∙ ap counted (sym c.loop-rest.invariant.1
    ∙ ap length (sym (listed (goal.at.returns-in_default-clause-answer c).In_default)))

pub returns-in_default-clause-written : goal.returns-in_default-clause-written
returns-in_default-clause-written c =
    c.loop-rest.invariant.3 ∙ ap (λ l. array_after l c.args.items.now)
    (sym (listed (goal.at.returns-in_default-clause-written c).In_default))

pub returns-in_default-clause-whole : goal.returns-in_default-clause-whole
returns-in_default-clause-whole c = λ entries all. front-whole c.args.descriptor.now entries all

pub overflow_add-count : goal.overflow_add-count
overflow_add-count c =
    let inv = c.loop-rest.invariant in
    let at = c.in-Ok.ensures.item in
    let some = front-some c.loop-rest.rest.now c.in-Ok.front at in
    omega (arith, some, at.0, inv.4, inv.5)

pub loop-rest-smaller : goal.loop-rest-smaller
loop-rest-smaller c =
    let at = c.in-Ok.ensures.item in
    let some = front-some c.loop-rest.rest.now c.in-Ok.front at in
    omega (arith, some, at.0, c.split_at.ensures.back_len)

pub loop-rest-preserved : goal.loop-rest-preserved
loop-rest-preserved c =
    let inv = c.loop-rest.invariant in
    let at = c.in-Ok.ensures.item in
    let size = c.in-Ok.front.size in
    let offset = c.loop-rest.offset in
    let some = front-some c.loop-rest.rest.now c.in-Ok.front at in
    let item : HidreportItem = record { offset = offset; size = size } in
    let more = front-more offset c.loop-rest.rest.now c.in-Ok.front at
    ∙ ap (λ l. item ∷ front_items (offset + size) 0 l) (sym c.split_at.ensures.back) in (
      inv.0 ++ item ∷ [],
      omega (arith, length-append inv.0 (item ∷ []), inv.1),
      inv.2 ∙ ap (λ l. inv.0 ++ l) more
          ∙ sym (append_assoc inv.0 (item ∷ [])
          (front_items (offset + size) 0 c.split_at.result.1.now)),
      c.write_at.ensures inv.0 c.args.items.now inv.1 inv.3,
      omega (arith, at.0, inv.4, c.split_at.ensures.back_len),
      omega (arith, some, inv.5),
    )

pub returns-clause-whole : goal.returns-clause-whole
returns-clause-whole c = λ entries all. front-whole c.args.descriptor.now entries all

pub returns-in_default-clause-fault : goal.returns-in_default-clause-fault
returns-in_default-clause-fault c = λ offset fault bad.
    front-fault c.args.descriptor.now offset fault bad

pub returns-clause-fault : goal.returns-clause-fault
returns-clause-fault c = λ offset fault bad.
    front-fault c.args.descriptor.now offset fault bad
