use Rattle.std.proofs.Common.{◌≡◌, ◌≢◌, ◌+◌, ◌∙◌, [], ◌∷◌, ap, sym, length, length-drop, drop, Ok}
use Rattle.std.proofs.Common.{Err, subst, arith}
use Rattle.std.proofs.lemmas.Grind.{common_steps}
use Rattle.hidreport_items.specs.Spelling.{is_long_header, item_of}
use Rattle.hidreport_lists.specs.ShortOrLong.{spelling_of, is_long_one}
use Rattle.hidreport_lists.specs.Itemising.{items_from}
use Rattle.hidreport_lists.proofs.CutLemmas.{are_bytes, answer-done, answer-items, answer-only}
use Rattle.hidreport_lists.proofs.CutLemmas.{answer-fault, answer-only_fault}
use Rattle.hidreport_lists.proofs.ShortItemLemmas.{itemises-so}
use Rattle.hidreport_lists.proofs.ItemLemmas.{front-header, items_from-item, refuses-fault}
use Rattle.hidreport_lists.proofs.ItemLemmas.{with_front}
use Rattle.hidreport_lists.proofs.ItemLemmas.{with_front-more, at_offset}
use Rattle.hidreport_lists.proofs.list.ReportDescriptorItems.try_from.Goals as goal

pub split_at-requires : goal.split_at-requires
split_at-requires c =
    let step = items_from-item c.loop-rest.offset c.loop-rest.rest.now (spelling_of c.in-Ok.item)
    c.in-Ok.ensures.exact in
    omega (arith, step.0, c.size-size.ensures)

pub invariant_of-push : goal.invariant_of-push
invariant_of-push c =
    let item = c.in-Ok.item in
    subst (λ n. is_long_one item ≡ is_long_header n)
    (sym (front-header c.loop-rest.rest.now (spelling_of item) c.in-Ok.ensures.exact))
    c.in-Ok.ensures.kind

pub loop-rest-smaller : goal.loop-rest-smaller
loop-rest-smaller c =
    let step = items_from-item c.loop-rest.offset c.loop-rest.rest.now (spelling_of c.in-Ok.item)
    c.in-Ok.ensures.exact in
    rw c.split_at.ensures.back (simp length-drop
    (omega (arith, step.0, step.1, c.size-size.ensures)))

pub loop-rest-preserved : goal.loop-rest-preserved
loop-rest-preserved c =
    let offset = c.loop-rest.offset in
    let rest = c.loop-rest.rest.now in
    let item = spelling_of c.in-Ok.item in
    let step = items_from-item offset rest item c.in-Ok.ensures.exact in
    let after : items_from item_of (offset + c.size-size.result) 0 c.split_at.result.1.now
    ≡ items_from item_of (offset + length item.bytes) 0 (drop (length item.bytes) rest) =
    ap (items_from item_of (offset + c.size-size.result) 0) c.split_at.ensures.back
    ∙ ap (λ k. items_from item_of (offset + k) 0 (drop k rest)) c.size-size.ensures in
    record {
      place = rw c.split_at.ensures.back
          (simp length-drop (omega (
            arith,
            step.0,
            c.size-size.ensures,
            c.loop-rest.invariant.place,
          )));
      items =
          ap (λ l. with_front l (items_from item_of (offset + c.size-size.result) 0
          c.split_at.result.1.now)) c.in_ok-push-in-Ok.ensures.items
          ∙ with_front-more c.loop-rest.items.items (at_offset offset item)
          (items_from item_of (offset + c.size-size.result) 0 c.split_at.result.1.now)
          ∙ ap (with_front c.loop-rest.items.items)
          (ap (with_front (at_offset offset item ∷ [])) after ∙ sym step.2)
          ∙ c.loop-rest.invariant.items;
    }

pub returns-in-Err-clause-exact : goal.returns-in-Err-clause-exact
returns-in-Err-clause-exact c =
    let some : c.args.bytes.now ≢ [] =
    λ e. let l : length c.args.bytes.now ≡ 0 = ap length e in grind
    (arith, c.is_empty.ensures) in
    let more : c.loop-rest.rest.now ≢ [] =
    λ e. let l : length c.loop-rest.rest.now ≡ 0 = ap length e in grind
    (arith, c.is_empty-in-loop-rest.ensures) in
    refuses-fault c.args.bytes.now c.loop-rest.rest.now c.loop-rest.items.items c.loop-rest.offset
    c.in-Err.fault c.fault_at-in-Err.result some more
    c.loop-rest.invariant.items c.in-Err.ensures.exact c.fault_at-in-Err.ensures.named
    c.fault_at-in-Err.ensures.memory

pub returns-in-Err-clause-only_items : goal.returns-in-Err-clause-only_items
returns-in-Err-clause-only_items c =
    answer-only item_of c.args.bytes.now (Err c.fault_at-in-Err.result)
    (returns-in-Err-clause-exact c)

pub returns-in-Err-clause-fault : goal.returns-in-Err-clause-fault
returns-in-Err-clause-fault c =
    answer-fault item_of c.args.bytes.now (Err c.fault_at-in-Err.result)
    (are_bytes c.args.bytes.now (λ i. omega (arith, c.type_inv.bytes i)))
    (returns-in-Err-clause-exact c)

pub returns-in-Err-clause-only_fault : goal.returns-in-Err-clause-only_fault
returns-in-Err-clause-only_fault c =
    answer-only_fault item_of c.args.bytes.now (Err c.fault_at-in-Err.result)
    (returns-in-Err-clause-exact c)

pub returns-clause-exact : goal.returns-clause-exact
returns-clause-exact c =
    let some : c.args.bytes.now ≢ [] =
    λ e. let l : length c.args.bytes.now ≡ 0 = ap length e in grind
    (arith, c.is_empty.ensures) in
    let none : length c.loop-rest.rest.now ≡ 0 =
    grind (arith, common_steps, c.is_empty-in-loop-rest.ensures, c.loop-rest-test.false) in
    answer-done item_of c.args.bytes.now c.loop-rest.rest.now c.loop-rest.items.items
    c.loop-rest.offset some none c.loop-rest.invariant.items

pub returns-clause-items : goal.returns-clause-items
returns-clause-items c =
    answer-items item_of c.args.bytes.now (Ok c.loop-rest.items.items)
    (are_bytes c.args.bytes.now (λ i. omega (arith, c.type_inv.bytes i)))
    (returns-clause-exact c)

pub returns-clause-only_items : goal.returns-clause-only_items
returns-clause-only_items c =
    answer-only item_of c.args.bytes.now (Ok c.loop-rest.items.items) (returns-clause-exact c)

pub returns-clause-only_fault : goal.returns-clause-only_fault
returns-clause-only_fault c =
    answer-only_fault item_of c.args.bytes.now (Ok c.loop-rest.items.items) (returns-clause-exact c)

pub returns-in-Err-clause-short : goal.returns-in-Err-clause-short
returns-in-Err-clause-short c =
    λ entries i. returns-in-Err-clause-only_items c entries
    (itemises-so item_of c.args.bytes.now entries i)

pub returns-clause-short : goal.returns-clause-short
returns-clause-short c = λ entries i. returns-clause-only_items c entries
    (itemises-so item_of c.args.bytes.now entries i)
