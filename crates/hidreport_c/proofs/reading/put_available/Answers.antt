use Rattle.std.proofs.Common.{arith, take}
use Rattle.hidreport_c.proofs.AvailableLemmas.{all-there, there-last, there-next, there-within}
use Rattle.hidreport_c.proofs.ListsLemmas.{more-joined}
use Rattle.hidreport_c.proofs.ReadingLemmas.{at-least, item, item-at}
use Rattle.hidreport_c.specs.Reading.{there_at, there_in}
use Rattle.hidreport_c.proofs.reading.put_available.Goals as goal

pub returns-in_err-count-clause-none : goal.returns-in_err-count-clause-none
returns-in_err-count-clause-none c = λ none.
    let fields = c.args.fields.now in
    let i = c.loop-field.field-index in
    let inv = c.loop-field.invariant in
    let is = item-at fields i c.loop-field-test.true in
    let past = at-least _ _ c.in_err-count.ensures in
    omega (
      arith,
      past,
      there-within fields i (item fields i) c.args.report.now c.loop-field-test.true
          is inv.0,
      inv.1,
      c.put_available-there.ensures.count,
    )

pub returns-then-there-field-clause-some : goal.returns-then-there-field-clause-some
returns-then-there-field-clause-some c =
    let fields = c.args.fields.now in
    let i = c.loop-field.field-index in
    let last = there-last fields i (item fields i) c.args.report.now c.loop-field-test.true
    (item-at fields i c.loop-field-test.true) c.loop-field.invariant.0
    (omega (arith, c.if-there-field.true, c.put_available-there.ensures.count)) in
    more-joined (there_in (take i fields) c.args.report.now)
    (there_at (item fields i) c.args.report.now) c.args.values.now last
    c.loop-field.invariant.1 c.put_available-there.ensures.count c.in_ok-count.ensures.1
    c.loop-field.invariant.2 c.min-begun.ensures c.put_available-there.ensures.values

pub loop-field-preserved : goal.loop-field-preserved
loop-field-preserved c =
    let fields = c.args.fields.now in
    let i = c.loop-field.field-index in
    let is = item-at fields i c.loop-field-test.true in
    let whole = c.loop-field.invariant.0 in
    let next = there-next fields i (item fields i) c.args.report.now c.loop-field-test.true is
    whole in
    let more = more-joined (there_in (take i fields) c.args.report.now)
    (there_at (item fields i) c.args.report.now) c.args.values.now next
    c.loop-field.invariant.1 c.put_available-there.ensures.count c.in_ok-count.ensures.1
    c.loop-field.invariant.2 c.min-begun.ensures c.put_available-there.ensures.values in (
      all-there fields i (item fields i) c.args.report.now c.loop-field-test.true is whole (omega (
        arith,
        c.if-there-field.false,
        c.put_available-there.ensures.count,
        c.put_available-there.ensures.most,
      )),
      more.0,
      more.1,
    )
