use Rattle.std.proofs.Common.{◌≡◌, ◌∙◌, [], ◌∷◌, ap, sym, length}
use Rattle.std.proofs.Common.{slice_set, w64, refl, arith}
use Rattle.std.proofs.lemmas.Int.{to_z-of_z}
use Rattle.hidreport.specs.Answer.{OutOfBounds}
use Rattle.hidreport.specs.Choosing.{value_number}
use Rattle.hidreport.specs.Reader.{each_alone, numbers_before}
use Rattle.hidreport.proofs.AvailableLemmas.{stops-there, there-count, there-next}
use Rattle.hidreport_c.proofs.ListsLemmas.{written-full, written-length, written-next}
use Rattle.hidreport_c.specs.Answer.{array_after}
use Rattle.hidreport_c.specs.Value.{element_at}
use Rattle.hidreport_c.proofs.structs.HidreportField.put_available.Goals as goal
use Rattle.hidreport_c.proofs.structs.HidreportField.put_available.Goals.{then-index-values, else-index-values}

pub returns-in_default-clause-values : goal.returns-in_default-clause-values
returns-in_default-clause-values c =
    let f = c.args.self.now in
    c.loop-index.invariant.1 ∙ ap (λ l. array_after l c.args.values.now)
    (sym (stops-there (element_at f c.args.report.now) c.loop-index.index f.value_count OutOfBounds
    c.loop-index-test.true c.loop-index.invariant.0 (c.in_default.ensures.outside refl)))

pub returns-in_default-clause-count : goal.returns-in_default-clause-count
returns-in_default-clause-count c =
    let f = c.args.self.now in
    sym (ap length (stops-there (element_at f c.args.report.now) c.loop-index.index f.value_count
    OutOfBounds c.loop-index-test.true c.loop-index.invariant.0 (c.in_default.ensures.outside refl))
    ∙ c.loop-index.invariant.0)

pub loop-index-preserved : goal.loop-index-preserved
loop-index-preserved c =
    let read = element_at c.args.self.now c.args.report.now in
    let index = c.loop-index.index in
    let old = c.args.values.now in
    let value = c.in-Some.value in
    let there = c.in-Some.ensures.value in
    let count = c.loop-index.invariant.0 in
    let before = numbers_before (each_alone read 0 index) in
    let next = there-next read index value count there in
    let whole : length c.loop-index.values ≡ length old =
    ap length c.loop-index.invariant.1 ∙ written-length before old in
    elim c.if-index-values.branch [
      | then-index-values w ↦ (
        there-count read index value count there,
        w.values-is ∙ ap (λ z. slice_set c.loop-index.values index z)
            (to_z-of_z w64 w.from.result (record { sfits = w.from.type_inv }) ∙ w.from.ensures)
            ∙ ap (λ l. slice_set l index (value_number value)) c.loop-index.invariant.1
            ∙ ap (λ k. slice_set (array_after before old) k (value_number value)) (sym count)
            ∙ written-next before old (value_number value)
            (omega (arith, count, whole, w.if-index-values.true))
            ∙ ap (λ l. array_after l old) (sym next),
      )
      | else-index-values w ↦ (
        there-count read index value count there,
        w.values-is ∙ c.loop-index.invariant.1
            ∙ written-full before (value_number value ∷ []) old
            (omega (arith, count, whole, w.if-index-values.false))
            ∙ ap (λ l. array_after l old) (sym next),
      )
    ]
