use Rattle.std.proofs.Common.{◌≡◌, ◌+◌, length, ◌∙◌, ap, arith}
use Rattle.std.specs.Prelude.{slice_set}
use Rattle.hidreport_c.proofs.ListsLemmas.{part-left, part-written}
use Rattle.hidreport_c.proofs.part.write_behind.Goals as goal
use Rattle.hidreport_c.proofs.part.write_behind.Goals.{then-place-array, else-place-array}

pub loop-part-preserved : goal.loop-part-preserved
loop-part-preserved g c =
    let parts = c.args.parts.now in
    let i = c.loop-part.part-index in
    let p = c.part-item.result in (
      omega (arith, c.loop-part.invariant.0),
      λ before old begun h.
          let sofar = c.loop-part.invariant.1 before old begun h in
          let at : c.loop-part.place ≡ length before + i =
          omega (arith, begun, c.loop-part.invariant.0) in
          elim c.if-place-array.branch [
            | then-place-array w ↦
                w.array-is
                ∙ ap (λ x. slice_set c.loop-part.array c.loop-part.place x) w.in_c.ensures
                ∙ part-written g.P.Part.in_c parts i p before old c.loop-part.array
                c.loop-part.place c.loop-part-test.true c.part-item.is at sofar
                w.if-place-array.true
            | else-place-array w ↦
                w.array-is
                ∙ part-left g.P.Part.in_c parts i p before old c.loop-part.array
                c.loop-part.place c.loop-part-test.true c.part-item.is at sofar
                w.if-place-array.false
          ],
    )
