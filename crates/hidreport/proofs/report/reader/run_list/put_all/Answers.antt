use Rattle.std.proofs.Common.{◌∙◌, ◌+◌, ap, sym}
use Rattle.hidreport.specs.Runs.{numbers_from, set_from}
use Rattle.hidreport.proofs.RunListLemmas.{count-taken, put-taken}
use Rattle.hidreport.proofs.report.reader.run_list.put_all.Goals as goal

pub loop-run-preserved : goal.loop-run-preserved
loop-run-preserved c =
    let runs = c.args.runs.now in
    let bytes = c.args.bytes.now in
    let i = c.loop-run.run-index in
    let run = c.run-item.result in (
      ap (λ n. c.loop-run.place + n) c.count-place.ensures
          ∙ ap (λ n. n + run.count) c.loop-run.invariant.0
          ∙ sym (count-taken runs i run c.loop-run-test.true c.run-item.is),
      c.put.ensures
          ∙ ap (set_from c.loop-run.place (numbers_from run bytes 0 run.count)) c.loop-run.invariant.1
          ∙ put-taken runs i run bytes c.loop-run.place c.args.values.now c.loop-run-test.true
          c.run-item.is c.loop-run.invariant.0,
    )
