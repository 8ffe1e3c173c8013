use Rattle.std.proofs.Common.{◌∙◌, ◌+◌, ap, arith, sym}
use Rattle.hidreport.specs.Runs.{HasAllValues, numbers_from, set_from}
use Rattle.hidreport.proofs.RunListLemmas.{count-room, count-taken, put-taken}
use Rattle.hidreport_c.proofs.RunsLemmas.{each-run, item-at, run-at, run_item, within-runs}
use Rattle.hidreport_c.specs.Prepared.{as_run, as_runs}
use Rattle.hidreport_c.proofs.prepared.put_all.Goals as goal

pub put-requires-clause-there : goal.put-requires-clause-there
put-requires-clause-there c =
    (each-run (HasAllValues c.args.report.now) c.args.runs.now c.loop-run.run-index (run_item c.args.runs.now c.loop-run.run-index)
    c.loop-run-test.true (item-at c.args.runs.now c.loop-run.run-index c.loop-run-test.true) c.requires.there).inside

pub put-requires-clause-counted : goal.put-requires-clause-counted
put-requires-clause-counted c =
    let runs = c.args.runs.now in
    let i = c.loop-run.run-index in
    let room = count-room (as_runs runs) i (as_run (run_item c.args.runs.now c.loop-run.run-index))
    (within-runs runs i c.loop-run-test.true)
    (run-at runs i (run_item c.args.runs.now c.loop-run.run-index) c.loop-run-test.true (item-at c.args.runs.now c.loop-run.run-index c.loop-run-test.true)) in
    omega (arith, room, c.loop-run.invariant.0, c.requires.counted)

pub overflow_add-place : goal.overflow_add-place
overflow_add-place c =
    let runs = c.args.runs.now in
    let i = c.loop-run.run-index in
    let room = count-room (as_runs runs) i (as_run (run_item c.args.runs.now c.loop-run.run-index))
    (within-runs runs i c.loop-run-test.true)
    (run-at runs i (run_item c.args.runs.now c.loop-run.run-index) c.loop-run-test.true (item-at c.args.runs.now c.loop-run.run-index c.loop-run-test.true)) in
    record { fits = omega (arith, room, c.loop-run.invariant.0, c.requires.counted) }

pub loop-run-preserved : goal.loop-run-preserved
loop-run-preserved c =
    let runs = c.args.runs.now in
    let all = as_runs runs in
    let bytes = c.args.report.now in
    let i = c.loop-run.run-index in
    let run = as_run (run_item c.args.runs.now c.loop-run.run-index) in
    let within = within-runs runs i c.loop-run-test.true in
    let is = run-at runs i (run_item c.args.runs.now c.loop-run.run-index) c.loop-run-test.true (item-at c.args.runs.now c.loop-run.run-index c.loop-run-test.true) in (
      ap (λ n. n + run.count) c.loop-run.invariant.0 ∙ sym (count-taken all i run within is),
      c.put.ensures
          ∙ ap (set_from c.loop-run.place (numbers_from run bytes 0 run.count)) c.loop-run.invariant.1
          ∙ put-taken all i run bytes c.loop-run.place c.args.values.now within is
          c.loop-run.invariant.0,
    )
