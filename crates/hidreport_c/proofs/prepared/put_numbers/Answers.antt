use Rattle.std.proofs.Common.{◌≡◌, ◌*◌, subst, sym, true}
use Rattle.hidreport.specs.Runs.{HasAllValues, is_inside}
use Rattle.hidreport_c.proofs.RunsLemmas.{each-run, item-at, run_item}
use Rattle.hidreport_c.specs.Prepared.{as_run}
use Rattle.hidreport_c.proofs.prepared.put_numbers.Goals as goal

pub put_numbers-requires-clause-there : goal.put_numbers-requires-clause-there
put_numbers-requires-clause-there c =
    subst (λ n. is_inside (as_run (run_item c.args.runs.now c.loop-run.run-index)) (8 * n) ≡ true) (sym c.loop-run.invariant.1)
    (each-run (HasAllValues c.args.report.now) c.args.runs.now c.loop-run.run-index
    (run_item c.args.runs.now c.loop-run.run-index) c.loop-run-test.true (item-at c.args.runs.now c.loop-run.run-index c.loop-run-test.true) c.requires.there).inside
