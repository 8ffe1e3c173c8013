use Rattle.hidreport.specs.Runs.{HasNarrowValues}
use Rattle.hidreport_c.proofs.RunsLemmas.{each-run, item-at, run_item}
use Rattle.hidreport_c.proofs.prepared.all_hold.Goals as goal

pub holds-requires-clause-narrow : goal.holds-requires-clause-narrow
holds-requires-clause-narrow c =
    each-run HasNarrowValues c.args.runs.now c.loop-run.run-index (run_item c.args.runs.now c.loop-run.run-index)
    c.loop-run-test.true (item-at c.args.runs.now c.loop-run.run-index c.loop-run-test.true) c.requires.narrow
