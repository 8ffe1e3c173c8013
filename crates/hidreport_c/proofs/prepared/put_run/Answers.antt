use Rattle.hidreport_c.proofs.PreparedLemmas.{put-there}
use Rattle.hidreport_c.proofs.prepared.put_run.Goals as goal

pub returns-then-place-runs : goal.returns-then-place-runs
returns-then-place-runs c = λ made old at is.
    put-there made old c.args.runs.now c.args.place c.args.run at is c.if-place-runs.true
