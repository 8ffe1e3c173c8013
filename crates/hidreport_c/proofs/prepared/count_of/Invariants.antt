use Rattle.std.proofs.Common.{◌≡◌, ◌+◌, ◌<◌, ◌^◌, drop}
use Rattle.hidreport.specs.Runs.{count_in}
use Rattle.hidreport_c.specs.Prepared.{as_runs}
use Rattle.hidreport_c.proofs.prepared.count_of.Given as goal

-- what is counted, and what the runs that are left have
abbrev pub invariant-loop-run : goal.invariant-loop-run
invariant-loop-run l =
    (l.count + count_in (as_runs (drop l.run-index l.runs)) ≡ count_in (as_runs l.runs))
    × (l.count < 2 ^ 64)
