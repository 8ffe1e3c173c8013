use Rattle.std.proofs.Common.{◌≡◌, drop, length}
use Rattle.hidreport.specs.Runs.{count_in, runs_fit}
use Rattle.hidreport_c.specs.Prepared.{as_runs}
use Rattle.hidreport_c.proofs.prepared.all_hold.Given as goal

-- what is left to be asked is the answer
abbrev pub invariant-loop-run : goal.invariant-loop-run
invariant-loop-run l = (length l.rest ≡ count_in (as_runs (drop l.run-index l.runs)))
    × (runs_fit (as_runs l.runs) l.values ≡ runs_fit (as_runs (drop l.run-index l.runs)) l.rest)
