use Rattle.std.proofs.Common.{◌≡◌, drop, length}
use Rattle.hidreport.specs.Runs.{count_in, runs_put}
use Rattle.hidreport_c.specs.Prepared.{as_runs}
use Rattle.hidreport_c.proofs.prepared.put_numbers.Given as goal

-- what is left to be put makes the bytes
abbrev pub invariant-loop-run : goal.invariant-loop-run
invariant-loop-run l = (length l.rest ≡ count_in (as_runs (drop l.run-index l.runs)))
    × (length l.report ≡ length l.initial.report)
    × (runs_put (as_runs l.runs) l.values l.initial.report
    ≡ runs_put (as_runs (drop l.run-index l.runs)) l.rest l.report)
