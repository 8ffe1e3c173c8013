use Rattle.std.proofs.Common.{◌≡◌, drop, length}
use Rattle.hidreport.specs.Runs.{count_in, runs_fit}
use Rattle.hidreport.proofs.report.reader.run_list.all_fit.Given as goal

-- what is left to be asked is the answer
abbrev pub invariant-loop-run : goal.invariant-loop-run
invariant-loop-run l = (length l.rest ≡ count_in (drop l.run-index l.runs))
    × (runs_fit l.runs l.values ≡ runs_fit (drop l.run-index l.runs) l.rest)
