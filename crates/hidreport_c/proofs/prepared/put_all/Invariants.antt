use Rattle.std.proofs.Common.{◌≡◌, take}
use Rattle.hidreport.specs.Reader.{filled}
use Rattle.hidreport.specs.Runs.{all_numbers, count_in}
use Rattle.hidreport_c.specs.Prepared.{as_runs}
use Rattle.hidreport_c.proofs.prepared.put_all.Given as goal

-- the numbers of the runs before this one are in place
abbrev pub invariant-loop-run : goal.invariant-loop-run
invariant-loop-run l = (l.place ≡ count_in (take l.run-index (as_runs l.runs)))
    × (l.values ≡ filled (all_numbers (take l.run-index (as_runs l.runs)) l.report)
    l.initial.values)
