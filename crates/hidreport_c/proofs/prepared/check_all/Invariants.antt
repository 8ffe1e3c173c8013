use Rattle.std.proofs.Common.{take}
use Rattle.hidreport.specs.Runs.{HasAllValues}
use Rattle.hidreport.specs.Tiling.{Each}
use Rattle.hidreport_c.specs.Prepared.{as_runs}
use Rattle.hidreport_c.proofs.prepared.check_all.Given as goal

-- the runs before this one refuse nothing
abbrev pub invariant-loop-run : goal.invariant-loop-run
invariant-loop-run l = Each (HasAllValues l.report) (take l.run-index (as_runs l.runs))
