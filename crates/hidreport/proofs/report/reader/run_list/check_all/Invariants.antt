use Rattle.std.proofs.Common.{take}
use Rattle.hidreport.specs.Runs.{HasAllValues}
use Rattle.hidreport_fields.specs.Tiling.{Each}
use Rattle.hidreport.proofs.report.reader.run_list.check_all.Given as goal

-- the runs before this one refuse nothing
abbrev pub invariant-loop-run : goal.invariant-loop-run
invariant-loop-run l = Each (HasAllValues l.bytes) (take l.run-index l.runs)
