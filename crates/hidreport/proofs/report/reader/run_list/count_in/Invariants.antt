use Rattle.std.proofs.Common.{◌≡◌, take}
use Rattle.hidreport.specs.Runs.{count_in}
use Rattle.hidreport.proofs.report.reader.run_list.count_in.Given as goal

-- the values of the runs before this one
abbrev pub invariant-loop-run : goal.invariant-loop-run
invariant-loop-run l = l.count ≡ count_in (take l.run-index l.runs)
