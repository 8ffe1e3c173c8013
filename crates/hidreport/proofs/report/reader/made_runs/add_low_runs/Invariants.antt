use Rattle.std.proofs.Common.{◌≡◌, ◌++◌}
use Rattle.hidreport.specs.Fields.{each_from}
use Rattle.hidreport.specs.LowBits.{low_run}
use Rattle.hidreport.proofs.report.reader.made_runs.add_low_runs.Given as goal

-- those before this one are there, and room for the others
abbrev pub invariant-loop-index : goal.invariant-loop-index
invariant-loop-index l =
    l.runs.items ≡ l.initial.runs.items ++ each_from (low_run l.run) 0 l.index
