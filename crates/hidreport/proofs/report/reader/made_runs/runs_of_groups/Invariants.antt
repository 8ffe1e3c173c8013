use Rattle.std.proofs.Common.{take}
use Rattle.hidreport.specs.Groups.{fields_of_groups}
use Rattle.hidreport.specs.Runs.{runs_of}
use Rattle.hidreport.specs.SameRuns.{SameRuns}
use Rattle.hidreport.proofs.report.reader.made_runs.runs_of_groups.Given as goal

-- the runs read and write what the groups before this one do
abbrev pub invariant-loop-group : goal.invariant-loop-group
invariant-loop-group l =
    SameRuns l.runs.items (runs_of (fields_of_groups (take l.group-index l.groups)))
