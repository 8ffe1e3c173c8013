use Rattle.std.proofs.Common.{map, take}
use Rattle.hidreport.specs.Runs.{runs_of}
use Rattle.hidreport.specs.SameRuns.{SameRuns}
use Rattle.hidreport_fields.specs.Views.{field_record}
use Rattle.hidreport.proofs.report.reader.made_runs.runs_of.Given as goal

-- the runs read and write what the fields before this one do
abbrev pub invariant-loop-field : goal.invariant-loop-field
invariant-loop-field l =
    SameRuns l.runs.items (runs_of (map field_record (take l.field-index l.fields)))
