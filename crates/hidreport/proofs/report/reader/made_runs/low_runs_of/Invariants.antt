use Rattle.std.proofs.Common.{◌≡◌, map, take}
use Rattle.std.specs.Prelude.{flat_map}
use Rattle.hidreport.specs.LowBits.{low_fields}
use Rattle.hidreport.specs.Runs.{runs_of}
use Rattle.hidreport_fields.specs.Views.{field_record}
use Rattle.hidreport.proofs.report.reader.made_runs.low_runs_of.Given as goal

-- the runs are those of the fields before this one
abbrev pub invariant-loop-field : goal.invariant-loop-field
invariant-loop-field l = l.runs.items
    ≡ runs_of (flat_map low_fields (map field_record (take l.field-index l.fields)))
