use Rattle.hidreport_c.specs.Prepared.{IsSoFar}
use Rattle.hidreport_c.proofs.prepared.hidreport_prepare.Given as goal

-- the runs of the fields so far, of which one isn't written yet
abbrev pub invariant-loop-field : goal.invariant-loop-field
invariant-loop-field l =
    IsSoFar l.fields l.field-index l.last l.initial.runs l.runs l.done
