use Rattle.std.proofs.Common.{◌≡◌, drop}
use Rattle.hidreport_events.specs.Readers.{steps_left_by}
use Rattle.hidreport_events.proofs.volume_steps.steps_left_by.Given as goal

-- what is left behind the fields so far is left for those behind them
abbrev pub invariant-loop-field : goal.invariant-loop-field
invariant-loop-field l =
    steps_left_by l.fields l.sources l.values 4096
    ≡ steps_left_by (drop l.field-index l.fields) l.sources l.values l.left
