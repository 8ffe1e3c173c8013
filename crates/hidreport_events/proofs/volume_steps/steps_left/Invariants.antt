use Rattle.std.proofs.Common.{◌≡◌, drop}
use Rattle.hidreport_events.specs.Readers.{steps_from, steps_left}
use Rattle.hidreport_events.specs.Reports.{own_sources, own_values}
use Rattle.hidreport_events.proofs.volume_steps.steps_left.Given as goal

-- what is left behind those so far is left for those behind them
abbrev pub invariant-loop-index : goal.invariant-loop-index
invariant-loop-index l =
    steps_from 0 l.field (own_sources l.field l.sources) (own_values l.field l.values) l.fn.left
    ≡ steps_from l.index l.field (own_sources l.field l.sources)
    (drop l.index (own_values l.field l.values)) l.left
