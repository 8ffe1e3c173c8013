use Rattle.std.proofs.Common.{◌≡◌, drop}
use Rattle.hidreport_events.specs.Choices.{behind_choices, choices_from}
use Rattle.hidreport_events.proofs.sender.Sender.take_choices.Given as goal

-- those so far, and those behind them, are all
abbrev pub invariant-loop-index : goal.invariant-loop-index
invariant-loop-index l =
    behind_choices l.field l.sources l.before l.values l.fn.self
    ≡ choices_from l.index l.field l.sources l.before l.values (drop l.index l.values) l.self
