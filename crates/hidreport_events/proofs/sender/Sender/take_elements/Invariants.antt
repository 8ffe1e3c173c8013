use Rattle.std.proofs.Common.{◌≡◌, drop}
use Rattle.hidreport_events.specs.Choices.{behind_elements, elements_from}
use Rattle.hidreport_events.proofs.sender.Sender.take_elements.Given as goal

-- those so far, and those behind them, are all
abbrev pub invariant-loop-index : goal.invariant-loop-index
invariant-loop-index l =
    behind_elements l.rank l.field l.sources l.before l.values l.fn.self
    ≡ elements_from l.index l.rank l.field l.sources l.before (drop l.index l.values) l.self
