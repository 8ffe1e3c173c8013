use Rattle.std.proofs.Common.{◌≡◌, drop}
use Rattle.hidreport_events.specs.Lamps.{behind_events}
use Rattle.hidreport_events.proofs.lamp.take_events.Given as goal

-- the events so far, and those behind them, are all
abbrev pub invariant-loop-event : goal.invariant-loop-event
invariant-loop-event l =
    behind_events l.events l.fn.lamps
    ≡ behind_events (drop l.event-index l.events) l.lamps
