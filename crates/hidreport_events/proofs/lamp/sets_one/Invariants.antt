use Rattle.std.proofs.Common.{◌≡◌, drop}
use Rattle.hidreport_events.specs.Lamps.{sets_one}
use Rattle.hidreport_events.proofs.lamp.sets_one.Given as goal

-- none so far sets one
abbrev pub invariant-loop-event : goal.invariant-loop-event
invariant-loop-event l =
    sets_one l.events l.lamps ≡ sets_one (drop l.event-index l.events) l.lamps
