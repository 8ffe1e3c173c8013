use Rattle.std.proofs.Common.{◌≡◌, drop}
use Rattle.std.specs.List.{position_from}
use Rattle.hidreport_events.specs.Lamps.{has_number}
use Rattle.hidreport_events.proofs.lamp.place_of.Given as goal

-- no lamp so far has the number
abbrev pub invariant-loop-place : goal.invariant-loop-place
invariant-loop-place l =
    position_from (has_number l.number) 0 l.lamps
    ≡ position_from (has_number l.number) l.place (drop l.place l.lamps)
