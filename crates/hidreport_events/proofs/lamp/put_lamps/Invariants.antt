use Rattle.std.proofs.Common.{◌≡◌, drop}
use Rattle.hidreport_events.specs.Lamps.{with_lamps}
use Rattle.hidreport_events.proofs.lamp.put_lamps.Given as goal

-- the lamps so far, and those behind them, are all
abbrev pub invariant-loop-lamp : goal.invariant-loop-lamp
invariant-loop-lamp l =
    with_lamps l.id l.lamps l.fn.bytes
    ≡ with_lamps l.id (drop l.lamp-index l.lamps) l.bytes
