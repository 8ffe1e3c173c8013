use Rattle.std.proofs.Common.{◌≡◌, ◌-◌, unsigned_abs}
use Rattle.hidreport_events.specs.Turning.{pressed_often, volume_key}
use Rattle.hidreport_events.proofs.sender.Sender.turn_volume.Given as goal

-- the presses that are left make all of them
abbrev pub invariant-loop-step : goal.invariant-loop-step
invariant-loop-step l =
    pressed_often (unsigned_abs l.value) (volume_key l.value) l.fn.self
    ≡ pressed_often (unsigned_abs l.value - l._step) (volume_key l.value) l.self
