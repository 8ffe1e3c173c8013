-- Presses one by one.
use Rattle.std.proofs.Common.{◌≡◌, ℕ, ◌+◌, ◌-◌, ◌<◌, suc, ap, arith}
use Rattle.hidreport_events.specs.Senders.{SenderRecord}
use Rattle.hidreport_events.specs.Turning.{pressed_often, pressed_once}
use Rattle.hidreport_linux.specs.declared.event_code.EventCode.{EventCode}

-- where one press more is left, it is the next
pub press_step : (count step : ℕ) (key : EventCode) (s : SenderRecord) → step < count
    → pressed_often (count - step) key s
    ≡ pressed_often (count - (step + 1)) key (pressed_once key s)
press_step count step key s h =
    let one : count - step ≡ suc (count - (step + 1)) = omega arith in
    ap (λ k. pressed_often k key s) one
