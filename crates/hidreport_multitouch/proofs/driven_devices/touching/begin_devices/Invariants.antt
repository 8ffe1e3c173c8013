use Rattle.std.proofs.Common.{◌≡◌, ◌≤◌, vec_len}
use Rattle.hidreport_multitouch.specs.Fields.{touched_up_to}
use Rattle.hidreport_multitouch.proofs.driven_devices.touching.begin_devices.Given as goal

-- so many have codes, and the rest follows
abbrev pub invariant-loop-device : goal.invariant-loop-device
invariant-loop-device l =
    (vec_len l.touched ≡ l._device) × ((l._device ≤ l.current)
    × (touched_up_to l.current l.touched.items ≡ touched_up_to l.current l.fn.touched.items))
