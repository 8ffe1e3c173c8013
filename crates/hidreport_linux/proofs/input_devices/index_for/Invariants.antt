use Rattle.std.proofs.Common.{◌≡◌, drop}
use Rattle.std.specs.List.{position_from}
use Rattle.hidreport_linux.specs.Devices.{takes}
use Rattle.hidreport_linux.proofs.input_devices.index_for.Given as goal

-- no device so far takes it
abbrev pub invariant-loop-index : goal.invariant-loop-index
invariant-loop-index l =
    position_from (takes l.application) 0 l.devices
    ≡ position_from (takes l.application) l.index (drop l.index l.devices)
