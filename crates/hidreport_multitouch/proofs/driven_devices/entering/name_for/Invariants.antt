use Rattle.std.proofs.Common.{◌≡◌, drop}
use Rattle.std.specs.List.{position_from}
use Rattle.hidreport_multitouch.specs.Fields.{takes_name}
use Rattle.hidreport_multitouch.proofs.driven_devices.entering.name_for.Given as goal

-- no name so far takes the application
abbrev pub invariant-loop-index : goal.invariant-loop-index
invariant-loop-index l =
    position_from (takes_name l.application) 0 l.names
    ≡ position_from (takes_name l.application) l.index (drop l.index l.names)
