use Rattle.std.proofs.Common.{◌≡◌, drop}
use Rattle.std.specs.List.{position_from}
use Rattle.hidreport_multitouch.specs.Fields.{is_application}
use Rattle.hidreport_multitouch.proofs.driven_devices.touching.application_in.Given as goal

-- none so far is the application
abbrev pub invariant-loop-index : goal.invariant-loop-index
invariant-loop-index l =
    position_from (is_application l.usage) 0 l.applications
    ≡ position_from (is_application l.usage) l.index (drop l.index l.applications)
