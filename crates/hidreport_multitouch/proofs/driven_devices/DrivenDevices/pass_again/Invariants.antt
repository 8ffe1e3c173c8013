use Rattle.std.proofs.Common.{◌-◌, replicate}
use Rattle.hidreport_multitouch.specs.Passing.{GoesOverAll}
use Rattle.hidreport_multitouch.specs.declared.driven_devices.DrivenDevices.{DrivenDevices}
use Rattle.hidreport_multitouch.proofs.driven_devices.DrivenDevices.pass_again.Given as goal

-- who goes over those that are left has gone over all
abbrev pub invariant-loop-element : goal.invariant-loop-element
invariant-loop-element l =
    (end : DrivenDevices)
    → GoesOverAll l.item (replicate (l.count - l._element) l.usage) l.self end
    → GoesOverAll l.fn.item (replicate l.count l.usage) l.fn.self end
