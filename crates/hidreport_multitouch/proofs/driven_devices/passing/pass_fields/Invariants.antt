use Rattle.std.proofs.Common.{drop}
use Rattle.hidreport_multitouch.specs.Passing.{PassesFields}
use Rattle.hidreport_multitouch.specs.declared.driven_devices.DrivenDevices.{DrivenDevices}
use Rattle.hidreport_multitouch.proofs.driven_devices.passing.pass_fields.Given as goal

-- who goes over those behind the ones so far has gone over all
abbrev pub invariant-loop-field : goal.invariant-loop-field
invariant-loop-field l =
    (end : DrivenDevices)
    → PassesFields l.reading (drop l.field-index l.fields) l.devices end
    → PassesFields l.reading l.fields l.fn.devices end
