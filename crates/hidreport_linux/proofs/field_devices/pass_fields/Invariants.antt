use Rattle.std.proofs.Common.{drop}
use Rattle.hidreport_linux.specs.DevicesRecord.{DevicesRecord}
use Rattle.hidreport_linux.specs.FieldDevices.{PassesFields}
use Rattle.hidreport_linux.proofs.field_devices.pass_fields.Given as goal

-- who goes over those behind the ones so far has gone over all
abbrev pub invariant-loop-field : goal.invariant-loop-field
invariant-loop-field l =
    (end : DevicesRecord)
    → PassesFields l.reading (drop l.field-index l.fields) l.devices end
    → PassesFields l.reading l.fields l.fn.devices end
