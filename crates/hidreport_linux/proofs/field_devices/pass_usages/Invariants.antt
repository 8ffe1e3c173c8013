use Rattle.hidreport_linux.specs.DevicesRecord.{DevicesRecord}
use Rattle.hidreport_linux.specs.FieldDevices.{GoesOver}
use Rattle.hidreport_linux.specs.FieldOrder.{usages_left}
use Rattle.hidreport_linux.proofs.field_devices.pass_usages.Given as goal

-- who goes over those that are left has gone over all
abbrev pub invariant-loop-usage : goal.invariant-loop-usage
invariant-loop-usage l =
    let left = l.usage-iterator in
    let all = l.fn.usages in
    (end : DevicesRecord)
    → GoesOver l.item (usages_left left.number left.more left.named.now) l.devices end
    → GoesOver l.fn.item (usages_left all.number all.more all.named.now) l.fn.devices end
