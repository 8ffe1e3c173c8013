use Rattle.std.proofs.Common.{◌∙◌, List, subst}
use Rattle.hidreport_linux.specs.declared.linux_field.LinuxField.{LinuxField}
use Rattle.hidreport_multitouch.specs.Passing.{PassesFields}
use Rattle.hidreport_multitouch.proofs.driven_devices.DrivenDevices.behind.Goals as goal

pub returns : goal.returns
returns c =
    let all = subst (λ (fields : List LinuxField). PassesFields c.args.reading.now fields
    c.in_ok-devices.devices c.pass_fields.new.devices)
    (c.deref.ensures.value ∙ c.in_ok-fields.ensures)
    c.in_ok-pass_fields.ensures in
    (c.in_ok-devices.devices, (c.in_ok-devices.ensures, all))
