use Rattle.std.proofs.Common.{◌≡◌, ◌∙◌, Err, IfErr, None, ap, rules, subst, sym}
use Rattle.hidreport.specs.Repair.{repaired_view}
use Rattle.hidreport.specs.Taken.{IsReadIfAny}
use Rattle.hidreport.specs.declared.repairing.repair_options.RepairOptions.{RepairOptions}
use Rattle.hidreport_linux.specs.CoreReading.{linux_reading}
use Rattle.hidreport_linux.specs.LinuxDevice.{DeviceRecord, IsOfLinux}
use Rattle.hidreport_linux.specs.declared.linux_device.LinuxRefusal.TheVariants as linux
use Rattle.hidreport_linux.proofs.DeviceLemmas.{is-device, of-linux, outline-limits}
use Rattle.hidreport_linux.proofs.TakenLemmas.{taken-by-options}
use Rattle.hidreport_linux.proofs.linux_device.LinuxDevice.of.Goals as goal

pub returns-clause-exact : goal.returns-clause-exact
returns-clause-exact c =
    let device : DeviceRecord = record {
      reading = c.in_ok-reading.reading;
      repaired = repaired_view c.in_ok-repaired.repaired;
      outline = c.in_ok-outline.outline;
    } in
    let none : (linux_reading c.args.bytes.now).refusal ≡ None = search rules in
    let same : c.as_slice.result.now ≡ device.repaired.bytes = search rules in
    is-device c.args.limit c.args.bytes.now c.linux_options-options.result device
    c.as_slice.result.now none c.linux_options-options.ensures c.in_ok-reading.ensures
    c.in_ok-repaired.ensures.exact same c.in_ok-outline.ensures.exact
    c.in_ok-outline.ensures.listed

pub returns-in_err-repaired-clause-read : goal.returns-in_err-repaired-clause-read
returns-in_err-repaired-clause-read c = λ short.
    let fault = c.in_err-repaired.field-0.0 in
    let is : c.from_residual-in_err-repaired.result ≡ Err (linux.Unread fault) = search rules in
    let none : (linux_reading c.args.bytes.now).refusal ≡ None = search rules in
    let was : c.mend.result ≡ Err fault = search rules in
    let taken = taken-by-options c.args.limit c.linux_options-options.result c.args.bytes.now
    c.linux_options-options.ensures short none in
    subst (λ r. IfErr r (IsOfLinux c.args.limit)) (sym is)
    (of-linux c.args.limit c.mend.result fault was (c.in_err-repaired.ensures.taken taken)
    (λ unset offset. c.mend.ensures.unlimited
    (ap (λ (o : RepairOptions). o.parse.limit) c.linux_options-options.ensures ∙ unset)
    (ap (λ (o : RepairOptions). o.parse.longest) c.linux_options-options.ensures) offset))

pub returns-in_err-outline-clause-read : goal.returns-in_err-outline-clause-read
returns-in_err-outline-clause-read c = λ short.
    let fault = c.in_err-outline.field-0.0 in
    let is : c.from_residual-in_err-outline.result ≡ Err (linux.Unread fault) = search rules in
    let none : (linux_reading c.args.bytes.now).refusal ≡ None = search rules in
    let was : c.outline_of.result ≡ Err fault = search rules in
    let taken = taken-by-options c.args.limit c.linux_options-options.result c.args.bytes.now
    c.linux_options-options.ensures short none in
    let same : c.as_slice.result.now ≡ c.in_ok-repaired.repaired.bytes.items = search rules in
    let options = c.linux_options-options.result.parse in
    let limits = outline-limits options c.as_slice.result.now fault
    (subst (IsReadIfAny options) (sym same) (c.in_ok-repaired.ensures.read taken))
    c.in_err-outline.ensures.listed in
    subst (λ r. IfErr r (IsOfLinux c.args.limit)) (sym is)
    (of-linux c.args.limit c.outline_of.result fault was limits
    (λ unset offset. c.outline_of.ensures.unlimited
    (ap (λ (o : RepairOptions). o.parse.limit) c.linux_options-options.ensures ∙ unset)
    (ap (λ (o : RepairOptions). o.parse.longest) c.linux_options-options.ensures) offset))
