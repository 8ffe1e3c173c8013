use Rattle.hidreport_multitouch.proofs.PassingLemmas.{fields-end, fields-on}
use Rattle.hidreport_multitouch.proofs.driven_devices.passing.pass_fields.Goals as goal

pub loop-field-init : goal.loop-field-init
loop-field-init c = λ end rest. rest

pub loop-field-preserved : goal.loop-field-preserved
loop-field-preserved c =
    λ end rest. c.loop-field.invariant end (fields-on c.args.reading.now c.args.fields.now
    c.loop-field.field-index _ c.loop-field.devices c.pass_field.new.self end
    c.loop-field-test.true c.in_ok-pass_field.ensures rest)

pub returns : goal.returns
returns c =
    c.loop-field.invariant c.loop-field.devices (fields-end c.args.reading.now c.args.fields.now
    c.loop-field.field-index c.loop-field.devices c.loop-field-test.false)
