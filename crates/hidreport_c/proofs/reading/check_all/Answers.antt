use Rattle.std.proofs.Common.{◌≡◌, Err, rules, sym, ◌∙◌}
use Rattle.hidreport_c.proofs.ReadingLemmas.{field-accepted, field-refused, item, item-at}
use Rattle.hidreport_c.proofs.reading.check_all.Goals as goal

pub returns-in_err-check_values : goal.returns-in_err-check_values
returns-in_err-check_values c =
    let status = c.in_err-check_values.field-0.0 in
    let told : c.from_residual.result ≡ Err status = search rules in
    told ∙ field-refused c.args.fields.now c.loop-field.field-index
    (item c.args.fields.now c.loop-field.field-index) c.args.report.now
    c.loop-field.invariant.0 status c.loop-field-test.true
    (item-at c.args.fields.now c.loop-field.field-index c.loop-field-test.true)
    c.loop-field.invariant.1 (sym c.in_err-check_values.was ∙ c.check_values.ensures.answer)

pub loop-field-preserved : goal.loop-field-preserved
loop-field-preserved c =
    field-accepted c.args.fields.now c.loop-field.field-index
    (item c.args.fields.now c.loop-field.field-index) c.args.report.now
    c.loop-field.invariant.0 c.loop-field-test.true
    (item-at c.args.fields.now c.loop-field.field-index c.loop-field-test.true)
    c.loop-field.invariant.1 (sym c.check_values.ensures.answer ∙ c.in_ok-check_values.was)
