use Rattle.std.proofs.lemmas.Result.{err_from_is_err_and}
use Rattle.hidreport_example.proofs.NumberLemmas.{values-next, values-fail}
use Rattle.hidreport_example.proofs.values.values_of.Goals as goal

pub returns-in_err-values_at : goal.returns-in_err-values_at
returns-in_err-values_at c =
    let p = err_from_is_err_and c.from_residual.result c.from_residual.ensures.1 in
    rw (p.1, p.2) (values-fail c.args.bytes.now c.args.fields.now c.loop-field.field-index
    c.field-item.result c.in_err-values_at.field-0.0 c.loop-field.values.items
    c.loop-field-test.true c.field-item.is c.loop-field.invariant c.in_err-values_at.ensures)

pub loop-field-preserved : goal.loop-field-preserved
loop-field-preserved c =
    values-next c.args.bytes.now c.args.fields.now c.loop-field.field-index c.field-item.result
    c.loop-field.values.items c.in_ok-values_at.field-0.items c.append.new.self.items
    c.loop-field-test.true c.field-item.is c.loop-field.invariant c.in_ok-values_at.ensures
    c.in_ok-append.ensures.items
