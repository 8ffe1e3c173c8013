use Rattle.std.proofs.Common.{sym, ◌∙◌}
use Rattle.hidreport_c.proofs.FieldsLemmas.{found-here, not-here}
use Rattle.hidreport_c.proofs.numbered.field_in.Goals as goal

pub loop-field-preserved : goal.loop-field-preserved
loop-field-preserved c =
    not-here c.args.fields.now c.loop-field.field-index c.field-item.result c.args.number
    c.loop-field-test.true c.field-item.is c.loop-field.invariant
    (λ same. c.if-from-number.false (c.from.ensures ∙ c.id.ensures ∙ same))

pub returns-then-from-number : goal.returns-then-from-number
returns-then-from-number c =
    found-here c.args.fields.now c.loop-field.field-index c.field-item.result c.args.number
    c.loop-field-test.true c.field-item.is c.loop-field.invariant
    (sym (c.from.ensures ∙ c.id.ensures) ∙ c.if-from-number.true)
