use Rattle.std.proofs.Common.{sym, ◌∙◌}
use Rattle.hidreport_c.proofs.ValuesLemmas.{values-refused}
use Rattle.hidreport_c.proofs.value.hidreport_values.Goals as goal

pub returns-in-Err-clause-answer : goal.returns-in-Err-clause-answer
returns-in-Err-clause-answer c =
    c.refused.ensures ∙ values-refused c.args.field.now c.args.report.now c.in-Err.status
    (sym c.in-Err.is ∙ c.check_values.ensures.answer)
