use Rattle.std.proofs.Common.{ap, ◌∙◌}
use Rattle.hidreport_c.specs.Value.{as_value, value_at}
use Rattle.hidreport_c.proofs.ValueLemmas.{value_at-described}
use Rattle.hidreport_c.proofs.value.hidreport_value.Goals as goal

pub returns-clause-extract : goal.returns-clause-extract
returns-clause-extract c = λ read same.
    c.value.ensures ∙ ap (λ f. as_value (value_at f c.args.report.now c.args.index)) same
    ∙ ap as_value (value_at-described read c.args.report.now c.args.index)
