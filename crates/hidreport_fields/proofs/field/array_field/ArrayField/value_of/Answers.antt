use Rattle.hidreport_fields.proofs.StandingLemmas.{least-choosing}
use Rattle.hidreport_fields.proofs.field.array_field.ArrayField.value_of.Goals as goal

pub returns : goal.returns
returns c =
    let f = c.args.self.now in
    least-choosing f.usages.items f.logical_minimum f.logical_maximum
    c.element_numbers.result.minimum c.element_numbers.result.maximum c.args.usage
    c.in_ok-index.index c.choosing.result c.element_numbers.ensures.minimum
    c.element_numbers.ensures.maximum c.in_ok-index.ensures.found c.in_ok-index.ensures.first
    c.choosing.ensures.some c.choosing.ensures.none
