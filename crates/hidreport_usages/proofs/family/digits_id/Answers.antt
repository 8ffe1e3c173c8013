use Rattle.hidreport_usages.proofs.FamilyLemmas.{digits_only}
use Rattle.hidreport_usages.proofs.family.digits_id.Goals as goal

pub returns : goal.returns
returns c =
    digits_only c.args.prefix.now c.in_ok-rest_behind.field-0.now c.args.name.now c.in_ok-rest_behind.ensures c.number_of_digits.result c.number_of_digits.ensures
