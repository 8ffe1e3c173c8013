use Rattle.std.proofs.Common.{refl}
use Rattle.hidreport_definitions.proofs.usages.fields_take_usages_in_order.Goals as goal

pub returns : goal.returns
returns c = record { order = refl; more_than_fields = refl }
