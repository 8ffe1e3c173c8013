use Rattle.std.proofs.Common.{refl}
use Rattle.hidreport_definitions.proofs.budgets.collections_weigh_in_each_field.Goals as goal

pub returns : goal.returns
returns c = record { just = refl; in_a_field = refl; opened = refl }
