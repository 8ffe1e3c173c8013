use Rattle.std.proofs.Common.{refl}
use Rattle.hidreport_definitions.proofs.budgets.fields_weigh_one_each.Goals as goal

pub returns : goal.returns
returns c = record { just = refl; past = refl; nothing = refl }
