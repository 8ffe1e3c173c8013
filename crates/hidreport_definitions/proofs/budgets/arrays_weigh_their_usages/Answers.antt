use Rattle.std.proofs.Common.{refl}
use Rattle.hidreport_definitions.proofs.budgets.arrays_weigh_their_usages.Goals as goal

pub returns : goal.returns
returns c = record { just = refl; past = refl; padding = refl; padding_too = refl }
