use Rattle.std.proofs.Common.{refl}
use Rattle.hidreport_definitions.proofs.budgets.faults_up_to_the_item_come_first.Goals as goal

pub returns : goal.returns
returns c = record { at_the_item = refl; grammar = refl; behind = refl; before = refl }
