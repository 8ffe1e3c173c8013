use Rattle.std.proofs.Common.{refl}
use Rattle.hidreport_definitions.proofs.usages.a_range_hides_single_usages.Goals as goal

pub returns : goal.returns
returns c = record { hidden = refl; maximum_alone = refl }
