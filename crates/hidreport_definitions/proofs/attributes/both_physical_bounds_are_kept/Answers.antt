use Rattle.std.proofs.Common.{refl}
use Rattle.hidreport_definitions.proofs.attributes.both_physical_bounds_are_kept.Goals as goal

pub returns : goal.returns
returns c = record { both = refl; maximum_alone = refl }
