use Rattle.std.proofs.Common.{refl}
use Rattle.hidreport_definitions.proofs.usages.the_last_minimum_and_maximum_count.Goals as goal

pub returns : goal.returns
returns c = record { minimum = refl; maximum = refl }
