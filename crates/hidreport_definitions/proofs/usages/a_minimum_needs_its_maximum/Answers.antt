use Rattle.std.proofs.Common.{refl}
use Rattle.hidreport_definitions.proofs.usages.a_minimum_needs_its_maximum.Goals as goal

pub returns : goal.returns
returns c = record { data_item = refl; no_count = refl }
