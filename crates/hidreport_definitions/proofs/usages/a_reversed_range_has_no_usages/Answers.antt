use Rattle.std.proofs.Common.{refl}
use Rattle.hidreport_definitions.proofs.usages.a_reversed_range_has_no_usages.Goals as goal

pub returns : goal.returns
returns c = record { data_item = refl; collection = refl }
