use Rattle.std.proofs.Common.{refl}
use Rattle.hidreport_definitions.proofs.collections.a_collection_has_all_its_usages.Goals as goal

pub returns : goal.returns
returns c = record { all = refl; a_range = refl; ended = refl }
