use Rattle.std.proofs.Common.{refl}
use Rattle.hidreport_definitions.proofs.push_and_pop.a_collection_keeps_its_usages.Goals as goal

pub returns : goal.returns
returns c = refl
