use Rattle.hidreport_definitions.proofs.RelationLemmas.{opened}
use Rattle.hidreport_definitions.proofs.laws.open_collections_are_computed.Goals as goal

pub returns : goal.returns
returns c = opened
