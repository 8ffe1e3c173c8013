use Rattle.hidreport_definitions.proofs.RelationLemmas.{visible}
use Rattle.hidreport_definitions.proofs.laws.visibility_is_computed.Goals as goal

pub returns : goal.returns
returns c = visible
