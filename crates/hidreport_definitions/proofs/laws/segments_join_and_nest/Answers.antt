use Rattle.hidreport_definitions.proofs.MatchedLemmas.{joined, nested}
use Rattle.hidreport_definitions.proofs.laws.segments_join_and_nest.Goals as goal

pub returns : goal.returns
returns c = record { joined = joined; nested = nested }
