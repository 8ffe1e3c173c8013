use Rattle.hidreport_fields.proofs.SharedLemmas.{shared-apart, shared-same}
use Rattle.hidreport.proofs.laws.shared_collections_are_a_common_front.Goals as goal

pub returns : goal.returns
returns c = record { same = shared-same; apart = shared-apart }
