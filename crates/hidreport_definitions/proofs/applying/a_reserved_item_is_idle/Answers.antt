use Rattle.hidreport_definitions.proofs.CutLemmas.{reserved-itemised, with_reserved}
use Rattle.hidreport_definitions.proofs.applying.a_reserved_item_is_idle.Goals as goal

pub returns : goal.returns
returns c = λ options mean. mean with_reserved reserved-itemised
