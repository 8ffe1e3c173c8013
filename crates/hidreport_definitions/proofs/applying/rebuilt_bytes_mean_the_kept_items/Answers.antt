use Rattle.hidreport_definitions.proofs.CutLemmas.{reserved-itemised, with_reserved}
use Rattle.hidreport_definitions.proofs.applying.rebuilt_bytes_mean_the_kept_items.Goals as goal

pub returns : goal.returns
returns c = λ options mean. mean with_reserved reserved-itemised (λ e. cc)
