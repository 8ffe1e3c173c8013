use Rattle.hidreport_example.proofs.LawLemmas.{all-apart}
use Rattle.hidreport_example.proofs.laws.read_apart.Goals as goal

pub returns : goal.returns
returns c = all-apart c.try_from.result c.try_from.ensures.tiled
