use Rattle.hidreport_example.proofs.LimitLemmas.{of-descriptor}
use Rattle.hidreport_example.proofs.limits.read.Goals as goal

pub returns : goal.returns
returns c = of-descriptor c.try_from.result c.try_from.ensures.own_bytes
    c.try_from.ensures.unlimited
