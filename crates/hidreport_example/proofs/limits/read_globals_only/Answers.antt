use Rattle.hidreport_example.proofs.LimitLemmas.{of-descriptor}
use Rattle.hidreport_example.proofs.limits.read_globals_only.Goals as goal

pub returns : goal.returns
returns c = of-descriptor c.try_from_globals_only.result c.try_from_globals_only.ensures.own_bytes
    c.try_from_globals_only.ensures.unlimited
