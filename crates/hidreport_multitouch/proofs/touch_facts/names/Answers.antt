use Rattle.hidreport_multitouch.proofs.FactLemmas.{any-behind}
use Rattle.hidreport_multitouch.proofs.touch_facts.names.Goals as goal

pub loop-usage-preserved : goal.loop-usage-preserved
loop-usage-preserved c =
    any-behind _ _ _ _ _ _ c.in-Some.ensures.steps c.if-left-eq0.false c.from.ensures
    c.if-from-wanted.false _ c.loop-usage.invariant
