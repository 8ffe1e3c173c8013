use Rattle.hidreport_multitouch.proofs.PassingLemmas.{again-on}
use Rattle.hidreport_multitouch.proofs.driven_devices.DrivenDevices.pass_again.Goals as goal

pub loop-element-preserved : goal.loop-element-preserved
loop-element-preserved c =
    let made = c.event_of-answer.ensures in
    λ end rest. c.loop-element.invariant end (again-on _ _ c.args.usage c.args.count
    c.loop-element._element _ _ end c.loop-element-test.true made.item made.behind rest)
