use Rattle.std.proofs.Common.{◌∙◌}
use Rattle.hidreport_multitouch.proofs.PassingLemmas.{last-on, usages-on}
use Rattle.hidreport_multitouch.proofs.driven_devices.DrivenDevices.pass_usages.Goals as goal

pub loop-usage-preserved : goal.loop-usage-preserved
loop-usage-preserved c =
    let made = c.event_of-answer.ensures in
    let before = c.loop-usage.invariant in (
      λ more end rest. before.0 more end (usages-on _ _ _ _ c.in-Some.usage more _ _ _ _
          c.in-Some.ensures.steps c.from-last.ensures made.item made.behind rest),
      (
        last-on _ _ _ _ _ c.in-Some.usage c.in-Some.ensures.steps c.from-last.ensures before.1.0,
        made.behind.facts ∙ before.1.1,
      ),
    )
