use Rattle.std.proofs.Common.{subst}
use Rattle.hidreport_linux.specs.FieldDevices.{GoesOver}
use Rattle.hidreport_linux.specs.FieldOrder.{usages_left}
use Rattle.hidreport_linux.specs.declared.reading.field_usages.FieldUsages.{FieldUsages}
use Rattle.hidreport_linux.proofs.FieldLemmas.{usages-end, usages-on}
use Rattle.hidreport_linux.proofs.field_devices.pass_usages.Goals as goal

pub loop-usage-init : goal.loop-usage-init
loop-usage-init c =
    λ end rest. subst (λ (s : FieldUsages). GoesOver c.args.item
    (usages_left s.number s.more s.named.now) c.args.devices.now end)
    c.into_iter-usage-iterator.ensures.into_iter_gives rest

pub loop-usage-preserved : goal.loop-usage-preserved
loop-usage-preserved c =
    let made = c.event-answer.ensures in
    λ end rest. c.loop-usage.invariant end (usages-on _ _ _ _ c.in-Some.usage c.event-answer.result
    _ _ _ c.in-Some.ensures.steps made.item (record {
      answer = made.answer;
      behind = made.behind;
      stays = made.stays;
      touch = made.touch;
      axes = made.axes;
    }) rest)

pub returns : goal.returns
returns c =
    c.loop-usage.invariant c.loop-usage.devices (usages-end _ _ _ c.in-None.ensures.steps.0)
