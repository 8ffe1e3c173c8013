use Rattle.std.proofs.Common.{◌∙◌, ap, is_some, sym}
use Rattle.hidreport_multitouch.proofs.PassingLemmas.{passes-again, passes-once}
use Rattle.hidreport_multitouch.proofs.driven_devices.DrivenDevices.pass_field.Goals as goal

pub returns-then-is_some : goal.returns-then-is_some
returns-then-is_some c =
    let begun = c.in_ok-item.ensures in
    let gone = c.pass_usages-last.ensures in
    passes-again c.args.reading.now c.args.field.now c.args.self.now _ _ _ c.in_ok-item.item _ _ _ _
    begun.devices begun.item begun.touch c.usages.ensures gone.last c.saturating_sub.ensures
    (ap is_some (sym gone.facts) ∙ sym c.is_some.ensures ∙ c.if-is_some.true) gone.passed
    c.pass_again.ensures

pub returns-else-is_some : goal.returns-else-is_some
returns-else-is_some c =
    let begun = c.in_ok-item.ensures in
    let gone = c.pass_usages-last.ensures in
    passes-once c.args.reading.now c.args.field.now c.args.self.now _ _ c.in_ok-item.item _ _
    begun.devices begun.item begun.touch c.usages.ensures
    (ap is_some (sym gone.facts) ∙ sym c.is_some.ensures ∙ c.if-is_some.false) gone.passed
