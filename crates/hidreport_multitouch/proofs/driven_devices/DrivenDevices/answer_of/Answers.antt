use Rattle.std.proofs.Common.{◌∙◌, ap}
use Rattle.hidreport_fields.specs.UsageNumber.{usage_number}
use Rattle.hidreport_multitouch.proofs.DrivenLemmas.{answered-at, goes-on-at, number-again}
use Rattle.hidreport_multitouch.proofs.driven_devices.DrivenDevices.answer_of.Goals as goal

pub returns-clause-answer : goal.returns-clause-answer
returns-clause-answer c =
    let at = c.in-Some.ensures.item in
    answered-at c.args.self.now.inputs.items c.args.index c.in-Some.inputs.now c.args.item.now
    c.args.usage _ c.event.result at.3.0 at.1 (ap usage_number c.from.ensures ∙ number-again _)
    c.event.ensures.answer

pub returns-clause-inputs : goal.returns-clause-inputs
returns-clause-inputs c =
    let at = c.in-Some.ensures.item in
    let said = c.event.ensures in
    goes-on-at c.args.self.now.inputs.items c.args.index c.in-Some.inputs.now c.event.new.self
    c.args.item.now c.args.usage _ c.event.result at.3.0 at.1
    (ap usage_number c.from.ensures ∙ number-again _) (record {
      answer = said.answer;
      behind = said.behind;
      stays = said.stays;
      touch = said.touch;
      axes = said.axes;
    })
