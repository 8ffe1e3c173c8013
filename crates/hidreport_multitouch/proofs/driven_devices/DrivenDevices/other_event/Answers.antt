use Rattle.std.proofs.Common.{◌∙◌, ap}
use Rattle.hidreport_multitouch.specs.Driven.{unless_taken}
use Rattle.hidreport_multitouch.proofs.DrivenLemmas.{answers-as-before}
use Rattle.hidreport_multitouch.proofs.TouchedLemmas.{claims-as-before}
use Rattle.hidreport_multitouch.proofs.driven_devices.DrivenDevices.other_event.Goals as goal

pub returns-clause-answer : goal.returns-clause-answer
returns-clause-answer c =
    let given = c.hid_input_event-answer in
    let named = c.name_stylus.ensures.rest in
    let touched = ap (λ d. d.touched.items) given.ensures.rest
    ∙ ap (λ d. d.touched.items) named in
    c.unless_taken.ensures.answer
    ∙ ap (λ ts. unless_taken ts c.args.touch.now c.args.usage given.result) touched
    ∙ ap (λ a. unless_taken c.args.self.now.touched.items c.args.touch.now c.args.usage a)
    (given.ensures.answer ∙ answers-as-before c.args.self.now c.name_stylus.new.self c.args.item.now
    c.args.usage named)

pub returns-clause-touched : goal.returns-clause-touched
returns-clause-touched c =
    let gone = c.hid_input_event-answer in
    c.unless_taken.ensures.touched
    ∙ claims-as-before c.args.self.now c.name_stylus.new.self gone.new.self
    c.unless_taken.new.self c.args.touch.now c.unless_taken.result
    c.name_stylus.ensures.rest gone.ensures.rest
    (ap (λ d. d.inputs) c.unless_taken.ensures.rest)
