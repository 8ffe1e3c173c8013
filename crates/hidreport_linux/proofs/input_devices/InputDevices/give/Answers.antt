use Rattle.std.proofs.Common.{◌≡◌, arith, length}
use Rattle.hidreport_linux.proofs.AxisLemmas.{refilled, set_behind_items}
use Rattle.hidreport_linux.specs.Devices.{axis_at, axis_behind}
use Rattle.hidreport_linux.specs.declared.event.Event.{Event}
use Rattle.hidreport_linux.proofs.input_devices.InputDevices.give.Goals as goal

pub returns-clause-axes : goal.returns-clause-axes
returns-clause-axes c =
    let same : c.deref_mut.result.now ≡ c.args.self.now.devices = cc in
    let set : (other : Event) → axis_at other.code other.device c.give_at-answer.new.devices
    ≡ axis_behind c.args.item.now c.give_at-answer.result c.args.self.now other =
    set_behind_items c.give_at-answer.result c.args.item.now c.args.wanted c.axis-axis.result _ _
    c.args.self.now _ c.deref_mut.result.now same c.give_at-answer.ensures.answer
    c.axis-axis.ensures c.give_at-answer.ensures.axes in
    let length_is : length c.give_at-answer.new.devices ≡ c.self.inside.devices.len = omega arith in
    λ event. rw (refilled c.self.inside.devices.len c.give_at-answer.new.devices
    c.self.inside.devices.items length_is) (set event)
