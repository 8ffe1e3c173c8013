use Rattle.std.proofs.Common.{arith}
use Rattle.hidreport_linux.proofs.AxisLemmas.{axis_after}
use Rattle.hidreport_linux.proofs.GivenLemmas.{gets_behind}
use Rattle.hidreport_linux.proofs.input_device.InputDevice.give.Goals as goal

pub returns-clause-behind : goal.returns-clause-behind
returns-clause-behind c = gets_behind _ _ _ _ _ c.take.ensures.gets c.take.ensures.sets

pub returns-clause-axes : goal.returns-clause-axes
returns-clause-axes c =
    rw c.take.ensures.sets (axis_after c.take.result c.args.wanted c.args.axis c.args.self.now
    (omega arith))
