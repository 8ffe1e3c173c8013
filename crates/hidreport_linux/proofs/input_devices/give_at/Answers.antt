use Rattle.std.proofs.lemmas.Option.{slice_get-get_or}
use Rattle.hidreport_linux.proofs.AxisLemmas.{axes_at}
use Rattle.hidreport_linux.proofs.GivenLemmas.{behind_at}
use Rattle.hidreport_linux.proofs.input_devices.give_at.Goals as goal

pub returns-clause-behind : goal.returns-clause-behind
returns-clause-behind c =
    rw c.event_of.ensures (behind_at c.args.devices.now c.args.index _ _ c.args.wanted
    c.give-given.result c.if-index-devices.false
    (slice_get-get_or _ _ _ c.if-index-devices.false) c.give-given.ensures.behind)

pub returns-clause-axes : goal.returns-clause-axes
returns-clause-axes c =
    rw c.event_of.ensures (axes_at c.args.devices.now c.args.index _ _ c.args.wanted
    c.give-given.result c.args.axis _ c.if-index-devices.false
    (slice_get-get_or _ _ _ c.if-index-devices.false) c.give-given.ensures.gets
    c.give-given.ensures.axes)
