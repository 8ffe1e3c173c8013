use Rattle.std.proofs.Common.{ap, ◌∙◌}
use Rattle.hidreport_c.proofs.GroupLemmas.{groups-told}
use Rattle.hidreport_c.specs.Group.{groups_of, lent}
use Rattle.hidreport_c.proofs.group.write_groups.Goals as goal

pub returns-in-Ok : goal.returns-in-Ok
returns-in-Ok c =
    groups-told c.deref.result.now (groups_of c.args.reports.now) c.args.groups.now
    c.write.new.array c.write.result
    (ap lent c.deref.ensures.value ∙ c.in-Ok.ensures)
    c.write.ensures.count c.write.ensures.written
