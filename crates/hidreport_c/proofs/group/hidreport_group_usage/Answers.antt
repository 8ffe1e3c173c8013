use Rattle.hidreport_c.proofs.ListsLemmas.{lists-unread-as}
use Rattle.hidreport_c.specs.Group.{one_usage}
use Rattle.hidreport_c.specs.Options.{outline_by, reading_of}
use Rattle.hidreport_c.proofs.group.hidreport_group_usage.Goals as goal

pub returns-in-Err : goal.returns-in-Err
returns-in-Err c =
    lists-unread-as outline_by c.in-Err.refused (reading_of c.args.options) c.args.descriptor.now
    (one_usage c.args.direction c.args.group c.args.index) c.args.usages.now c.in-Err.ensures.grouped
