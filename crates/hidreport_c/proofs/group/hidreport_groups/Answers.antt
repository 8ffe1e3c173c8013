use Rattle.hidreport_c.proofs.ListsLemmas.{lists-unread-as}
use Rattle.hidreport_c.specs.Group.{all_groups}
use Rattle.hidreport_c.specs.Options.{outline_by, reading_of}
use Rattle.hidreport_c.proofs.group.hidreport_groups.Goals as goal

pub returns-in-Err : goal.returns-in-Err
returns-in-Err c =
    lists-unread-as outline_by c.in-Err.refused (reading_of c.args.options) c.args.descriptor.now
    (all_groups c.args.direction) c.args.groups.now c.in-Err.ensures.grouped
