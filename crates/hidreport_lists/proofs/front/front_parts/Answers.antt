use Rattle.hidreport_lists.proofs.FrontLemmas.{front-cut}
use Rattle.hidreport_lists.proofs.front.front_parts.Goals as goal

pub returns-clause-parts : goal.returns-clause-parts
returns-clause-parts c = front-cut c.args.bytes.now c.in-Some.header.now c.in-Some.after.now
    c.following-following.result c.in-Some.ensures.cases.0 c.following-following.ensures.value
    c.if-after-following.false
