use Rattle.hidreport_usages.proofs.PageLemmas.{listed_only}
use Rattle.hidreport_usages.proofs.page.listed_page.Goals as goal

pub returns-in-Some : goal.returns-in-Some
returns-in-Some c = listed_only c.args.name.now c.in-Some.page c.if-page-lt65536.true c.in-Some.ensures
