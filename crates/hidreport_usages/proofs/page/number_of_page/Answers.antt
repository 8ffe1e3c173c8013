use Rattle.hidreport_usages.proofs.PageLemmas.{lift_listed, lift_vendor}
use Rattle.hidreport_usages.proofs.page.number_of_page.Goals as goal

pub returns-in-Some : goal.returns-in-Some
returns-in-Some c = lift_listed c.args.name.now c.in-Some.page c.in-Some.ensures

pub returns-in-None : goal.returns-in-None
returns-in-None c = lift_vendor c.args.name.now c.vendor_page.result c.in-None.ensures c.vendor_page.ensures
