use Rattle.hidreport_usages.proofs.PageLemmas.{no_vendor_name}
use Rattle.hidreport_usages.proofs.page.vendor_page.Goals as goal

pub returns-in_default : goal.returns-in_default
returns-in_default c = no_vendor_name c.args.name.now c.in_default.ensures
