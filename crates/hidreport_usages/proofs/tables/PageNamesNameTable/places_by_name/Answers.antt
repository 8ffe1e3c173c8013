use Rattle.hidreport_usages.proofs.PageTable.{by_name}
use Rattle.hidreport_usages.proofs.tables.PageNamesNameTable.places_by_name.Goals as goal

pub returns : goal.returns
returns c = by_name
