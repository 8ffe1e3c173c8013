use Rattle.hidreport_usages.proofs.UsageTable.{by_name}
use Rattle.hidreport_usages.proofs.tables.UsageNamesNameTable.places_by_name.Goals as goal

pub returns : goal.returns
returns c = by_name
