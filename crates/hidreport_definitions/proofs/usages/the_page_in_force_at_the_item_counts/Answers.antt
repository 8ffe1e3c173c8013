use Rattle.std.proofs.Common.{refl}
use Rattle.hidreport_definitions.proofs.usages.the_page_in_force_at_the_item_counts.Goals as goal

pub returns : goal.returns
returns c = record { later = refl; own = refl; own_first = refl }
