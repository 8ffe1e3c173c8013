use Rattle.std.proofs.Common.{refl}
use Rattle.hidreport_definitions.proofs.usages.a_usage_needs_a_page.Goals as goal

pub returns : goal.returns
returns c = record { single = refl; reversed_range = refl }
