use Rattle.std.proofs.Common.{refl}
use Rattle.hidreport_definitions.proofs.usages.a_range_wraps_within_its_page.Goals as goal

pub returns : goal.returns
returns c = refl
