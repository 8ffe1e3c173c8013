use Rattle.std.proofs.Common.{refl}
use Rattle.hidreport_definitions.proofs.usages.an_array_has_all_usages_of_a_range.Goals as goal

pub returns : goal.returns
returns c = refl
