use Rattle.std.proofs.Common.{refl}
use Rattle.hidreport_definitions.proofs.usages.the_last_usage_is_repeated.Goals as goal

pub returns : goal.returns
returns c = refl
