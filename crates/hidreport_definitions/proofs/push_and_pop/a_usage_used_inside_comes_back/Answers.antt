use Rattle.std.proofs.Common.{refl}
use Rattle.hidreport_definitions.proofs.push_and_pop.a_usage_used_inside_comes_back.Goals as goal

pub returns : goal.returns
returns c = refl
