use Rattle.std.proofs.Common.{refl}
use Rattle.hidreport_definitions.proofs.push_and_pop.nested_pushes_keep_their_own_usages.Goals as
    goal

pub returns : goal.returns
returns c = refl
