use Rattle.std.proofs.Common.{refl}
use Rattle.hidreport_definitions.proofs.push_and_pop.a_size_taken_back_is_not_set_later.Goals as
    goal

pub returns : goal.returns
returns c = refl
