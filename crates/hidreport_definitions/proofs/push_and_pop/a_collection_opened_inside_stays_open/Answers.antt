use Rattle.std.proofs.Common.{refl}
use Rattle.hidreport_definitions.proofs.push_and_pop.a_collection_opened_inside_stays_open.Goals as
    goal

pub returns : goal.returns
returns c = record { stays = refl; needed = refl }
