use Rattle.std.proofs.Common.{refl}
use Rattle.hidreport_definitions.proofs.collections.the_end_of_a_collection_ends_the_locals.Goals
    as goal

pub returns : goal.returns
returns c = record { ended = refl }
