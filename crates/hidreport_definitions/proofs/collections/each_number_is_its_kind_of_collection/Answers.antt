use Rattle.std.proofs.Common.{refl}
use Rattle.hidreport_definitions.proofs.collections.each_number_is_its_kind_of_collection.Goals as
    goal

pub returns : goal.returns
returns c = record { kinds = refl; others = refl }
