use Rattle.std.proofs.Common.{refl}
use Rattle.hidreport_definitions.proofs.collections.open_collections_come_outermost_first.Goals as
    goal

pub returns : goal.returns
returns c = record { nested = refl; closed = refl; all_closed = refl }
