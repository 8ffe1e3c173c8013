use Rattle.std.proofs.Common.{refl}
use Rattle.hidreport_definitions.proofs.attributes.logical_bounds_are_signed_by_their_width.Goals
    as goal

pub returns : goal.returns
returns c = record { bounds = refl; unit = refl }
