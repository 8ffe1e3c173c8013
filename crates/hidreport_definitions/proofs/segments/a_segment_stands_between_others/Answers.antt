use Rattle.std.proofs.Common.{refl}
use Rattle.hidreport_definitions.proofs.segments.a_segment_stands_between_others.Goals as goal

pub returns : goal.returns
returns c = record { items = refl; before = refl; behind = refl; further = refl }
