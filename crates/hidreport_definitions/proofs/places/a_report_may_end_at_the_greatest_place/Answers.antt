use Rattle.std.proofs.Common.{refl}
use Rattle.hidreport_definitions.proofs.places.a_report_may_end_at_the_greatest_place.Goals as goal

pub returns : goal.returns
returns c = record { at_the_edge = refl; one_bit_more = refl; with_an_id = refl }
