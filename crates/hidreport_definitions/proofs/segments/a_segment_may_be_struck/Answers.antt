use Rattle.std.proofs.Common.{refl}
use Rattle.hidreport_definitions.proofs.segments.a_segment_may_be_struck.Goals as goal

pub returns : goal.returns
returns c = record {
  with_it = refl;
  without_it = refl;
  fault_with_it = refl;
  fault_without_it = refl;
  fault_before_it = refl;
}
