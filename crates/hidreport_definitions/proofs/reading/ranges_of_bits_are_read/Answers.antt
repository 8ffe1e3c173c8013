use Rattle.std.proofs.Common.{refl}
use Rattle.hidreport_definitions.proofs.reading.ranges_of_bits_are_read.Goals as goal

pub returns : goal.returns
returns c = record {
  below_zero = refl;
  across_bytes = refl;
  all_bits = refl;
  no_bits = refl;
  too_many_bits = refl;
}
