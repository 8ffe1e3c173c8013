use Rattle.std.proofs.Common.{refl}
use Rattle.hidreport_definitions.proofs.reading.the_id_is_looked_at_before_the_bits.Goals as goal

pub returns : goal.returns
returns c = record {
  other_id = refl;
  own_id = refl;
  no_bytes = refl;
  read = refl;
  without_id = refl;
  index_first = refl;
  element_of_other_id = refl;
}
