use Rattle.std.proofs.Common.{refl}
use Rattle.hidreport_definitions.proofs.places.ids_have_32_bits.Goals as goal

pub returns : goal.returns
returns c = record {
  last_field = refl;
  one_field_more = refl;
  last_collection = refl;
  one_collection_more = refl;
}
