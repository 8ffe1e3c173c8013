use Rattle.std.proofs.Common.{refl}
use Rattle.hidreport_definitions.proofs.places.a_size_or_a_count_of_zero_makes_no_field.Goals as
    goal

pub returns : goal.returns
returns c = record {
  no_size = refl;
  no_count = refl;
  size_of_zero = refl;
  count_of_zero = refl;
  locals_end = refl;
}
