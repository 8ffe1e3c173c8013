use Rattle.std.proofs.Common.{refl}
use Rattle.hidreport_definitions.proofs.reading.a_field_across_five_bytes_is_read.Goals as goal

pub returns : goal.returns
returns c = record {
  reports = refl;
  value = refl;
  bits_before = refl;
  lowest_bit = refl;
  one_byte_less = refl;
  one_bit_more = refl;
  one_bit_too_wide = refl;
}
