use Rattle.std.proofs.Common.{refl}
use Rattle.hidreport_definitions.proofs.attributes.each_flag_is_its_own_attribute.Goals as goal

pub returns : goal.returns
returns c = record {
  relative = refl;
  wrap = refl;
  nonlinear = refl;
  no_preferred_state = refl;
  null_state = refl;
  buffered_bytes = refl;
  volatile = refl;
  none = refl;
}
