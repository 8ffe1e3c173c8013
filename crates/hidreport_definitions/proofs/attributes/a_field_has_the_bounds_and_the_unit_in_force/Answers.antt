use Rattle.std.proofs.Common.{refl}
use Rattle.hidreport_definitions.proofs.attributes.a_field_has_the_bounds_and_the_unit_in_force.Goals as goal

pub returns : goal.returns
returns c = refl
