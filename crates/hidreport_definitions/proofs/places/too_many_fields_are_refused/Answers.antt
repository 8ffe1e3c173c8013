use Rattle.std.proofs.Common.{refl}
use Rattle.hidreport_definitions.proofs.places.too_many_fields_are_refused.Goals as goal

pub returns : goal.returns
returns c = refl
