use Rattle.std.proofs.Common.{refl}
use Rattle.hidreport_definitions.proofs.places.an_array_has_one_number.Goals as goal

pub returns : goal.returns
returns c = refl
