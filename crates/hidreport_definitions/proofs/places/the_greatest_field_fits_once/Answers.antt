use Rattle.std.proofs.Common.{refl}
use Rattle.hidreport_definitions.proofs.places.the_greatest_field_fits_once.Goals as goal

pub returns : goal.returns
returns c = record { once = refl; twice = refl }
