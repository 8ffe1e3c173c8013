use Rattle.std.proofs.Common.{refl}
use Rattle.hidreport.specs.UnitTable.{places_of}
use Rattle.hidreport_definitions.proofs.units.units_make_up_their_number.Goals as goal

pub returns : goal.returns
unfolding places_of
returns c = record {
  energy = λ named known low. refl;
  every_place = λ named known low. refl;
}
