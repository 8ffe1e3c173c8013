use Rattle.std.proofs.Common.{refl}
use Rattle.hidreport_definitions.proofs.bits.values_fix_their_bits.Goals as goal

pub returns : goal.returns
returns c = record {
  read = refl;
  equal = λ law other h. (law other _ _ refl h).0 refl;
  same = λ law other values h agree. (law other _ values refl h).1 agree;
}
