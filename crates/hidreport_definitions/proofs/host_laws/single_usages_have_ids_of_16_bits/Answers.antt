use Rattle.std.proofs.Common.{arith}
use Rattle.hidreport_definitions.proofs.host_laws.single_usages_have_ids_of_16_bits.Goals as goal

pub returns : goal.returns
returns c = record {
  most = omega arith;
  own = omega arith;
  wider = λ one. absurd (omega (arith, one));
  wider_own = λ one. absurd (omega (arith, one));
  minimum = λ one. one;
}
