use Rattle.std.proofs.Common.{arith}
use Rattle.hidreport_definitions.proofs.working.values_of_32_bits_are_narrow.Goals as goal

pub returns : goal.returns
returns c = record {
  most = omega arith;
  elements = omega arith;
  wider = λ narrow. omega (arith, narrow);
  wider_elements = λ narrow. omega (arith, narrow);
}
