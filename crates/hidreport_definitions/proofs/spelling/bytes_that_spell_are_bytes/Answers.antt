use Rattle.std.proofs.Common.{arith}
use Rattle.hidreport_definitions.proofs.spelling.bytes_that_spell_are_bytes.Goals as goal

pub returns : goal.returns
returns c = record {
  alone = λ law. omega (arith, law 0 256 (omega arith));
  spelled = λ law. omega (arith, law.0 1 256 (omega arith));
  read = λ law. omega (arith, law.0 1 256 (omega arith));
  short = λ law. omega (arith, law.0 1 256 (omega arith));
}
