use Rattle.std.proofs.Common.{arith}
use Rattle.hidreport_definitions.proofs.spelling.a_header_says_how_many_bytes_follow.Goals as goal

pub returns : goal.returns
returns c = record {
  spelled = λ law. omega (arith, law.1);
  read = λ law. omega (arith, law.1);
  short = λ law. omega (arith, law.2);
}
