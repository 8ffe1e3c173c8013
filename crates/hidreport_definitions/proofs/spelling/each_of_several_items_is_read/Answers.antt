use Rattle.std.proofs.Common.{arith}
use Rattle.hidreport_definitions.proofs.spelling.each_of_several_items_is_read.Goals as goal

pub returns : goal.returns
returns c = record {
  first = λ law. let read = law.0.2 in cc;
  second = λ law. let read = law.1.0.2 in cc;
  first_short = λ law. let read = law.0.3 in cc;
  second_short = λ law. let read = law.1.0.3 in cc;
  first_offset = λ law. omega (arith, law.0);
  second_offset = λ law. omega (arith, law.1.0);
}
