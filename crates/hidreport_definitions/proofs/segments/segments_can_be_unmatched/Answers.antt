use Rattle.std.proofs.Common.{arith}
use Rattle.hidreport_definitions.proofs.segments.segments_can_be_unmatched.Goals as goal

pub returns : goal.returns
returns c = record {
  main_item = λ matched. let idle = matched.idle in cc;
  pop_first = λ matched. omega (arith, matched.within 1);
  left_open = λ matched. omega (arith, matched.closed);
  later_main_item = λ matched. let idle = matched.idle in cc;
  later_pop_first = λ matched. omega (arith, matched.within 3);
  later_left_open = λ matched. omega (arith, matched.closed);
}
