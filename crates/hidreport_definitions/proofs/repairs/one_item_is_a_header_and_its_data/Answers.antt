use Rattle.std.proofs.Common.{arith}
use Rattle.hidreport_definitions.proofs.repairs.one_item_is_a_header_and_its_data.Goals as goal

pub returns : goal.returns
returns c = record {
  whole = omega arith;
  cut = omega arith;
  nothing = λ law. law;
  more = λ law. omega (arith, law);
}
