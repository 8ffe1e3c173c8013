use Rattle.std.proofs.Common.{arith, inl, inr}
use Rattle.hidreport_definitions.proofs.writing_elements.bits_beside_an_element_are_kept.Goals as goal

pub returns : goal.returns
returns c = record {
  other_element = λ law. omega (arith, law.kept.bits 0 (inl (omega arith)));
  alone = λ law. omega (arith, law.kept.bits 8 (inr (omega arith)));
  longer = λ law. omega (arith, law.kept.size);
}
