use Rattle.std.proofs.Common.{arith, inl, inr}
use Rattle.hidreport_definitions.proofs.writing.other_bits_are_kept.Goals as goal

pub returns : goal.returns
returns c = record {
  bit_before = λ law. omega (arith, law.kept.bits 3 (inl (omega arith)));
  bit_behind = λ law. omega (arith, law.kept.bits 8 (inr (omega arith)));
  alone = λ law. omega (arith, law.kept.bits 8 (inr (omega arith)));
  longer = λ law. omega (arith, law.kept.size);
}
