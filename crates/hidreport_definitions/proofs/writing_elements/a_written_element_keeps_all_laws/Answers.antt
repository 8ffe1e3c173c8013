use Rattle.std.proofs.Common.{arith, refl}
use Rattle.hidreport_fields.proofs.IsElementLemmas.{is-element-written}
use Rattle.hidreport_definitions.proofs.ByteLemmas.{two}
use Rattle.hidreport_definitions.proofs.writing_elements.a_written_element_keeps_all_laws.Goals as goal

pub returns : goal.returns
returns c = record {
  first = is-element-written _ _ _ _ _ _ _ _ _ (two 0x21 0xff (omega arith) (omega arith)) refl;
  last = is-element-written _ _ _ _ _ _ _ _ _ (two 0x21 0 (omega arith) (omega arith)) refl;
}
