use Rattle.std.proofs.Common.{arith, refl}
use Rattle.hidreport_fields.proofs.IsWrittenLemmas.{is-written}
use Rattle.hidreport_definitions.proofs.ByteLemmas.{two}
use Rattle.hidreport_definitions.proofs.writing.written_numbers_keep_all_laws.Goals as goal

pub returns : goal.returns
returns c = record {
  variable = is-written _ _ _ _ (two 0xff 0x0f (omega arith) (omega arith)) refl;
  array = is-written _ _ _ _ (two 0 0x12 (omega arith) (omega arith)) refl;
}
