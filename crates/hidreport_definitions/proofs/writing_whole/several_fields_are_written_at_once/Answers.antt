use Rattle.std.proofs.Common.{arith, refl}
use Rattle.hidreport.proofs.ReportWriteLemmas.{report-laws}
use Rattle.hidreport_definitions.proofs.ByteLemmas.{three}
use Rattle.hidreport_definitions.proofs.writing_whole.several_fields_are_written_at_once.Goals as
    goal

pub returns : goal.returns
returns c = report-laws _ _ _ _ (three 5 0x0f 3 (omega arith) (omega arith) (omega arith)) refl
