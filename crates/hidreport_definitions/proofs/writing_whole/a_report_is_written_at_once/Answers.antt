use Rattle.std.proofs.Common.{arith, refl}
use Rattle.hidreport.proofs.ReportWriteLemmas.{report-laws}
use Rattle.hidreport_definitions.proofs.ByteLemmas.{two}
use Rattle.hidreport_definitions.proofs.writing_whole.a_report_is_written_at_once.Goals as goal

pub returns : goal.returns
returns c = report-laws _ _ _ _ (two 5 0 (omega arith) (omega arith)) refl
