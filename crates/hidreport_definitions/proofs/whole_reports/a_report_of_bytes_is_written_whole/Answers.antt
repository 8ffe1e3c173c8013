use Rattle.std.proofs.Common.{arith}
use Rattle.hidreport.proofs.WholeLemmas.{is-whole}
use Rattle.hidreport_definitions.proofs.ByteLemmas.{three, two}
use Rattle.hidreport_definitions.proofs.whole_reports.a_report_of_bytes_is_written_whole.Goals as goal

pub returns : goal.returns
returns c = record {
  blank = is-whole _ _ (two 5 0 (omega arith) (omega arith));
  not_blank = is-whole _ _ (three 5 0xff 0x12 (omega arith) (omega arith) (omega arith));
}
