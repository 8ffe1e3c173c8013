use Rattle.std.proofs.Common.{Some}
use Rattle.hidreport.proofs.BlankLemmas.{blank-begins, blank-bits, blank-size}
use Rattle.hidreport.proofs.laws.blank_reports_have_their_id_alone.Goals as goal

pub returns : goal.returns
returns c = record {
  size = blank-size;
  id = λ id size some. blank-begins (Some id) size some;
  bits = blank-bits;
}
