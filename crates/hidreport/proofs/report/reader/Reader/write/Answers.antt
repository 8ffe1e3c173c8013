use Rattle.hidreport.proofs.ReportWriteLemmas.{written-laws}
use Rattle.hidreport.proofs.RunWriteLemmas.{runs-again}
use Rattle.hidreport.proofs.report.reader.Reader.write.Goals as goal

pub returns-clause-laws : goal.returns-clause-laws
returns-clause-laws c = λ fields stand.
    written-laws fields c.args.self.now c.args.values.now c.args.bytes.now c.put_values.new.bytes
    c.put_values.result c.put_values.ensures.bytes stand c.put_values.ensures.answer

pub returns-clause-again : goal.returns-clause-again
returns-clause-again c =
    runs-again c.args.self.now c.args.values.now c.args.bytes.now c.put_values.new.bytes
    c.put_values.result c.put_values.ensures.bytes c.put_values.ensures.answer
