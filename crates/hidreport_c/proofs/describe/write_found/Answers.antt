use Rattle.hidreport_c.proofs.FieldsLemmas.{found-listed}
use Rattle.hidreport_c.proofs.describe.write_found.Goals as goal

pub returns-in-Some : goal.returns-in-Some
returns-in-Some c =
    rw c.in-Some.is (found-listed c.fields.result.now c.in-Some.report.now.fields
    c.args.fields.now c.write.new.array c.write.result c.fields.ensures c.write.ensures.count
    c.write.ensures.written)
