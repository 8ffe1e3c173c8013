use Rattle.hidreport.proofs.WholeReadLemmas.{whole-available}
use Rattle.hidreport.proofs.report.reader.Reader.read_available.Goals as goal

pub returns-then-are_of_another-clause-whole : goal.returns-then-are_of_another-clause-whole
returns-then-are_of_another-clause-whole c =
    whole-available c.args.self.now c.args.bytes.now

pub returns-clause-whole : goal.returns-clause-whole
returns-clause-whole c = whole-available c.args.self.now c.args.bytes.now
