use Rattle.std.proofs.Common.{IfSome, Option, subst, sym}
use Rattle.hidreport_fields.specs.Records.{ReportRecord}
use Rattle.hidreport.specs.Working.{AllOwn, AllWork}
use Rattle.hidreport.proofs.OwnReportsLemmas.{own-of}
use Rattle.hidreport.proofs.WorkLemmas.{works-of}
use Rattle.hidreport.proofs.descriptor.ReportDescriptor.find_report.Goals as goal

pub returns-clause-own : goal.returns-clause-own
returns-clause-own c = λ tiled.
    subst (λ (o : Option ReportRecord). IfSome o (AllOwn c.args.bytes.now))
    (sym c.report_of.ensures)
    (own-of c.args.direction c.args.self.now c.args.bytes.now tiled)

pub returns-clause-works : goal.returns-clause-works
returns-clause-works c = λ tiled.
    subst (λ (o : Option ReportRecord). IfSome o (AllWork c.args.bytes.now))
    (sym c.report_of.ensures)
    (works-of c.args.direction c.args.self.now c.args.bytes.now tiled)
