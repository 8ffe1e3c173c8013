use Rattle.std.proofs.Common.{IfSome, Option, subst, sym}
use Rattle.hidreport.specs.Groups.{GroupedReport, listed, listed_report}
use Rattle.hidreport.specs.Working.{AllOwn, AllWork}
use Rattle.hidreport_fields.specs.Lookup.{find_report, reports_of}
use Rattle.hidreport_fields.specs.Records.{ReportRecord}
use Rattle.hidreport.proofs.ListedLemmas.{direction-found}
use Rattle.hidreport.proofs.OutlineWalkLemmas.{some-mapped}
use Rattle.hidreport.proofs.OwnReportsLemmas.{own-of}
use Rattle.hidreport.proofs.WorkLemmas.{works-of}
use Rattle.hidreport.proofs.outline.Outline.find_report.Goals as goal

pub returns-clause-own : goal.returns-clause-own
returns-clause-own c =
    let reports = c.self.inside.reports in
    let bytes = c.args.bytes.now in
    subst (λ (o : Option GroupedReport). IfSome o (λ r. AllOwn bytes (listed_report r)))
    (sym c.find.ensures)
    (some-mapped listed_report (AllOwn bytes) (find_report (reports_of c.args.direction reports) bytes)
    (subst (λ (o : Option ReportRecord). IfSome o (AllOwn bytes))
    (direction-found c.args.direction reports bytes)
    (own-of c.args.direction (listed reports) bytes c.self.invariant)))

pub returns-clause-works : goal.returns-clause-works
returns-clause-works c =
    let reports = c.self.inside.reports in
    let bytes = c.args.bytes.now in
    subst (λ (o : Option GroupedReport). IfSome o (λ r. AllWork bytes (listed_report r)))
    (sym c.find.ensures)
    (some-mapped listed_report (AllWork bytes) (find_report (reports_of c.args.direction reports) bytes)
    (subst (λ (o : Option ReportRecord). IfSome o (AllWork bytes))
    (direction-found c.args.direction reports bytes)
    (works-of c.args.direction (listed reports) bytes c.self.invariant)))
