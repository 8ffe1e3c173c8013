use Rattle.std.proofs.Common.{◌≡◌, ◌∙◌, List, Some, ap, subst, sym}
use Rattle.hidreport_fields.specs.Lookup.{IsOneWith, reports_of}
use Rattle.hidreport_fields.specs.Records.{ReportRecord}
use Rattle.hidreport_fields.specs.Tiling.{IsTiled}
use Rattle.hidreport.proofs.LookupLemmas.{own-found, own-ids}
use Rattle.hidreport.proofs.descriptor.ReportDescriptor.report_with_id.Goals as goal

pub returns-in-Some : goal.returns-in-Some
returns-in-Some c =
    let direction = c.args.direction in
    let report : ReportRecord = c.in-Some.report.now in
    let reports : List ReportRecord = reports_of direction c.args.self.now in
    let is : c.of-reports.result.now ≡ reports = c.of-reports.ensures
    ∙ ap (reports_of direction) c.self.view_is in
    let one : IsOneWith (Some c.args.id) reports report =
    subst (λ (rs : List ReportRecord). IsOneWith (Some c.args.id) rs report) is c.in-Some.ensures in
    sym (own-found (Some c.args.id) reports report
    (own-ids direction c.args.self.now (subst IsTiled c.self.view_is c.self.invariant)) one)
