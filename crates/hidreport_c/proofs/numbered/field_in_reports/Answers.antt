use Rattle.std.proofs.Common.{sym, ◌∙◌, ap}
use Rattle.std.specs.Prelude.{option_copied, option_map}
use Rattle.hidreport.specs.Views.{field_record}
use Rattle.hidreport_c.specs.Numbered.{numbered}
use Rattle.hidreport_c.proofs.FieldsLemmas.{found-in, has, not-in}
use Rattle.hidreport_c.proofs.numbered.field_in_reports.Goals as goal

pub returns-in-Some : goal.returns-in-Some
returns-in-Some c =
    let field = field_record c.in-Some.field.now in
    found-in (has c.args.number) c.args.reports.now c.loop-report.report-index
    c.report-item.result field c.loop-report-test.true c.report-item.is c.loop-report.invariant
    (ap (numbered c.args.number) (sym c.fields.ensures) ∙ sym c.field_in.ensures
    ∙ ap (λ r. option_map field_record (option_copied r)) c.in-Some.is)

pub loop-report-preserved : goal.loop-report-preserved
loop-report-preserved c =
    not-in (has c.args.number) c.args.reports.now c.loop-report.report-index
    c.report-item.result c.loop-report-test.true c.report-item.is c.loop-report.invariant
    (ap (numbered c.args.number) (sym c.fields.ensures) ∙ sym c.field_in.ensures
    ∙ ap (λ r. option_map field_record (option_copied r)) c.in_default.is)
