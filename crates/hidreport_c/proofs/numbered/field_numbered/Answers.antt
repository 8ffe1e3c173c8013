use Rattle.std.proofs.Common.{sym, ◌∙◌, ap}
use Rattle.std.specs.Prelude.{option_copied, option_map}
use Rattle.hidreport.specs.Records.{fields_in_all}
use Rattle.hidreport.specs.Views.{field_record}
use Rattle.hidreport_c.specs.Numbered.{numbered}
use Rattle.hidreport_c.proofs.FieldsLemmas.{found-first, found-second, found-third, has}
use Rattle.hidreport_c.proofs.numbered.field_numbered.Goals as goal

pub returns-in-Some : goal.returns-in-Some
returns-in-Some c =
    let n = c.args.number in
    let d = c.args.descriptor.now in
    found-first (has n) d.input d.output d.feature (field_record c.in-Some.field.now)
    (ap (λ l. numbered n (fields_in_all l)) (sym c.input_reports.ensures)
    ∙ sym c.field_in_reports.ensures
    ∙ ap (λ r. option_map field_record (option_copied r)) c.in-Some.is)

pub returns-in-Some-field_in_reports : goal.returns-in-Some-field_in_reports
returns-in-Some-field_in_reports c =
    let n = c.args.number in
    let d = c.args.descriptor.now in
    found-second (has n) d.input d.output d.feature
    (field_record c.in-Some-field_in_reports.field.now)
    (ap (λ l. numbered n (fields_in_all l)) (sym c.input_reports.ensures)
    ∙ sym c.field_in_reports.ensures
    ∙ ap (λ r. option_map field_record (option_copied r)) c.in_default.is)
    (ap (λ l. numbered n (fields_in_all l)) (sym c.output_reports.ensures)
    ∙ sym c.field_in_reports-2.ensures
    ∙ ap (λ r. option_map field_record (option_copied r)) c.in-Some-field_in_reports.is)

pub returns : goal.returns
returns c =
    let n = c.args.number in
    let d = c.args.descriptor.now in
    found-third (has n) d.input d.output d.feature
    (option_map field_record (option_copied c.field_in_reports-3.result))
    (ap (λ l. numbered n (fields_in_all l)) (sym c.input_reports.ensures)
    ∙ sym c.field_in_reports.ensures
    ∙ ap (λ r. option_map field_record (option_copied r)) c.in_default.is)
    (ap (λ l. numbered n (fields_in_all l)) (sym c.output_reports.ensures)
    ∙ sym c.field_in_reports-2.ensures
    ∙ ap (λ r. option_map field_record (option_copied r)) c.in_default-field_in_reports.is)
    (c.field_in_reports-3.ensures
    ∙ ap (λ l. numbered n (fields_in_all l)) c.feature_reports.ensures)
