use Rattle.std.proofs.Common.{◌∙◌, ap}
use Rattle.std.specs.Prelude.{◌==◌, find, option_map}
use Rattle.hidreport_fields.specs.Records.{place_of}
use Rattle.hidreport_fields.specs.Views.{field_record}
use Rattle.hidreport.proofs.FieldLookupLemmas.{find-map}
use Rattle.hidreport.proofs.report.Report.field.Goals as goal

pub returns : goal.returns
returns g c = ap (option_map field_record) c.field_with_id.ensures
    ∙ find-map field_record (λ f. (place_of f).id == c.args.number) c.fields.result.now
    ∙ ap (find (λ f. (place_of f).id == c.args.number)) c.fields.ensures
