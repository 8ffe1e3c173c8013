use Rattle.std.proofs.Common.{◌∙◌, ap}
use Rattle.std.specs.Prelude.{find, option_map}
use Rattle.hidreport_fields.specs.Lookup.{has_usage}
use Rattle.hidreport_fields.specs.Views.{field_record}
use Rattle.hidreport.proofs.FieldLookupLemmas.{find-map}
use Rattle.hidreport.proofs.report.Report.field_for.Goals as goal

pub returns : goal.returns
returns g c = ap (option_map field_record) c.field_with_usage.ensures
    ∙ find-map field_record (has_usage c.args.usage) c.fields.result.now
    ∙ ap (find (has_usage c.args.usage)) c.fields.ensures
