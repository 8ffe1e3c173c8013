use Rattle.std.proofs.Common.{◌≡◌, ◌∙◌, IfOk, List, ap, slice_get, subst, sym}
use Rattle.std.specs.Prelude.{option_map}
use Rattle.hidreport.specs.Groups.{group_fields}
use Rattle.hidreport.specs.Parser.Groups.{own_usages}
use Rattle.hidreport_fields.specs.Records.{FieldRecord}
use Rattle.hidreport_fields.specs.Views.{field_record}
use Rattle.hidreport.proofs.GroupLemmas.{taken-laid}
use Rattle.hidreport.proofs.report.group.Group.field.Goals as goal

pub returns : goal.returns
returns c =
    let g = c.self.inside in
    subst (λ (fs : List FieldRecord). IfOk c.field.result (λ field.
    option_map field_record field ≡ slice_get fs c.args.index))
    (sym (taken-laid g.layout (own_usages g.usages)) ∙ ap group_fields c.self.view_is)
    c.field.ensures
