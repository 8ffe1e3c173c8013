use Rattle.std.proofs.Common.{◌≡◌, ◌∙◌, ◌++◌, List, OnOk, ap, map, subst, sym}
use Rattle.hidreport.specs.Groups.{group_fields}
use Rattle.hidreport.specs.Parser.Groups.{own_usages}
use Rattle.hidreport_fields.specs.Records.{FieldRecord}
use Rattle.hidreport_fields.specs.Views.{field_record}
use Rattle.hidreport.proofs.GroupLemmas.{taken-laid}
use Rattle.hidreport.proofs.report.group.Group.add_fields.Goals as goal

pub returns : goal.returns
returns c =
    let g = c.self.inside in
    subst (λ (fs : List FieldRecord). OnOk c.add_fields.result
    (map field_record c.add_fields.new.fields.items
    ≡ map field_record c.args.fields.now.items ++ fs))
    (sym (taken-laid g.layout (own_usages g.usages)) ∙ ap group_fields c.self.view_is)
    c.add_fields.ensures
