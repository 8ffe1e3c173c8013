use Rattle.std.proofs.Common.{◌≡◌, ◌∙◌, ◌-◌, ◌<◌, ◌≤◌, IfOk, Option, ap, rules, slice_get, subst, sym}
use Rattle.std.specs.Prelude.{option_map}
use Rattle.hidreport.specs.Groups.{group_fields}
use Rattle.hidreport_fields.specs.Records.{FieldRecord}
use Rattle.hidreport_fields.specs.Views.{field_record}
use Rattle.hidreport.proofs.GroupLookupLemmas.{numbered-at, numbered-past}
use Rattle.hidreport.proofs.report.group_lookup.numbered.Goals as goal

pub returns-in_default : goal.returns-in_default
returns-in_default c =
    let g = c.args.group.now in
    let lt : c.args.number < g.beginning.number = search rules in
    sym (numbered-past g c.args.number lt)

pub returns : goal.returns
returns c =
    let g = c.args.group.now in
    let le : g.beginning.number ≤ c.args.number = search rules in
    let at : c.args.number - g.beginning.number ≡ c.in-Some.index = search rules in
    subst (λ (o : Option FieldRecord). IfOk c.field.result (λ field.
    option_map field_record field ≡ o))
    (sym (numbered-at g c.args.number le ∙ ap (slice_get (group_fields g)) at)) c.field.ensures
