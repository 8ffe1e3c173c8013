use Rattle.std.proofs.Common.{Bor, ap, ◌∙◌}
use Rattle.std.specs.Option.{option_copied}
use Rattle.std.specs.Prelude.{option_map}
use Rattle.hidreport.specs.Groups.{GroupRecord}
use Rattle.hidreport_c.proofs.GroupLemmas.{field-told, group-at, no-field-told}
use Rattle.hidreport_c.specs.Group.{groups_of, lent}
use Rattle.hidreport_c.proofs.group.write_field.Goals as goal

pub returns-in-Some : goal.returns-in-Some
returns-in-Some c =
    let found = c.deref.result.now in
    let group = c.args.place.0 in
    field-told found (groups_of c.args.reports.now) group c.args.place.1
    c.in-Some.group.now.now c.field.result c.args.fields.now c.write_made.new.fields
    c.write_made.result
    (ap lent c.deref.ensures.value ∙ c.in-Ok.ensures)
    (group-at found group c.get.result c.get.ensures.lookup
    ∙ ap (λ r. option_map (λ (g : Bor GroupRecord). g.now) (option_copied r)) c.in-Some.is)
    c.field.ensures c.write_made.ensures

pub returns-in-Ok : goal.returns-in-Ok
returns-in-Ok c =
    let found = c.deref.result.now in
    let group = c.args.place.0 in
    no-field-told found (groups_of c.args.reports.now) group c.args.place.1
    c.args.fields.now c.counted.result
    (ap lent c.deref.ensures.value ∙ c.in-Ok.ensures)
    (group-at found group c.get.result c.get.ensures.lookup
    ∙ ap (λ r. option_map (λ (g : Bor GroupRecord). g.now) (option_copied r)) c.in-None.is)
    c.counted.ensures
