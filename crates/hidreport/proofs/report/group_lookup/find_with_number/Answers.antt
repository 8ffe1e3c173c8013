use Rattle.std.proofs.Common.{◌≡◌, None, Some, rules, sym}
use Rattle.std.specs.Prelude.{◌==◌}
use Rattle.hidreport.specs.Groups.{group_fields}
use Rattle.hidreport_fields.specs.Lookup.{field_with}
use Rattle.hidreport_fields.specs.Records.{FieldRecord, place_of}
use Rattle.hidreport_fields.specs.Views.{field_record}
use Rattle.hidreport.proofs.GroupLookupLemmas.{found-next, none-next}
use Rattle.hidreport.proofs.report.group_lookup.find_with_number.Goals as goal

pub returns-in-Some : goal.returns-in-Some
returns-in-Some c =
    let group = c.group-item.result in
    let found : field_with c.args.number (group_fields group) ≡ Some (field_record c.in-Some.field) =
    search rules in
    sym (found-next (λ (f : FieldRecord). (place_of f).id == c.args.number) c.args.groups.now
    c.loop-group.group-index group (field_record c.in-Some.field) c.loop-group-test.true
    c.group-item.is c.loop-group.invariant found)

pub loop-group-preserved : goal.loop-group-preserved
loop-group-preserved c =
    let group = c.group-item.result in
    let none : field_with c.args.number (group_fields group) ≡ None = search rules in
    none-next (λ (f : FieldRecord). (place_of f).id == c.args.number) c.args.groups.now
    c.loop-group.group-index group c.loop-group-test.true c.group-item.is c.loop-group.invariant none
