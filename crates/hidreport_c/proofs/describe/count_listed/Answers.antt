use Rattle.std.proofs.Common.{ap, arith, length, length-append, take}
use Rattle.hidreport.proofs.GroupLookupLemmas.{fields-counted}
use Rattle.hidreport.specs.Groups.{fields_of_groups, group_fields}
use Rattle.hidreport_c.proofs.ListingLemmas.{flat-next}
use Rattle.hidreport_c.proofs.describe.count_listed.Goals as goal

pub loop-group-preserved : goal.loop-group-preserved
loop-group-preserved c =
    let groups = c.args.groups.now in
    let i = c.loop-group.group-index in
    let g = c.group-item.result in
    omega (
      arith,
      c.in_ok-count.ensures.1,
      c.loop-group.invariant,
      c.field_count.ensures,
      fields-counted g,
      length-append (fields_of_groups (take i groups)) (group_fields g),
      ap length (flat-next group_fields groups i g c.loop-group-test.true c.group-item.is),
    )
