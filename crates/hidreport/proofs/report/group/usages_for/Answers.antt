use Rattle.std.proofs.Common.{◌≡◌, ◌<◌, ◌≤◌, false, true, rules}
use Rattle.hidreport.specs.Parser.Groups.{own_usages}
use Rattle.hidreport.specs.Parser.Usages.{usage_list}
use Rattle.hidreport.proofs.GroupLemmas.{first-possible, first-taken}
use Rattle.hidreport.proofs.report.group.usages_for.Goals as goal

pub returns-then-layout-2-clause-taken : goal.returns-then-layout-2-clause-taken
returns-then-layout-2-clause-taken c =
    let l = c.args.layout.now in
    let n = c.max.result in
    let filled : l.item.flags.constant ≡ false = search rules in
    let several : l.item.flags.variable ≡ true = search rules in
    let enough : l.count ≤ n = search rules in
    first-taken l.item.flags l.count n (own_usages c.in_ok-first.first)
    (usage_list c.args.usages.now) filled several enough c.in_ok-first.ensures

pub returns-then-layout-2-clause-possible : goal.returns-then-layout-2-clause-possible
returns-then-layout-2-clause-possible c =
    let some : 0 < c.max.result = search rules in
    first-possible c.args.layout.now (own_usages c.in_ok-first.first)
    (usage_list c.args.usages.now) c.max.result some c.in_ok-first.ensures c.requires.possible
