use Rattle.std.proofs.Common.{[], ◌∷◌, Bor, ap, sym, ◌∙◌}
use Rattle.std.specs.Option.{option_copied}
use Rattle.std.specs.Prelude.{option_map}
use Rattle.hidreport.specs.Groups.{GroupRecord}
use Rattle.hidreport_c.proofs.GroupLemmas.{usage-found, usage-told}
use Rattle.hidreport_c.proofs.ListsLemmas.{written-none}
use Rattle.hidreport_c.specs.Group.{groups_of, lent, one_or_none}
use Rattle.hidreport_c.proofs.group.write_usage.Goals as goal

pub returns-in-Some : goal.returns-in-Some
returns-in-Some c =
    let found = c.deref.result.now in
    let group = c.args.place.0 in
    let index = c.args.place.1 in
    usage-told found (groups_of c.args.reports.now) group index (c.usage_of.result ∷ [])
    c.args.usages.now c.write_one.new.numbers c.write_one.result
    (ap lent c.deref.ensures.value ∙ c.in-Ok.ensures)
    (ap (λ n. n ∷ []) c.usage_of.ensures
    ∙ ap (λ r. one_or_none (option_map (λ (g : Bor GroupRecord). g.now) (option_copied r)) index)
    (sym c.in-Some.is)
    ∙ usage-found found group index c.get.result c.get.ensures.lookup)
    c.write_one.ensures.count c.write_one.ensures.written

pub returns-in-Ok : goal.returns-in-Ok
returns-in-Ok c =
    let found = c.deref.result.now in
    let group = c.args.place.0 in
    let index = c.args.place.1 in
    usage-told found (groups_of c.args.reports.now) group index []
    c.args.usages.now c.args.usages.now c.counted.result
    (ap lent c.deref.ensures.value ∙ c.in-Ok.ensures)
    (ap (λ r. one_or_none (option_map (λ (g : Bor GroupRecord). g.now) (option_copied r)) index)
    (sym c.in-None.is)
    ∙ usage-found found group index c.get.result c.get.ensures.lookup)
    c.counted.ensures (sym (written-none c.args.usages.now))
