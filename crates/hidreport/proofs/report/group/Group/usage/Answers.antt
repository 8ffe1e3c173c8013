use Rattle.std.proofs.Common.{◌≡◌, ◌∙◌, IfSome, ap, false, min, rules, suc, subst, sym, take, true}
use Rattle.hidreport.specs.Fields.{usage_at}
use Rattle.hidreport.specs.Groups.{GroupRecord, taken_of}
use Rattle.hidreport.specs.Parser.Groups.{own_usages}
use Rattle.hidreport_fields.specs.declared.field.usage.Usage.{Usage}
use Rattle.hidreport.proofs.GroupLemmas.{at-taken}
use Rattle.hidreport.proofs.report.group.Group.usage.Goals as goal

pub returns-then-layout-2-clause-some : goal.returns-then-layout-2-clause-some
returns-then-layout-2-clause-some c =
    let g = c.self.inside in
    let l = g.layout in
    let own = own_usages g.usages in
    let last = c.in_ok-last.last in
    let filled : l.item.flags.constant ≡ false = search rules in
    let several : l.item.flags.variable ≡ true = search rules in
    let count : l.count ≡ suc last = search rules in
    let least : c.min.result ≡ min c.args.index last = search rules in
    let taken : (taken_of l.item.flags l.count own).usages ≡ take (suc last) own.usages =
    rw (filled, several) (ap (λ n. take n own.usages) count) in
    subst (λ (r : GroupRecord). IfSome c.at.result (λ u. u ≡ usage_at r.usages.usages c.args.index))
    c.self.view_is
    (subst (λ (v : Usage). IfSome c.at.result (λ u. u ≡ v))
    (ap (usage_at own.usages) least ∙ at-taken own.usages last c.args.index
    ∙ ap (λ us. usage_at us c.args.index) (sym taken))
    c.at.ensures.some)
