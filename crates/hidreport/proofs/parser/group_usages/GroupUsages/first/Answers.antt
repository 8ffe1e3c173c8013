use Rattle.std.proofs.Common.{◌≡◌, ◌∙◌, inr, ap, map, sym, take}
use Rattle.std.proofs.lemmas.List.{take-map}
use Rattle.std.proofs.lemmas.Result.{IfOk-weaker}
use Rattle.hidreport.specs.Parser.Groups.{HasFirst, own_usages}
use Rattle.hidreport.specs.Parser.Locals.{usage_under}
use Rattle.hidreport.specs.Parser.Usages.{usage_list}
use Rattle.hidreport.specs.declared.parser.group_usages.GroupUsages.{GroupUsages}
use Rattle.hidreport.specs.declared.parser.usages.Usages.{Usages}
use Rattle.hidreport.proofs.parser.group_usages.GroupUsages.first.Goals as goal

pub returns-in-Single : goal.returns-in-Single
returns-in-Single c =
    let under = usage_under c.in-Single.page in
    IfOk-weaker c.first_of_single.result
    (λ own. (own_usages own).usages ≡ map under c.front.result.now)
    (λ own. HasFirst c.args.most (own_usages own) (usage_list c.args.usages.now))
    (λ (own : GroupUsages) is. inr (is ∙ ap (map under) c.front.ensures
    ∙ sym (take-map under c.args.most c.in-Single.usages.now)
    ∙ ap (λ (us : Usages). take c.args.most (usage_list us).usages) (sym c.in-Single.is)))
    c.first_of_single.ensures
