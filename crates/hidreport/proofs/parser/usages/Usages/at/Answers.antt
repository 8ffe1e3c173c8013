use Rattle.std.proofs.Common.{◌<◌, ◌∙◌, length, ap, sym, subst}
use Rattle.std.proofs.lemmas.List.{length-map}
use Rattle.hidreport.specs.Fields.{usage_at}
use Rattle.hidreport.specs.Parser.Locals.{usage_under}
use Rattle.hidreport.specs.Parser.Usages.{usage_list}
use Rattle.hidreport.specs.declared.parser.usages.Usages.{Usages}
use Rattle.hidreport.proofs.parser.usages.Usages.at.Goals as goal

pub single_at-requires : goal.single_at-requires
single_at-requires c =
    subst (λ n. 0 < n) (length-map c.in-Single.usages.now (usage_under c.in-Single.page))
    (subst (λ (u : Usages). 0 < length (usage_list u).usages) c.in-Single.is c.requires)

pub returns-in-Single : goal.returns-in-Single
returns-in-Single c =
    c.single_at.ensures
    ∙ sym (ap (λ (u : Usages). usage_at (usage_list u).usages c.args.c) c.in-Single.is)
