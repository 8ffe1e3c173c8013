use Rattle.std.proofs.Common.{rules, ◌-◌, ◌≡◌, ◌∙◌, min, length, ap}
use Rattle.hidreport.specs.Parser.Locals.{usage_under}
use Rattle.hidreport.proofs.LocalsLemmas.{usage_at-single}
use Rattle.hidreport.proofs.parser.usages.single_at.Goals as goal

pub returns : goal.returns
returns c =
    let us = c.args.usages.now in
    let capped : c.min.result ≡ min c.args.c (length us - 1) = search rules in
    c.under.ensures ∙ ap (usage_under c.args.page) c.index-usages-min.is
    ∙ usage_at-single c.args.page us c.args.c c.min.result _ c.requires capped
