use Rattle.std.proofs.Common.{rules, ◌-◌, ◌≡◌, ◌∙◌, min, length}
use Rattle.hidreport.proofs.FieldLemmas.{usage_at-min}
use Rattle.hidreport.proofs.parser.usages.usage_at.Goals as goal

pub returns : goal.returns
returns c =
    let us = c.args.usages.now in
    let capped : c.min.result ≡ min c.args.c (length us - 1) = search rules in
    c.index-usages-min.is
    ∙ usage_at-min us c.args.c c.min.result c.index-usages-min.result c.requires capped
