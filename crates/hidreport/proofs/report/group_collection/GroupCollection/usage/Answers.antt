use Rattle.std.proofs.Common.{◌<◌, ◌∙◌, Some, ap, length, rules}
use Rattle.hidreport.proofs.FieldLemmas.{usage_at-get}
use Rattle.hidreport.proofs.report.group_collection.GroupCollection.usage.Goals as goal

pub returns : goal.returns
returns c =
    let us = c.args.self.now.usages in
    let more : c.args.index < length us = search rules in
    ap Some c.usage_there.ensures ∙ usage_at-get us c.args.index more
