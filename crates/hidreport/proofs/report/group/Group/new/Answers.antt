use Rattle.std.proofs.Common.{◌∙◌, ℕ, ap}
use Rattle.hidreport.specs.Groups.{GroupRecord, taken_of}
use Rattle.hidreport.specs.Parser.Groups.{own_usages}
use Rattle.hidreport.specs.Parser.Layout.{beginning_of, extent_of, shared_of}
use Rattle.hidreport.specs.Parser.Usages.{usage_list}
use Rattle.hidreport.specs.Usages.{UsageList}
use Rattle.hidreport.proofs.report.group.Group.new.Goals as goal

pub returns : goal.returns
returns c =
    let l = c.args.layout.now in
    let all = usage_list c.args.usages.now in
    let made : ℕ → UsageList → GroupRecord = λ n us. record {
      beginning = beginning_of l;
      extent = extent_of l;
      flags = l.item.flags;
      named = n;
      usages = us;
      shared = shared_of l;
    } in
    c.in_ok-copy.ensures.laid c.named_by-named.result (own_usages c.in_ok-usages.usages)
    ∙ ap (made c.named_by-named.result) c.in_ok-usages.ensures.taken
    ∙ ap (λ n. made n (taken_of l.item.flags l.count all)) c.named_by-named.ensures
