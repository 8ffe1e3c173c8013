use Rattle.std.proofs.Common.{◌+◌, ◌-◌, arith}
use Rattle.hidreport.proofs.HostUsageLemmas.{length-usages}
use Rattle.hidreport.proofs.parser.usage_span.UsageSpan.count.Goals as goal

pub returns-clause-count : goal.returns-clause-count
returns-clause-count c =
    let s = c.args.self.now in
    omega (arith, c.from.ensures, c.from-2.ensures, length-usages s s.first (s.last + 1 - s.first))
