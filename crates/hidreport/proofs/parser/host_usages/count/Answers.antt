use Rattle.std.proofs.Common.{arith}
use Rattle.hidreport.proofs.HostUsageLemmas.{length-taken}
use Rattle.hidreport.proofs.parser.host_usages.count.Goals as goal

pub loop-span-preserved : goal.loop-span-preserved
loop-span-preserved c =
    let i = c.loop-span.span-index in
    let s = c.span-item.result in
    let more = length-taken c.args.spans.now i s c.loop-span-test.true c.span-item.is in (
      omega (arith, c.loop-span.invariant.0, c.from-total.ensures, c.count.ensures.count, more),
      omega (arith, c.loop-span.invariant.1, c.from-total.ensures, c.count.ensures.bound),
    )
