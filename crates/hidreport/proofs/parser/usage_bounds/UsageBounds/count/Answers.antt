use Rattle.std.proofs.Common.{◌+◌, ◌-◌, arith}
use Rattle.hidreport_fields.proofs.RangeLemmas.{length-range_from}
use Rattle.hidreport.proofs.parser.usage_bounds.UsageBounds.count.Goals as goal

pub returns-clause-count : goal.returns-clause-count
returns-clause-count c =
    let b = c.args.self.now in
    omega (arith, c.from.ensures, c.from-2.ensures, length-range_from b.page b.minimum (b.maximum + 1 - b.minimum))
