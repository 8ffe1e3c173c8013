use Rattle.std.proofs.Common.{◌≡◌, ◌+◌, map, take}
use Rattle.hidreport.specs.Parser.Locals.{usage_under}
use Rattle.hidreport_fields.specs.UsageRange.{range_from}
use Rattle.hidreport.proofs.parser.usage_bounds.UsageBounds.counting_up.Given as goal

-- the first ones count up from the minimum
abbrev pub invariant-loop-usage : goal.invariant-loop-usage
invariant-loop-usage l =
    (map (usage_under l.page) (take l.usage-index l.usages)
    ≡ range_from l.page_of_all l.minimum l.usage-index)
    × (l.next ≡ l.minimum + l.usage-index)
