use Rattle.std.proofs.Common.{◌≡◌, ◌≤◌, vec_len, vec_capacity}
use Rattle.hidreport_fields.specs.UsageRange.{range_from}
use Rattle.hidreport.proofs.parser.usage_bounds.UsageBounds.list.Given as goal

-- the usages so far, and room for all
abbrev pub invariant-loop-behind : goal.invariant-loop-behind
invariant-loop-behind l =
    (l.list.items ≡ range_from l.self.page l.self.minimum l.behind)
    × (vec_len l.list ≡ l.behind) × (l.count ≤ vec_capacity l.list)
