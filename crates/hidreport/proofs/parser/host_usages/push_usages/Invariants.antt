use Rattle.std.proofs.Common.{◌≡◌, ◌+◌, ◌++◌, ◌≤◌, vec_capacity, vec_len}
use Rattle.hidreport.specs.HostUsages.{usages_from}
use Rattle.hidreport.proofs.parser.host_usages.push_usages.Given as goal

-- the usages so far, and room for the others
abbrev pub invariant-loop-behind : goal.invariant-loop-behind
invariant-loop-behind l =
    (l.list.items ≡ l.initial.list.items ++ usages_from l.span l.span.first l.behind)
    × (vec_len l.list ≡ vec_len l.initial.list + l.behind)
    × (vec_len l.initial.list + l.count ≤ vec_capacity l.list)
