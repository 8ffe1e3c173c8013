use Rattle.std.proofs.Common.{◌≡◌, ◌≤◌, length, map, take, vec_capacity, vec_len}
use Rattle.hidreport.specs.Parser.Locals.{usage_under}
use Rattle.hidreport.proofs.parser.group_usages.with_pages.Given as goal

-- the first ones, and room for the others
abbrev pub invariant-loop-usage : goal.invariant-loop-usage
invariant-loop-usage l =
    (map (usage_under 0) l.list.items ≡ take l.usage-index l.usages)
    × (vec_len l.list ≡ l.usage-index) × (length l.usages ≤ vec_capacity l.list)
