use Rattle.std.proofs.Common.{◌≡◌, ◌≤◌, ◌*◌, ◌^◌, flat_map, length, take}
use Rattle.hidreport.specs.HostUsages.{span_usages}
use Rattle.hidreport.proofs.parser.host_usages.count.Given as goal

-- the usages of those so far, no more than 2^32 each
abbrev pub invariant-loop-span : goal.invariant-loop-span
invariant-loop-span l =
    (l.total ≡ length (flat_map span_usages (take l.span-index l.spans)))
    × (l.total ≤ l.span-index * 2 ^ 32)
