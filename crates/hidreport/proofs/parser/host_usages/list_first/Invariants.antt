use Rattle.std.proofs.Common.{◌≡◌, ◌++◌, drop, flat_map, take}
use Rattle.hidreport.specs.HostUsages.{span_usages}
use Rattle.hidreport.proofs.parser.host_usages.list_first.Given as goal

-- the usages so far, and as many of the rest as there is room for
abbrev pub invariant-loop-span : goal.invariant-loop-span
invariant-loop-span l =
    take l.most (flat_map span_usages l.spans)
    ≡ l.list.items ++ take l.room (flat_map span_usages (drop l.span-index l.spans))
