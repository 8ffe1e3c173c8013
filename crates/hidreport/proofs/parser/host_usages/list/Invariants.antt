use Rattle.std.proofs.Common.{◌≡◌, flat_map, take}
use Rattle.hidreport.specs.HostUsages.{span_usages}
use Rattle.hidreport.proofs.parser.host_usages.list.Given as goal

-- the usages of those so far
abbrev pub invariant-loop-span : goal.invariant-loop-span
invariant-loop-span l = l.list.items ≡ flat_map span_usages (take l.span-index l.spans)
