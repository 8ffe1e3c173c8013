use Rattle.std.proofs.Common.{◌≡◌, drop, flat_map}
use Rattle.hidreport.specs.Fields.{usage_at}
use Rattle.hidreport.specs.HostUsages.{span_usages}
use Rattle.hidreport.proofs.HostUsageLemmas.{usage_or}
use Rattle.hidreport.proofs.parser.host_usages.usage_at.Given as goal

-- the usage is one of the rest, or the last so far
abbrev pub invariant-loop-span : goal.invariant-loop-span
invariant-loop-span l =
    usage_at (flat_map span_usages l.spans) l.c
    ≡ usage_or l.last (flat_map span_usages (drop l.span-index l.spans)) l.before
