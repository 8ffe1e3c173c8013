use Rattle.std.proofs.Common.{◌≡◌, ◌≤◌, ◌++◌, drop, false, length, take}
use Rattle.std.specs.List.{list_any}
use Rattle.hidreport.specs.HostUsages.{completed, lies_on}
use Rattle.hidreport.proofs.parser.host_usages.complete.Given as goal

-- the spans behind the index are moved, and none of them lay on the page
abbrev pub invariant-loop-index : goal.invariant-loop-index
invariant-loop-index l =
    (l.spans ≡ take l.index l.initial.spans ++ completed l.page (drop l.index l.initial.spans))
    × (list_any (lies_on l.page) (drop l.index l.initial.spans) ≡ false)
    × (l.index ≤ length l.initial.spans)

abbrev pub decreases-loop-index : goal.decreases-loop-index
decreases-loop-index l = l.index
