use Rattle.std.proofs.Common.{◌≡◌, drop}
use Rattle.hidreport_linux.specs.Places.{innermost, innermost_or}
use Rattle.hidreport_linux.proofs.place.innermost.Given as goal

-- what is found so far is what the collections behind it are asked with
abbrev pub invariant-loop-index : goal.invariant-loop-index
invariant-loop-index l =
    innermost l.kind l.group.shared.collections
    ≡ innermost_or l.found l.kind (drop l.index l.group.shared.collections)
