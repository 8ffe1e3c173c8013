use Rattle.std.proofs.Common.{◌≡◌, ◌++◌, take}
use Rattle.hidreport_c.specs.Group.{lent}
use Rattle.hidreport_c.proofs.group.add_groups.Given as goal

-- the groups so far are behind those that were there
abbrev pub invariant-loop-group : goal.invariant-loop-group
invariant-loop-group l =
    lent l.groups.items ≡ lent l.initial.groups.items ++ take l.group-index l.added
