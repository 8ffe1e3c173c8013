use Rattle.std.proofs.Common.{◌≡◌, length, take}
use Rattle.hidreport.specs.Groups.{fields_of_groups}
use Rattle.hidreport_c.proofs.describe.count_listed.Given as goal

-- the number of fields of the groups so far
abbrev pub invariant-loop-group : goal.invariant-loop-group
invariant-loop-group l = l.count ≡ length (fields_of_groups (take l.group-index l.groups))
