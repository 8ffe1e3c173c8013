use Rattle.std.proofs.Common.{◌≡◌, ◌≤◌, length, take, vec_capacity, vec_len}
use Rattle.hidreport.proofs.parser.usages.copied.Given as goal

-- the first ones, and room for the others
abbrev pub invariant-loop-element : goal.invariant-loop-element
invariant-loop-element g l =
    (l.list.items ≡ take l.element-index l.slice)
    × (vec_len l.list ≡ l.element-index) × (length l.slice ≤ vec_capacity l.list)
