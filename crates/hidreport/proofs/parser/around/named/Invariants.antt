use Rattle.std.proofs.Common.{◌≡◌, ◌≤◌, length, take, vec_len, vec_capacity}
use Rattle.hidreport.proofs.parser.around.named.Given as goal

-- the collections so far, and room for all
abbrev pub invariant-loop-collection : goal.invariant-loop-collection
invariant-loop-collection l =
    (l.list.items ≡ take l.collection-index l.collections)
    × (vec_len l.list ≡ l.collection-index) × (length l.collections ≤ vec_capacity l.list)
