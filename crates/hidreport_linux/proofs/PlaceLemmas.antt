-- The collections around an item, one after the other.
use Rattle.std.proofs.Common.{◌≡◌, ◌≤◌, ◌==◌, ℕ, zero, suc, List, [], ◌∷◌, Some, None, ap, arith}
use Rattle.std.proofs.Common.{cond, drop, length, slice_get}
use Rattle.hidreport.specs.Records.{CollectionRecord}
use Rattle.hidreport.specs.Spelling.{kind_number}
use Rattle.hidreport_linux.specs.Places.{innermost_or, usage_of}

-- the next collection
pub asked-next : (cs : List CollectionRecord) (k found kind : ℕ) (c : CollectionRecord)
    → slice_get cs k ≡ Some c
    → innermost_or found kind (drop k cs)
    ≡ innermost_or (cond (kind_number c.kind == kind) (usage_of c) found) kind (drop (suc k) cs)
asked-next [] k found kind c is = cc
asked-next (d ∷ ds) zero found kind c is =
    ap (λ x. innermost_or (cond (kind_number x.kind == kind) (usage_of x) found) kind ds)
    (let same : d ≡ c = cc in same)
asked-next (d ∷ ds) (suc k) found kind c is = asked-next ds k found kind c is

-- where there is none, there are no more
pub asked-all : (cs : List CollectionRecord) (k : ℕ) → slice_get cs k ≡ None → length cs ≤ k
asked-all [] k is = omega arith
asked-all (d ∷ ds) zero is = cc
asked-all (d ∷ ds) (suc k) is = let behind = asked-all ds k is in omega (arith, behind)
