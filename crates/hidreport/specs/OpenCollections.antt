-- Open collections (Section 6.2.2.6): opened before and not yet closed, whatever Push and Pop do.
use Rattle.std.specs.Prelude.{ℕ, ◌+◌, ◌-◌, ◌<◌, ◌≤◌, zero, suc, nat_lt, Bool, true, ◌&&◌, List}
use Rattle.std.specs.Prelude.{take, filter, count_by}
use Rattle.hidreport_items.specs.declared.item.ItemType.{ItemType}
use Rattle.hidreport.specs.Kinds.{Indexed, is_collection, is_end_collection}
use Rattle.hidreport.specs.Visibility.{before}

-- how many collections are open at k: the Collections before k less the EndCollections before k
abbrev pub depth : List ItemType → ℕ → ℕ
depth items k = count_by is_collection (take k items) - count_by is_end_collection (take k items)

-- how many collections were opened before k
abbrev pub collections_before : List ItemType → ℕ → ℕ
collections_before items k = count_by is_collection (take k items)

-- the collection opened at j is open at k: at each index after j up to k the depth is greater than
-- at j
abbrev pub IsOpen : List ItemType → ℕ → ℕ → Type 0
IsOpen items j k = (j < k) × ((m : ℕ) → j < m → m ≤ k → depth items j < depth items m)

-- at each of the n indices after j the depth is greater than `floor`
abbrev pub stays_deep : List ItemType → ℕ → ℕ → ℕ → Bool
stays_deep items floor j zero = true
stays_deep items floor j (suc n) = nat_lt floor (depth items (j + suc n))
    && stays_deep items floor j n

-- the same, computed
abbrev pub is_open : List ItemType → ℕ → ℕ → Bool
is_open items j k = nat_lt j k && stays_deep items (depth items j) j (k - j)

-- the Collections that are open at k, outermost first
abbrev pub open_at : List ItemType → ℕ → List Indexed
open_at items k = filter (λ p. is_collection p.1 && is_open items p.0 k) (before items k)
