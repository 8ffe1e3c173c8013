-- Visibility (Section 6.2.2.7, Push and Pop): a Pop hides again what its segment showed.
use Rattle.std.specs.Prelude.{ℕ, ◌+◌, ◌-◌, ◌<◌, ◌≤◌, zero, suc, nat_lt, nat_le, Bool, true, ◌&&◌}
use Rattle.std.specs.Prelude.{List, take, filter, count_by}
use Rattle.std.specs.List.{enumerate_from}
use Rattle.hidreport_items.specs.declared.item.ItemType.{ItemType}
use Rattle.hidreport.specs.Kinds.{Indexed, is_push, is_pop}

-- the items before index k, each with its index
abbrev pub before : List ItemType → ℕ → List Indexed
before items k = enumerate_from 0 (take k items)

-- how many Pushes before k are open: the Pushes before k less the Pops before k
abbrev pub level : List ItemType → ℕ → ℕ
level items k = count_by is_push (take k items) - count_by is_pop (take k items)

-- item j is visible at k: j is before k, and at no index after j up to k is the level lower than at
-- j
abbrev pub IsVisible : List ItemType → ℕ → ℕ → Type 0
IsVisible items j k = (j < k) × ((m : ℕ) → j < m → m ≤ k → level items j ≤ level items m)

-- at none of the n indices after j is the level lower than `floor`
abbrev pub stays_up : List ItemType → ℕ → ℕ → ℕ → Bool
stays_up items floor j zero = true
stays_up items floor j (suc n) = nat_le floor (level items (j + suc n)) && stays_up items floor j n

-- the same, computed
abbrev pub is_visible : List ItemType → ℕ → ℕ → Bool
is_visible items j k = nat_lt j k && stays_up items (level items j) j (k - j)

-- the items that are visible at k, in order
abbrev pub visible : List ItemType → ℕ → List Indexed
visible items k = filter (λ p. is_visible items p.0 k) (before items k)
