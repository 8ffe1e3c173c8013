-- The range of an array's usages (Section 6.2.2.8): from its first usage to its last, all on the
-- page of the first.
use Rattle.std.specs.Prelude.{◌≡◌, ℕ, zero, suc, ◌+◌, ◌%◌, Bool, true, false, ◌&&◌, ◌==◌, nat_le}
use Rattle.std.specs.Prelude.{if◌then◌else◌, List, [], ◌∷◌, length, Contains, Option, None, Some, IsSome, ◌↔◌}
use Rattle.hidreport_fields.specs.declared.field.usage.Usage.{Usage}

-- the usage with this page and id
abbrev pub make_usage : ℕ → ℕ → Usage
make_usage page id = record { usage_page = page; usage_id = id }

-- the low 16 bits of so many numbers from n on, each under the page
abbrev pub range_from : ℕ → ℕ → ℕ → List Usage
range_from page n zero = []
range_from page n (suc more) = make_usage page (n % 65536) ∷ range_from page (n + 1) more

-- a range of usages by its ends
pub record RangeRecord : Type 0 where
  pub first : Usage
  pub last : Usage

-- the id lies from that of the first usage to that of the last
abbrev pub is_id_within : RangeRecord → ℕ → Bool
is_id_within r id = nat_le r.first.usage_id id && nat_le id r.last.usage_id

-- the usage, where it is on the range's page and its id lies in the range
abbrev pub usage_within : RangeRecord → Usage → Option Usage
usage_within r u =
    if (u.usage_page == r.first.usage_page) && is_id_within r u.usage_id then Some u else None

-- the usage with this id on the range's page, where the id lies in the range
abbrev pub usage_with_id : RangeRecord → ℕ → Option Usage
usage_with_id r id = if is_id_within r id then Some (make_usage r.first.usage_page id) else None

-- the last of a usage and those behind it
abbrev pub last_usage : Usage → List Usage → Usage
last_usage u [] = u
last_usage u (v ∷ us) = last_usage v us

-- usages that are those of a range have one, unless there are none
abbrev pub range_of : Bool → List Usage → Option RangeRecord
range_of false us = None
range_of true [] = None
range_of true (u ∷ us) = Some (record { first = u; last = last_usage u us })

-- usages that are as many as the ids from the first to the last: the range has just these
abbrev pub HasExactly : RangeRecord → List Usage → Type 0
HasExactly r us = r.first.usage_id + length us ≡ r.last.usage_id + 1
    → (u : Usage) → IsSome (usage_within r u) ↔ Contains us u
