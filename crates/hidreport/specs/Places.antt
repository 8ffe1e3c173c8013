-- Places (Section 5.6): where a report's fields lie in it, in bits.
use Rattle.std.specs.Prelude.{ℕ, ◌+◌, ◌*◌, List, sum_by, Option, None, Some}
use Rattle.hidreport_items.specs.declared.item.ItemType.{ItemType}
use Rattle.hidreport.specs.ItemState.{ItemState}
use Rattle.hidreport.specs.Kinds.{Direction}
use Rattle.hidreport.specs.Making.{extent, key, makers_of}
use Rattle.hidreport.specs.declared.parser.extent.Extent.{Extent}
pub use Rattle.hidreport_fields.specs.ReportIds.{id_bits}

-- how many bits an item of this size and count adds
abbrev pub bits_of : Option Extent → ℕ
bits_of None = 0
bits_of (Some e) = e.size * e.count

-- where the report ends behind the items before k: the id's bits and those of each item that adds
-- to it
abbrev pub end_before : (ℕ → ItemState) → Direction → Option ℕ → List ItemType → ℕ → ℕ
end_before state_at d id items k =
    id_bits id + sum_by (λ p. bits_of (extent (state_at p.0))) (makers_of state_at d id items k)

-- where the fields of an item of direction d at k begin
abbrev pub start : (ℕ → ItemState) → Direction → List ItemType → ℕ → ℕ
start state_at d items k = end_before state_at d (key state_at d items k) items k
