-- A descriptor's bytes as a list of items, none of which is a long one (Sections 6.2.2.1 and
-- 6.2.2.2): a header alone says how many bytes follow it.
use Rattle.std.specs.Prelude.{◌≡◌, ◌≢◌, ℕ, false, List, [], ◌∷◌, length, Ok}
use Rattle.hidreport_items.specs.Spelling.{data_length, is_long_header, AreBytes}
use Rattle.hidreport_items.specs.declared.item.ItemType.{ItemType}
use Rattle.hidreport_lists.specs.Entry.{Entry}
use Rattle.hidreport_lists.specs.Itemising.{Reader, all_bytes, AreAtOffsets}

-- the bytes are a header, not that of a long item, and the data that it announces, and are read as
-- the item
abbrev pub ReadsShort : Reader → List ℕ → ItemType → Type 0
ReadsShort read [] x = ⊥
ReadsShort read (h ∷ bs) x =
    AreBytes (h ∷ bs) × (is_long_header h ≡ false) × (length bs ≡ data_length h)
    × (read h bs ≡ Ok x)

-- each item's bytes spell it so
abbrev pub AreReadShort : Reader → List Entry → Type 0
AreReadShort read [] = Unit {0}
AreReadShort read (e ∷ entries) = ReadsShort read e.bytes e.item × AreReadShort read entries

-- the bytes are these short items, and there are some
pub record ItemisesShort (read : Reader) (bytes : List ℕ) (entries : List Entry) : Type 0 where
  pub some : bytes ≢ []
  pub whole : all_bytes entries ≡ bytes
  pub each : AreReadShort read entries
  pub offsets : AreAtOffsets 0 entries
