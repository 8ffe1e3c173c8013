-- An item that is read where it stands.
use Rattle.std.specs.Prelude.{◌≡◌, ◌+◌, ◌≤◌, ℕ, List, length, take, Ok}
use Rattle.hidreport_items.specs.Spelling.{item_of, read_as}
use Rattle.hidreport_lists.specs.Itemising.{front_item}
use Rattle.hidreport_lists.specs.declared.front.FrontItem.{FrontItem}
use Rattle.hidreport_lists.specs.declared.front.FrontParts.{FrontParts}

-- it is the item at the front of the bytes, spelled by as many as it has
abbrev pub IsAtFront : FrontItem → List ℕ → Type 0
IsAtFront front bytes = (front.size ≤ length bytes)
    × (front_item item_of bytes ≡ Ok (record { bytes = take front.size bytes; item = front.item }))

-- they are the header and what follows it of the item at the front of the bytes, if they are one
abbrev pub AreAtFront : FrontParts → List ℕ → Type 0
AreAtFront parts bytes = (1 + length parts.data.now ≤ length bytes)
    × (front_item item_of bytes ≡ read_as
    (λ x. record { bytes = take (1 + length parts.data.now) bytes; item = x })
    (item_of parts.header parts.data.now))
