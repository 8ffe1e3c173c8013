-- Where the items stand that make fields (Section 6.2.2.4).
use Rattle.std.specs.Prelude.{◌≤◌, ℕ, ◌+◌, ◌==◌, ◌&&◌, Bool, List, [], ◌∷◌, filter, find, is_some, map}
use Rattle.std.specs.Prelude.{Option, option_map, Result, Ok, Err}
use Rattle.std.specs.List.{enumerate_from}
use Rattle.hidreport_items.specs.Answer.{GrammarFault}
use Rattle.hidreport_items.specs.Spelling.{item_of}
use Rattle.hidreport_items.specs.declared.item.ItemType.{ItemType}
use Rattle.hidreport_lists.specs.Entry.{Entry}
use Rattle.hidreport_lists.specs.Itemising.{itemise}
use Rattle.hidreport.specs.Fields.{fields_before}
use Rattle.hidreport.specs.Groups.{OutlineRecord}
use Rattle.hidreport.specs.ItemState.{ItemState}
use Rattle.hidreport.specs.Kinds.{Indexed, data_of}
use Rattle.hidreport.specs.Making.{extent}
use Rattle.hidreport.specs.Meaning.{offset_at}
use Rattle.hidreport.specs.Options.{reading_of}
use Rattle.hidreport.specs.Outline.{items_in}
use Rattle.hidreport.specs.declared.parse_options.ParseOptions.{ParseOptions}
use Rattle.hidreport.specs.declared.report.item_place.GroupPlace.{GroupPlace}
use Rattle.hidreport.specs.declared.report.item_place.ItemPlace.{ItemPlace}

-- an outline, and where the items stand that make its groups
pub record PlacedRecord : Type 0 where
  pub outline : OutlineRecord
  pub places : List GroupPlace

-- the item makes fields
abbrev pub makes_fields : (ℕ → ItemState) → Indexed → Bool
makes_fields state_at p = is_some (data_of p.1) && is_some (extent (state_at p.0))

-- how many items and how many bytes stand before an item, by the number of its first field
abbrev pub group_place : (ℕ → ItemState) → List ItemType → List Entry → Indexed → GroupPlace
group_place state_at items entries p = record {
  number = fields_before state_at items p.0;
  place = record { index = p.0; offset = offset_at entries p.0 };
}

-- those of all items that make fields, in their order
abbrev pub group_places : (ℕ → ItemState) → List ItemType → List Entry → List GroupPlace
group_places state_at items entries = map (group_place state_at items entries)
    (filter (makes_fields state_at) (enumerate_from 0 items))

-- the items of bytes with their offsets, none where one can't be read
abbrev pub entries_or_none : Result (List Entry) (ℕ × GrammarFault) → List Entry
entries_or_none (Ok entries) = entries
entries_or_none (Err fault) = []

-- where the items of bytes stand that make fields by these options
abbrev pub places_in : ParseOptions → List ℕ → List GroupPlace
places_in options bytes = group_places (reading_of options (items_in bytes)) (items_in bytes)
    (entries_or_none (itemise item_of bytes))

-- the numbers ascend, from this one on
abbrev pub Ascend : ℕ → List GroupPlace → Type 0
Ascend from [] = Unit {0}
Ascend from (p ∷ ps) = (from ≤ p.number) × Ascend (p.number + 1) ps

-- where the item stands whose first field has this number
abbrev pub place_of : List GroupPlace → ℕ → Option ItemPlace
place_of places number = option_map (λ p. p.place) (find (λ p. p.number == number) places)
