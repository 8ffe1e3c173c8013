-- The same places by one walk forward.
use Rattle.std.specs.Prelude.{ℕ, ◌+◌, ◌&&◌, Bool, if◌then◌else◌, List, [], ◌++◌, ◌∷◌, is_some}
use Rattle.std.specs.Prelude.{Option, None, Some, option_to_list, Result, Ok, Err}
use Rattle.hidreport_items.specs.Answer.{GrammarFault}
use Rattle.hidreport_items.specs.declared.item.ItemType.{ItemType}
use Rattle.hidreport_lists.specs.Entry.{Entry}
use Rattle.hidreport.specs.Kinds.{data_of}
use Rattle.hidreport.specs.Making.{extent}
use Rattle.hidreport.specs.Parser.Machine.{StateRecord, next_state}
use Rattle.hidreport.specs.declared.report.item_place.GroupPlace.{GroupPlace}
use Rattle.hidreport.specs.declared.report.item_place.ItemPlace.{ItemPlace}

-- the item makes fields, where this is held
abbrev pub makes_in : StateRecord → ItemType → Bool
makes_in h x = is_some (data_of x) && is_some (extent h.item_state)

-- where the item stands, if it makes fields
abbrev pub place_in : StateRecord → ItemPlace → ItemType → Option GroupPlace
place_in h place x = if makes_in h x then Some (record { number = h.fields; place = place }) else None

-- the same of each of these items, the first with this index
abbrev pub places_from : StateRecord → ℕ → List Entry → List GroupPlace
places_from h k [] = []
places_from h k (e ∷ es) =
    option_to_list (place_in h (record { index = k; offset = e.offset }) e.item)
    ++ places_from (next_state h e.item) (k + 1) es

-- behind those before
abbrev pub placed : List GroupPlace → StateRecord → ℕ → Result (List Entry) (ℕ × GrammarFault)
    → Result (List GroupPlace) (ℕ × GrammarFault)
placed before h k (Ok entries) = Ok (before ++ places_from h k entries)
placed before h k (Err fault) = Err fault
