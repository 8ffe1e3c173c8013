-- Outlines: the groups of the items that make fields, where a descriptor is parsed.
use Rattle.std.specs.Prelude.{ℕ, List, [], map, Result, Ok, Err}
use Rattle.hidreport_items.specs.Answer.{GrammarFault}
use Rattle.hidreport_items.specs.Spelling.{item_of}
use Rattle.hidreport_items.specs.declared.item.ItemType.{ItemType}
use Rattle.hidreport_lists.specs.Answer.{Refusal}
use Rattle.hidreport_lists.specs.Entry.{Entry}
use Rattle.hidreport_lists.specs.Itemising.{itemise}
use Rattle.hidreport.specs.Groups.{OutlineRecord, grouped}
use Rattle.hidreport.specs.Options.{parse_as, reading_of}
use Rattle.hidreport.specs.declared.parse_options.ParseOptions.{ParseOptions}

-- the items of entries, none for a fault
abbrev pub items_or_none : Result (List Entry) (ℕ × GrammarFault) → List ItemType
items_or_none (Ok entries) = map (λ (e : Entry). e.item) entries
items_or_none (Err fault) = []

-- the items of bytes, none where one can't be read
abbrev pub items_in : List ℕ → List ItemType
items_in bytes = items_or_none (itemise item_of bytes)

-- this in the place of what is answered; a refusal stays
abbrev pub answer_with : {A B E : Type 0} → B → Result A E → Result B E
answer_with b (Ok a) = Ok b
answer_with b (Err refusal) = Err refusal

-- the groups that the items of bytes make by these options
abbrev pub groups_in : ParseOptions → List ℕ → OutlineRecord
groups_in options bytes = grouped (reading_of options (items_in bytes)) (items_in bytes)

-- the groups that the bytes of a descriptor announce, or what it is refused for
abbrev pub outline_as : ParseOptions → List ℕ → Result OutlineRecord Refusal
outline_as options bytes = answer_with (groups_in options bytes) (parse_as options bytes)
