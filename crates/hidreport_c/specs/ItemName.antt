-- The names of items, kinds and flags as C gets them (Sections 6.2.2.4 to 6.2.2.8).
use Rattle.std.specs.Prelude.{ℕ, nat_lt, if◌then◌else◌, false, List, [], Result, Ok, Err}
use Rattle.hidreport.specs.ItemAnswer.{GrammarFault}
use Rattle.hidreport.specs.Spelling.{item_of}
use Rattle.hidreport_items.specs.Spelling.{collection_item}
use Rattle.hidreport_items.specs.declared.item.ItemType.{ItemType}
use Rattle.hidreport_items.specs.declared.item.ItemType.TheVariants as kind
use Rattle.hidreport_items.specs.declared.main_item.MainItem.TheVariants as main
use Rattle.hidreport_lists.specs.Entry.{Spelled}
use Rattle.hidreport_lists.specs.Itemising.{front_item}
use Rattle.hidreport_usages.specs.FlagWords.{flag_text}
use Rattle.hidreport_usages.specs.ItemWords.{collection_name, item_name}

-- a text of the item in front; none where there is no item
abbrev pub in_front : (ItemType → List ℕ) → Result Spelled GrammarFault → List ℕ
in_front text (Ok spelled) = text spelled.item
in_front text (Err fault) = []

-- the name of the item that bytes begin with, if it can be read
abbrev pub item_named : List ℕ → List ℕ
item_named bytes = in_front item_name (front_item item_of bytes)

-- the flags of an Input, Output or Feature; an Input has no flag 7
abbrev pub words_for : ItemType → List ℕ
words_for (kind.Main (main.Input flags)) = flag_text (record flags { volatile = false })
words_for (kind.Main (main.Output flags)) = flag_text flags
words_for (kind.Main (main.Feature flags)) = flag_text flags
words_for item = []

-- the words for the item that bytes begin with
abbrev pub flags_named : List ℕ → List ℕ
flags_named bytes = in_front words_for (front_item item_of bytes)

-- the name of a kind of collection, by its number
abbrev pub kind_named : ℕ → List ℕ
kind_named number =
    if nat_lt number 256 then collection_name (collection_item number) else []
