-- An item that is short or long (Sections 6.2.2.2 and 6.2.2.3).
use Rattle.std.specs.Prelude.{◌≡◌, ℕ, Bool, true, false, List, Result, Ok, Err}
use Rattle.hidreport_items.specs.Answer.{GrammarFault, FailsWithoutMemory}
use Rattle.hidreport_items.specs.Spelling.{first_or_zero, is_long_header}
use Rattle.hidreport_items.specs.declared.error.HidError.{HidError}
use Rattle.hidreport_items.specs.declared.item.ItemType.TheVariants as item
use Rattle.hidreport_lists.specs.Data.{long_data, long_tag, short_data, short_tag}
use Rattle.hidreport_lists.specs.Entry.{Spelled}
use Rattle.hidreport_lists.specs.declared.any_item.AnyItem.{AnyItem}
use Rattle.hidreport_lists.specs.declared.any_item.AnyItem.TheVariants as any

-- the item with its bytes
abbrev pub spelling_of : AnyItem → Spelled
spelling_of (any.Short item) = item
spelling_of (any.Long bytes) = record { bytes = bytes; item = item.Long }

-- the item is a long one
abbrev pub is_long_one : AnyItem → Bool
is_long_one (any.Short item) = false
is_long_one (any.Long bytes) = true

-- it is one just where the bytes begin with a long item's header
abbrev pub IsByHeader : AnyItem → List ℕ → Type 0
IsByHeader item bytes = is_long_one item ≡ is_long_header (first_or_zero bytes)

-- the tag of an item
abbrev pub any_tag : AnyItem → ℕ
any_tag (any.Short item) = short_tag item.bytes
any_tag (any.Long bytes) = long_tag bytes

-- its data
abbrev pub any_data : AnyItem → List ℕ
any_data (any.Short item) = short_data item.bytes
any_data (any.Long bytes) = long_data bytes

-- an error is this fault; only a message takes memory
abbrev pub RefusesWithoutMemory : Result AnyItem HidError → Result Spelled GrammarFault → Type 0
RefusesWithoutMemory (Ok item) read = Unit {0}
RefusesWithoutMemory (Err e) read = FailsWithoutMemory e read
