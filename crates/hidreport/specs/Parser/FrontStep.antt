-- One step by the item at the front of the bytes, without the item made first.
use Rattle.std.specs.Prelude.{◌≡◌, ℕ, List, None, Ok, Err, Result}
use Rattle.hidreport_items.specs.Answer.{GrammarFault}
use Rattle.hidreport_items.specs.declared.item.ItemType.{ItemType}
use Rattle.hidreport_lists.specs.FrontItem.{IsAtFront}
use Rattle.hidreport.specs.Kinds.{data_of}
use Rattle.hidreport.specs.Parser.Budget.{weight_in}
use Rattle.hidreport.specs.Parser.Machine.{StateRecord, step}

-- the second state is behind the item, which takes nothing of a limit and makes no fields
abbrev pub GoesBy : StateRecord → StateRecord → Result ItemType GrammarFault → Type 0
GoesBy before after (Ok x) = (step before x ≡ Ok after) × (weight_in before x ≡ 0) × (data_of x ≡ None)
GoesBy before after (Err fault) = ⊥

-- the same of the item at the front of the bytes, which has so many
pub record HasTaken (before after : StateRecord) (size : ℕ) (bytes : List ℕ) : Type 0 where
  pub item : ItemType
  pub front : IsAtFront (record { item = item; size = size }) bytes
  pub goes : GoesBy before after (Ok item)
