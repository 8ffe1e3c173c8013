-- What a reader answers that makes no message.
use Rattle.std.specs.Prelude.{Result, Ok, Err}
use Rattle.hidreport_items.specs.Answer.{GrammarFault, Invalid, Insufficient}
use Rattle.hidreport_items.specs.Messages.{size_message, tag_message, long_message}
use Rattle.hidreport_items.specs.Messages.{not_long_message}
use Rattle.hidreport_items.specs.Spelling.{prefix}
use Rattle.hidreport_items.specs.declared.item_fault.ItemFault.{ItemFault}
use Rattle.hidreport_items.specs.declared.item_fault.ItemFault.TheVariants as faults

-- the fault with the text of its message
abbrev pub told_fault : ItemFault → GrammarFault
told_fault faults.TooFew = Insufficient
told_fault (faults.Length n) = Invalid (size_message n)
told_fault (faults.Tag header) = Invalid (tag_message (prefix header))
told_fault faults.Long = Invalid long_message
told_fault faults.Short = Invalid not_long_message

-- what was read, a fault by its message
abbrev pub told_answer : {A : Type 0} → Result A ItemFault → Result A GrammarFault
told_answer (Ok x) = Ok x
told_answer (Err fault) = Err (told_fault fault)
