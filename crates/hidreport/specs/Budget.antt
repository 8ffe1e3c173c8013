-- Parsing under a budget: the reports that a descriptor announces, where listing them weighs no
-- more than a limit.
use Rattle.std.specs.Prelude.{ℕ, nat_le, Bool, false, if◌then◌else◌, List, [], ◌∷◌, map, Option}
use Rattle.std.specs.Prelude.{None, Some, Result, Ok, Err}
use Rattle.hidreport_items.specs.Answer.{GrammarFault}
use Rattle.hidreport_items.specs.Spelling.{item_of}
use Rattle.hidreport_items.specs.declared.item.ItemType.{ItemType}
use Rattle.hidreport_lists.specs.Answer.{Refusal, InvalidData}
use Rattle.hidreport_lists.specs.Entry.{Entry}
use Rattle.hidreport_lists.specs.Itemising.{itemise}
use Rattle.hidreport_lists.specs.Messages.{grammar_message}
use Rattle.hidreport.specs.ItemState.{item_state}
use Rattle.hidreport.specs.Kinds.{Indexed}
use Rattle.hidreport.specs.Meaning.{InForce, at_offset, empty_descriptor, meaning_by}
use Rattle.hidreport.specs.MeaningFault.{MeaningFault, BudgetExceeded}
use Rattle.hidreport_fields.specs.Records.{DescriptorRecord}
use Rattle.hidreport.specs.Weight.{first_past}
use Rattle.hidreport.specs.declared.parser.usages_by.UsagesBy.TheVariants as usages_by

-- the first fault stands at index k or before it
abbrev pub is_faulty_by : ℕ → Result DescriptorRecord (ℕ × MeaningFault) → Bool
is_faulty_by k (Ok announced) = false
is_faulty_by k (Err first) = nat_le first.0 k

-- the plain answer, unless the budget is spent before a fault
abbrev pub unless_past : Option Indexed → Result DescriptorRecord (ℕ × MeaningFault)
    → Result DescriptorRecord (ℕ × MeaningFault)
unless_past None answer = answer
unless_past (Some p) answer = if is_faulty_by p.0 answer then answer else Err (p.0, BudgetExceeded)

-- the reports, or the first item with a fault or past the limit
abbrev pub meaning_within_by : InForce → ℕ → List ItemType
    → Result DescriptorRecord (ℕ × MeaningFault)
meaning_within_by reading limit items =
    unless_past (first_past (reading items) limit items) (meaning_by reading items)

-- a grammar fault, or else the meaning of the items under the limit
abbrev pub parse_items_within : InForce → ℕ → Result (List Entry) (ℕ × GrammarFault)
    → Result DescriptorRecord Refusal
parse_items_within reading limit (Err fault) =
    Err (InvalidData fault.0 (grammar_message fault.1))
parse_items_within reading limit (Ok entries) =
    at_offset entries (meaning_within_by reading limit (map (λ e. e.item) entries))

-- the reports that the bytes of a descriptor announce, or their first fault, or the item that is
-- past the limit
abbrev pub parse_within_by : InForce → ℕ → List ℕ → Result DescriptorRecord Refusal
parse_within_by reading limit [] = Err (InvalidData 0 empty_descriptor)
parse_within_by reading limit (b ∷ bs) =
    parse_items_within reading limit (itemise item_of (b ∷ bs))

-- the same where Push keeps globals and locals
abbrev pub parse_within : ℕ → List ℕ → Result DescriptorRecord Refusal
parse_within = parse_within_by (item_state usages_by.Standard)
