-- Meaning: the reports that a list of items announces, or its first fault.
use Rattle.std.specs.Prelude.{ℕ, if◌then◌else◌, List, [], ◌∷◌, length, map, flat_map, slice_get}
use Rattle.std.specs.Prelude.{unwrap_or, Option, None, Some, Result, Ok, Err, codes, option_map}
use Rattle.std.specs.List.{enumerate_from, list_any}
use Rattle.hidreport_items.specs.Answer.{GrammarFault}
use Rattle.hidreport_items.specs.Spelling.{item_of}
use Rattle.hidreport_items.specs.declared.item.ItemType.{ItemType}
use Rattle.hidreport_lists.specs.Answer.{Refusal, InvalidData, OutOfBounds, BudgetExceeded}
use Rattle.hidreport_lists.specs.Entry.{Entry}
use Rattle.hidreport_lists.specs.Itemising.{itemise}
use Rattle.hidreport_lists.specs.Messages.{grammar_message}
use Rattle.hidreport.specs.Faults.{fault}
use Rattle.hidreport.specs.Fields.{fields_at}
use Rattle.hidreport.specs.ItemState.{ItemState, item_state, item_state_globals_only}
use Rattle.hidreport.specs.Kinds.{Indexed, Direction, Input, Output, Feature}
use Rattle.hidreport.specs.Making.{key, makers, makers_of}
use Rattle.hidreport_fields.specs.ReportIds.{same_key}
use Rattle.hidreport.specs.MeaningFault.{MeaningFault, text}
use Rattle.hidreport.specs.MeaningFault as meaning_fault
use Rattle.hidreport.specs.Places.{end_before}
use Rattle.hidreport_fields.specs.Records.{ReportRecord, DescriptorRecord}
use Rattle.hidreport.specs.declared.parser.usages_by.UsagesBy.TheVariants as usages_by

-- A reading of Push and Pop, and of usages: what is in force at each index of a list of items.
abbrev pub InForce : Type 0
InForce = List ItemType → ℕ → ItemState

-- the first of each kind, without those seen before
abbrev pub firsts_after : List (Option ℕ) → List (Option ℕ) → List (Option ℕ)
firsts_after seen [] = []
firsts_after seen (x ∷ xs) =
    if list_any (same_key x) seen then firsts_after seen xs else x ∷ firsts_after (x ∷ seen) xs

-- the keys of direction d, in order of first appearance
abbrev pub keys : (ℕ → ItemState) → Direction → List ItemType → List (Option ℕ)
keys state_at d items =
    firsts_after [] (map (λ p. key state_at d items p.0)
    (makers state_at d items (length items)))

-- the report with this key: the fields of the items that add to it, and the end of the last one
abbrev pub report : (ℕ → ItemState) → Direction → List ItemType → Option ℕ → ReportRecord
report state_at d items id = record {
  id = id;
  size = end_before state_at d id items (length items);
  fields = flat_map (fields_at state_at d items) (makers_of state_at d id items (length items));
}

-- the reports of direction d
abbrev pub reports : (ℕ → ItemState) → Direction → List ItemType → List ReportRecord
reports state_at d items = map (report state_at d items) (keys state_at d items)

-- the reports of the three directions
abbrev pub descriptor : (ℕ → ItemState) → List ItemType → DescriptorRecord
descriptor state_at items = record {
  input = reports state_at Input items;
  output = reports state_at Output items;
  feature = reports state_at Feature items;
}

-- the fault of item k, or else the first behind it
abbrev pub fault_here : Option MeaningFault → ℕ → Option (ℕ × MeaningFault)
    → Option (ℕ × MeaningFault)
fault_here (Some x) k later = Some (k, x)
fault_here None k later = later

-- the first of these items that has a fault, with its index
abbrev pub first_fault : (ℕ → ItemState) → List ItemType → List Indexed → Option (ℕ × MeaningFault)
first_fault state_at items [] = None
first_fault state_at items (p ∷ ps) =
    fault_here (fault state_at items p.0 p.1) p.0 (first_fault state_at items ps)

-- the reports, unless there is a fault
abbrev pub unless_first : Option (ℕ × MeaningFault) → DescriptorRecord
    → Result DescriptorRecord (ℕ × MeaningFault)
unless_first None announced = Ok announced
unless_first (Some first) announced = Err first

-- the reports, or the first fault with its index in the list, where this is in force
abbrev pub meaning_by : InForce → List ItemType → Result DescriptorRecord (ℕ × MeaningFault)
meaning_by reading items = unless_first
    (first_fault (reading items) items (enumerate_from 0 items)) (descriptor (reading items) items)

-- the same where Push keeps globals and locals
abbrev pub meaning : List ItemType → Result DescriptorRecord (ℕ × MeaningFault)
meaning = meaning_by (item_state usages_by.Standard)

-- the same where Push keeps globals alone
abbrev pub meaning_globals_only : List ItemType → Result DescriptorRecord (ℕ × MeaningFault)
meaning_globals_only = meaning_by (item_state_globals_only usages_by.Standard)

-- the offset of the entry at an index
abbrev pub offset_at : List Entry → ℕ → ℕ
offset_at entries k = unwrap_or (option_map (λ e. e.offset) (slice_get entries k)) 0

-- a fault with a text is invalid data at its item's offset; a count past its limit has no offset
abbrev pub refusal_by : ℕ → Option (List ℕ) → Refusal
refusal_by offset (Some message) = InvalidData offset message
refusal_by offset None = OutOfBounds

-- a fault of meaning as a parser says it
abbrev pub refusal_at : ℕ → MeaningFault → Refusal
refusal_at offset meaning_fault.BudgetExceeded = BudgetExceeded offset
refusal_at offset fault = refusal_by offset (text fault)

-- a fault with its item's offset in place of its index
abbrev pub at_offset : {A : Type 0} → List Entry → Result A (ℕ × MeaningFault)
    → Result A Refusal
at_offset entries (Ok announced) = Ok announced
at_offset entries (Err first) = Err (refusal_at (offset_at entries first.0) first.1)

-- a grammar fault, or else the meaning of the items
abbrev pub parse_items : InForce → Result (List Entry) (ℕ × GrammarFault)
    → Result DescriptorRecord Refusal
parse_items reading (Err fault) = Err (InvalidData fault.0 (grammar_message fault.1))
parse_items reading (Ok entries) =
    at_offset entries (meaning_by reading (map (λ e. e.item) entries))

-- the text for no bytes at all
abbrev pub empty_descriptor : List ℕ
empty_descriptor = codes "Empty report descriptor"

-- the reports that the bytes of a descriptor announce, or their first fault, grammar before meaning
abbrev pub parse_by : InForce → List ℕ → Result DescriptorRecord Refusal
parse_by reading [] = Err (InvalidData 0 empty_descriptor)
parse_by reading (b ∷ bs) = parse_items reading (itemise item_of (b ∷ bs))

-- the same where Push keeps globals and locals
abbrev pub parse : List ℕ → Result DescriptorRecord Refusal
parse = parse_by (item_state usages_by.Standard)

-- the same where Push keeps globals alone
abbrev pub parse_globals_only : List ℕ → Result DescriptorRecord Refusal
parse_globals_only = parse_by (item_state_globals_only usages_by.Standard)
