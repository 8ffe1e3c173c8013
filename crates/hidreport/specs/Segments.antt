-- Segments (Section 6.2.2.7, Push and Pop): a Push, items, and the Pop that takes all of it back.
use Rattle.std.specs.Prelude.{◌≡◌, ℕ, ◌+◌, ◌≤◌, nat_lt, is_some, false, if◌then◌else◌, List, ◌∷◌}
use Rattle.std.specs.Prelude.{◌++◌, take, count_by, Result, Ok, Err}
use Rattle.std.specs.List.{list_any}
use Rattle.hidreport_items.specs.declared.global.GlobalItem.TheVariants as global
use Rattle.hidreport_items.specs.declared.item.ItemType.{ItemType}
use Rattle.hidreport_items.specs.declared.item.ItemType.TheVariants as item
use Rattle.hidreport.specs.MeaningFault.{MeaningFault}
use Rattle.hidreport.specs.Kinds.{is_main, is_push, is_pop, local_of}
use Rattle.hidreport_fields.specs.Records.{DescriptorRecord}

-- no main item is among these items, and each Push among them is matched by a Pop among them
pub record IsMatched (items : List ItemType) : Type 0 where
  pub idle : list_any is_main items ≡ false
  pub within : (m : ℕ) → count_by is_pop (take m items) ≤ count_by is_push (take m items)
  pub closed : count_by is_pop items ≡ count_by is_push items

-- no local item is among these items
abbrev pub HasNoLocal : List ItemType → Type 0
HasNoLocal items = list_any (λ x. is_some (local_of x)) items ≡ false

-- no Push is among these items
abbrev pub HasNoPush : List ItemType → Type 0
HasNoPush items = list_any is_push items ≡ false

-- the items between a Push and its Pop, put between others
abbrev pub with_segment : List ItemType → List ItemType → List ItemType → List ItemType
with_segment front inside rest =
    front ++ (item.Global global.Push ∷ (inside ++ (item.Global global.Pop ∷ rest)))

-- the same meaning, or the fault of the same item, where so many items were put in at an index
abbrev pub moved_fault : ℕ → ℕ → Result DescriptorRecord (ℕ × MeaningFault)
    → Result DescriptorRecord (ℕ × MeaningFault)
moved_fault index count (Ok descriptor) = Ok descriptor
moved_fault index count (Err fault) =
    Err (if nat_lt fault.0 index then fault.0 else fault.0 + count, fault.1)
