-- What a caller proves of what it reads.
use Rattle.std.specs.Prelude.{◌≡◌, ◌<◌, ◌≤◌, ℕ, ℤ, List, ◌++◌, Ok, Some, slice_get}
use Rattle.hidreport.specs.Entry.{Entry}
use Rattle.hidreport.specs.ItemType.{ItemType}
use Rattle.hidreport.specs.Itemising.{itemise, Itemises}
use Rattle.hidreport.specs.Laws.{Spares}
use Rattle.hidreport.specs.Rebuilt.{items_of, rebuilt_bytes}
use Rattle.hidreport.specs.Records.{DescriptorRecord, FieldRecord, ReportRecord, place_of}
use Rattle.hidreport.specs.Segments.{HasNoPush, IsMatched, with_segment}
use Rattle.hidreport.specs.Spelling.{item_of}
use Rattle.hidreport.specs.WritingValues.{written}
use Rattle.hidreport.specs.declared.parser.push_keeps.PushKeeps.{PushKeeps}

-- what is written anew of the items that bytes are
pub record IsRebuilt (bytes written : List ℕ) : Type 0 where
  pub entries : List Entry
  pub items : Itemises item_of bytes entries
  pub same : rebuilt_bytes entries ≡ written

-- bytes that are items, of which none is a Push
pub record HasNoPushItem (bytes : List ℕ) : Type 0 where
  pub entries : List Entry
  pub items : itemise item_of bytes ≡ Ok entries
  pub none : HasNoPush (items_of entries)

-- bytes that are items, and such without a Push, matched items and its Pop; where a Push keeps globals
-- alone no local item is among the matched ones
pub record LacksSegment (push_keeps : PushKeeps) (bytes without : List ℕ) : Type 0 where
  pub entries : List Entry
  pub others : List Entry
  pub front : List ItemType
  pub inside : List ItemType
  pub rest : List ItemType
  pub items : itemise item_of bytes ≡ Ok entries
  pub other_items : itemise item_of without ≡ Ok others
  pub matched : IsMatched inside
  pub spared : Spares push_keeps inside
  pub whole : items_of entries ≡ with_segment front inside rest
  pub lacking : items_of others ≡ front ++ rest

-- of two fields of an input report the bits of the first lie before those of the second
abbrev pub FieldsAreApart : DescriptorRecord → Type 0
FieldsAreApart d = (n i j : ℕ) (report : ReportRecord) (f g : FieldRecord)
    → slice_get d.input n ≡ Some report
    → slice_get report.fields i ≡ Some f → slice_get report.fields j ≡ Some g → i < j
    → (place_of f).end ≤ (place_of g).first

-- whatever is written next is what it would have been without the write before
abbrev pub SecondCounts : FieldRecord → List ℕ → List ℕ → Type 0
SecondCounts field before after = (others : List ℤ)
    → written field others after ≡ written field others before
