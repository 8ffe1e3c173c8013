-- Laws of a repair (Section 6.2.2): what stays as it stood, and where fields lie.
use Rattle.std.specs.Prelude.{◌≡◌, ◌≢◌, ◌≤◌, ℕ, ◌+◌, List, [], ◌∷◌, length, map, filter_map, flat_map, None}
use Rattle.std.specs.Prelude.{Option, Ok, false, option_map}
use Rattle.hidreport_items.specs.Spelling.{following_length, item_of}
use Rattle.hidreport_items.specs.declared.item.ItemType.{ItemType}
use Rattle.hidreport_lists.specs.Entry.{Entry}
use Rattle.hidreport_lists.specs.Itemising.{Itemises}
use Rattle.hidreport_lists.specs.Mending.{PieceRecord, item_in, pieces, standing_bytes}
use Rattle.hidreport_lists.specs.Rebuilt.{items_of, rebuilt_bytes}
use Rattle.hidreport.specs.Kinds.{Direction, data_of}
use Rattle.hidreport.specs.Making.{extent, key}
use Rattle.hidreport.specs.Meaning.{parse_by}
use Rattle.hidreport.specs.Options.{parse_as, reading_of}
use Rattle.hidreport.specs.Places.{start}
use Rattle.hidreport_fields.specs.Records.{DescriptorRecord}
use Rattle.hidreport.specs.Repair.{RepairedRecord, change_in, joined, repaired}
use Rattle.hidreport_fields.specs.Tiling.{Each}
use Rattle.hidreport.specs.declared.parse_options.ParseOptions.{ParseOptions}
use Rattle.hidreport.specs.declared.repairing.repair_options.RepairOptions.{RepairOptions}

-- each piece stood behind all bytes of those before it
abbrev pub AreInPlace : ℕ → List PieceRecord → Type 0
AreInPlace offset [] = Unit {0}
AreInPlace offset (p ∷ ps) = (p.offset ≡ offset) × AreInPlace (offset + length p.stood) ps

-- where no change is named, what stood there stands there
abbrev pub StandsAsItStood : PieceRecord → Type 0
StandsAsItStood p = p.reason ≡ None → standing_bytes p.stands ≡ p.stood

-- the bytes are no more than one item: a header, and at most what follows it
abbrev pub IsOneItem : List ℕ → Type 0
IsOneItem [] = ⊥
IsOneItem (h ∷ bs) = length bs ≤ following_length h bs

-- what stood there was one item
abbrev pub StoodAsOne : PieceRecord → Type 0
StoodAsOne p = IsOneItem p.stood

-- The bytes are pieces, and so are the repaired ones, in the same order. Each is one item's, so a
-- change is. Those that no change names are as they were.
pub record IsRepairOf (bytes : List ℕ) (r : RepairedRecord) : Type 0 where
  pub pieces : List PieceRecord
  pub whole : flat_map (λ p. p.stood) pieces ≡ bytes
  pub places : AreInPlace 0 pieces
  pub written : joined pieces ≡ r.bytes
  pub changes : filter_map change_in pieces ≡ r.changes
  pub same : Each StandsAsItStood pieces
  pub one : Each StoodAsOne pieces

-- the direction of a data item
abbrev pub item_direction : ItemType → Option Direction
item_direction x = option_map (λ p. p.0) (data_of x)

-- The items at each index have the same direction, if any, and the same size and count in force;
-- fields of a direction would begin there at the same bit of the same report.
pub record SamePlaces (options : ParseOptions) (items others : List ItemType) : Type 0 where
  pub directions : map item_direction items ≡ map item_direction others
  pub extents : (k : ℕ) → extent (reading_of options items k) ≡ extent (reading_of options others k)
  pub reports : (d : Direction) (k : ℕ)
      → key (reading_of options items) d items k ≡ key (reading_of options others) d others k
  pub starts : (d : Direction) (k : ℕ)
      → start (reading_of options items) d items k ≡ start (reading_of options others) d others k

-- Each field keeps its bits: the repaired bytes are items that lie where those lie which hid-core
-- reads of the bytes.
pub record KeepsBits (options : RepairOptions) (bytes : List ℕ) (r : RepairedRecord) : Type 0 where
  pub read : List PieceRecord
  pub reads : pieces options.leave_out_cut_short bytes ≡ Ok read
  pub entries : List Entry
  pub written : Itemises item_of r.bytes entries
  pub places : SamePlaces options.parse (filter_map item_in read) (items_of entries)

-- repaired once more it stays as it is, without a change, unless maxima are asked for
abbrev pub StaysRepaired : RepairOptions → RepairedRecord → Type 0
StaysRepaired options r = repaired (record options { unsigned_maxima = false }) r.bytes
    ≡ Ok (record { bytes = r.bytes; changes = [] })

-- what is written anew of its items, where there is something, is read as it is read
abbrev pub RebuildsAlike : RepairOptions → RepairedRecord → Type 0
RebuildsAlike options r = (entries : List Entry) (d : DescriptorRecord)
    → Itemises item_of r.bytes entries → rebuilt_bytes entries ≢ []
    → parse_as options.parse r.bytes ≡ Ok d
    → parse_by (reading_of options.parse) (rebuilt_bytes entries) ≡ Ok d
