-- Laws of parsing by each reading and under each limit: what changes nothing (Sections 6.2.2.3 and
-- 6.2.2.7). How many bytes a descriptor may have is no part of them, since what they put aside is
-- bytes.
use Rattle.std.specs.Prelude.{◌≡◌, ◌≢◌, ℕ, ◌+◌, List, [], ◌++◌, length, Ok, Result}
use Rattle.hidreport_items.specs.Spelling.{item_of}
use Rattle.hidreport_items.specs.declared.item.ItemType.{ItemType}
use Rattle.hidreport_lists.specs.Answer.{Refusal}
use Rattle.hidreport_lists.specs.Entry.{Entry}
use Rattle.hidreport_lists.specs.Itemising.{itemise, Itemises}
use Rattle.hidreport_lists.specs.Rebuilt.{items_of, kept_entries, rebuilt_bytes, canonical_entries}
use Rattle.hidreport.specs.Meaning.{at_offset, parse, parse_globals_only}
use Rattle.hidreport.specs.Options.{meaning_as, parse_limited, reading_of}
use Rattle.hidreport_fields.specs.Records.{DescriptorRecord}
use Rattle.hidreport.specs.Segments.{HasNoLocal, HasNoPush, IsMatched, moved_fault, with_segment}
use Rattle.hidreport.specs.declared.parse_options.ParseOptions.{ParseOptions}
use Rattle.hidreport.specs.declared.parser.push_keeps.PushKeeps.{PushKeeps}
use Rattle.hidreport.specs.declared.parser.push_keeps.PushKeeps.TheVariants as a_push_keeps

-- what the bytes mean by these options, however many they are
abbrev pub parse_any : ParseOptions → List ℕ → Result DescriptorRecord Refusal
parse_any options = parse_limited (reading_of options) options.limit

-- where a Push keeps no locals, no local item is among these
abbrev pub Spares : PushKeeps → List ItemType → Type 0
Spares a_push_keeps.All items = Unit {0}
Spares a_push_keeps.Globals items = HasNoLocal items

-- a Push, matched items and its Pop change nothing: the answer is that of the items around them, a
-- fault at the same item
abbrev pub SegmentsAreIdle : ParseOptions → List ℕ → Type 0
SegmentsAreIdle options bytes = (entries : List Entry) (front inside rest : List ItemType)
    → itemise item_of bytes ≡ Ok entries → IsMatched inside → Spares options.push_keeps inside
    → items_of entries ≡ with_segment front inside rest
    → parse_any options bytes ≡ at_offset entries
    (moved_fault (length front) (length inside + 2) (meaning_as options (front ++ rest)))

-- items that aren't kept change nothing: the answer is that of the kept ones
abbrev pub KeptItemsMean : ParseOptions → List ℕ → Type 0
KeptItemsMean options bytes = (entries : List Entry) → Itemises item_of bytes entries
    → parse_any options bytes ≡ at_offset (kept_entries entries)
    (meaning_as options (items_of (kept_entries entries)))

-- the rebuilt bytes, where there are some, mean what the kept items do, a fault at the same item,
-- whose offset is its own in each
abbrev pub RebuiltBytesMean : ParseOptions → List ℕ → Type 0
RebuiltBytesMean options bytes = (entries : List Entry) → Itemises item_of bytes entries
    → rebuilt_bytes entries ≢ []
    → parse_any options (rebuilt_bytes entries) ≡ at_offset
    (canonical_entries 0 (items_of (kept_entries entries)))
    (meaning_as options (items_of (kept_entries entries)))

-- both readings of Push give the same where there is none
abbrev pub AgreeWithoutPush : List ℕ → Type 0
AgreeWithoutPush bytes = (entries : List Entry) → itemise item_of bytes ≡ Ok entries
    → HasNoPush (items_of entries) → parse_globals_only bytes ≡ parse bytes
