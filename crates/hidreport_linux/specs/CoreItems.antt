-- Items as Linux's hid-core takes them apart (Section 6.2.2.2).
use Rattle.std.specs.Prelude.{ℕ, Bool, true, false, ◌==◌, ◌||◌, not, ◌%◌, nat_le, if◌then◌else◌, List, length}
use Rattle.hidreport_fields.specs.declared.field.data_item.Direction.TheVariants as direction
use Rattle.hidreport_items.specs.Numbers.{signed, word}
use Rattle.hidreport_items.specs.Spelling.{prefix, type_of}
use Rattle.hidreport_linux.specs.declared.reading.core_item.CoreItem.{CoreItem}
use Rattle.hidreport_linux.specs.declared.reading.core_item.CoreItem.TheVariants as item

-- a tag that the standard leaves open: a main item of it ends local items, too
abbrev pub without_meaning : ℕ → CoreItem
without_meaning tag = if type_of tag == 0 then item.UnknownMain else item.Ignored

-- four bytes of a usage have its page in their upper half
abbrev pub has_page : List ℕ → Bool
has_page bytes = length bytes == 4

-- a local item
abbrev pub local_by : ℕ → List ℕ → CoreItem
local_by tag bytes =
    if tag == 0x08 then item.Usage (word bytes) (has_page bytes)
    else if tag == 0x18 then item.UsageMinimum (word bytes)
    else if tag == 0x28 then item.UsageMaximum (word bytes) (has_page bytes)
    else if tag == 0xa8 then item.Delimiter (not (word bytes == 0))
    else without_meaning tag

-- a global item, or a local one
abbrev pub global_by : ℕ → List ℕ → CoreItem
global_by tag bytes =
    if tag == 0x04 then item.UsagePage (word bytes)
    else if tag == 0x14 then item.LogicalMinimum (signed bytes)
    else if tag == 0x24 then item.LogicalMaximum (signed bytes) (word bytes)
    else if tag == 0x34 then item.PhysicalMinimum (signed bytes)
    else if tag == 0x44 then item.PhysicalMaximum (signed bytes) (word bytes)
    else if tag == 0x54 then item.UnitExponent (signed bytes)
    else if tag == 0x64 then item.Unit (word bytes)
    else if tag == 0x74 then item.ReportSize (word bytes)
    else if tag == 0x84 then item.ReportId (word bytes)
    else if tag == 0x94 then item.ReportCount (word bytes)
    else if tag == 0xa4 then item.Push
    else if tag == 0xb4 then item.Pop
    else if tag == 0xc4 || (tag == 0xd4 || tag == 0xe4) then item.UnknownGlobal
    else local_by tag bytes

-- the item with this header without its size
abbrev pub item_by : ℕ → List ℕ → CoreItem
item_by tag bytes =
    if tag == 0x80 then item.Data direction.Input (word bytes)
    else if tag == 0x90 then item.Data direction.Output (word bytes)
    else if tag == 0xa0 then item.Collection (word bytes % 256)
    else if tag == 0xb0 then item.Data direction.Feature (word bytes)
    else if tag == 0xc0 then item.EndCollection
    else global_by tag bytes

-- the item with this header and this data; a long one by its tag alone, of which nothing is looked
-- at
abbrev pub core_item : ℕ → List ℕ → CoreItem
core_item header bytes =
    if nat_le 0xf0 header then item.Long else item_by (prefix header) bytes

-- a local item
abbrev pub is_local : CoreItem → Bool
is_local (item.Usage number has_page) = true
is_local (item.UsageMinimum number) = true
is_local (item.UsageMaximum number has_page) = true
is_local (item.Delimiter opens) = true
is_local _ = false
