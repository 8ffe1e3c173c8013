-- The items that bytes spell (Sections 6.2.2.2 to 6.2.2.8): a header, and exactly the bytes that
-- have to follow it.
use Rattle.std.specs.Prelude.{◌≡◌, ℕ, ◌+◌, ◌-◌, ◌/◌, ◌%◌, ◌<◌, ◌==◌, nat_le, Bool, false}
use Rattle.std.specs.Prelude.{if◌then◌else◌, List, [], ◌∷◌, length, All, Result, Ok, Err}
use Rattle.hidreport_items.specs.Answer.{GrammarFault, Invalid, Insufficient}
use Rattle.hidreport_items.specs.Flags.{Flags, flags_of}
use Rattle.hidreport_items.specs.Messages.{size_message, tag_message}
use Rattle.hidreport_items.specs.Numbers.{word, signed, is_short_length}
use Rattle.hidreport_items.specs.declared.main_item.MainItem.{MainItem}
use Rattle.hidreport_items.specs.declared.main_item.MainItem.TheVariants as main
use Rattle.hidreport_items.specs.declared.main_item.CollectionItem.{CollectionItem}
use Rattle.hidreport_items.specs.declared.main_item.CollectionItem.TheVariants as kind
use Rattle.hidreport_items.specs.declared.global.GlobalItem.{GlobalItem}
use Rattle.hidreport_items.specs.declared.global.GlobalItem.TheVariants as global
use Rattle.hidreport_items.specs.declared.local.LocalItem.{LocalItem}
use Rattle.hidreport_items.specs.declared.local.LocalItem.TheVariants as local
use Rattle.hidreport_items.specs.declared.item.ItemType.{ItemType}
use Rattle.hidreport_items.specs.declared.item.ItemType.TheVariants as item

-- how many data bytes the header announces: size codes 0, 1, 2, 3 mean 0, 1, 2, 4
abbrev pub data_length : ℕ → ℕ
data_length h = if h % 4 == 3 then 4 else h % 4

-- the first data byte, or 0 where there is none
abbrev pub first_or_zero : List ℕ → ℕ
first_or_zero [] = 0
first_or_zero (b ∷ bs) = b

-- the header of a long item (Section 6.2.2.3)
abbrev pub is_long_header : ℕ → Bool
is_long_header h = h == 0xfe

-- how many bytes follow a header, by the bytes that stand behind it: of a short item its data; of a
-- long one the byte that has the length of its data, the tag, and so many data bytes
abbrev pub following_length : ℕ → List ℕ → ℕ
following_length h bs = if is_long_header h then 2 + first_or_zero bs else data_length h

-- bits 2 to 3 of the header: 0 main, 1 global, 2 local, 3 reserved
abbrev pub type_of : ℕ → ℕ
type_of h = h / 4 % 4

-- the header without its size code
abbrev pub prefix : ℕ → ℕ
prefix h = h - h % 4

-- what is read, as a value of a wider type
abbrev pub read_as : {A B : Type 0} → (A → B) → Result A GrammarFault → Result B GrammarFault
read_as f (Ok x) = Ok (f x)
read_as f (Err e) = Err e

-- an item whose data has 0, 1, 2 or 4 bytes
abbrev pub of_short_length : {A : Type 0} → List ℕ → Result A GrammarFault → Result A GrammarFault
of_short_length bs read =
    if is_short_length (length bs) then read else Err (Invalid (size_message (length bs)))

-- an item that needs a data byte
abbrev pub with_data : {A : Type 0} → List ℕ → Result A GrammarFault → Result A GrammarFault
with_data [] read = Err Insufficient
with_data (b ∷ bs) read = read

-- an Input's flags; it has no flag 7
abbrev pub input_item : List ℕ → Result Flags GrammarFault
input_item bs =
    with_data bs (of_short_length bs (Ok (record (flags_of (word bs)) { volatile = false })))

-- an Output's flags
abbrev pub output_item : List ℕ → Result Flags GrammarFault
output_item bs = with_data bs (of_short_length bs (Ok (flags_of (word bs))))

-- a Feature's flags
abbrev pub feature_item : List ℕ → Result Flags GrammarFault
feature_item bs = with_data bs (of_short_length bs (Ok (flags_of (word bs))))

-- the kind of collection with this number (Section 6.2.2.6)
abbrev pub collection_item : ℕ → CollectionItem
collection_item n =
    if n == 0 then kind.Physical
    else (if n == 1 then kind.Application
    else (if n == 2 then kind.Logical
    else (if n == 3 then kind.Report
    else (if n == 4 then kind.NamedArray
    else (if n == 5 then kind.UsageSwitch
    else (if n == 6 then kind.UsageModifier
    else (if nat_le n 127 then kind.Reserved n
    else kind.VendorDefined n)))))))

-- the number of a kind
abbrev pub kind_number : CollectionItem → ℕ
kind_number kind.Physical = 0
kind_number kind.Application = 1
kind_number kind.Logical = 2
kind_number kind.Report = 3
kind_number kind.NamedArray = 4
kind_number kind.UsageSwitch = 5
kind_number kind.UsageModifier = 6
kind_number (kind.Reserved n) = n
kind_number (kind.VendorDefined n) = n

-- a Collection by its first data byte
abbrev pub collection_of : List ℕ → Result CollectionItem GrammarFault
collection_of bs = Ok (collection_item (first_or_zero bs))

-- main items (Section 6.2.2.4)
abbrev pub main_item : ℕ → List ℕ → Result MainItem GrammarFault
main_item h bs =
    if prefix h == 0x80 then read_as main.Input (input_item bs)
    else (if prefix h == 0x90 then read_as main.Output (output_item bs)
    else (if prefix h == 0xa0 then read_as main.Collection (collection_of bs)
    else (if prefix h == 0xb0 then read_as main.Feature (feature_item bs)
    else (if prefix h == 0xc0 then Ok main.EndCollection
    else Err (Invalid (tag_message (prefix h)))))))

-- global items (Section 6.2.2.7); a report's size, id and count need a data byte
abbrev pub global_item : ℕ → List ℕ → Result GlobalItem GrammarFault
global_item h bs = of_short_length bs (
    if prefix h == 0x04 then Ok (global.UsagePage (word bs % 65536))
    else (if prefix h == 0x14 then Ok (global.LogicalMinimum (signed bs))
    else (if prefix h == 0x24 then Ok (global.LogicalMaximum (signed bs))
    else (if prefix h == 0x34 then Ok (global.PhysicalMinimum (signed bs))
    else (if prefix h == 0x44 then Ok (global.PhysicalMaximum (signed bs))
    else (if prefix h == 0x54 then Ok (global.UnitExponent (signed bs))
    else (if prefix h == 0x64 then Ok (global.Unit (word bs))
    else (if prefix h == 0x74 then with_data bs (Ok (global.ReportSize (word bs)))
    else (if prefix h == 0x84 then with_data bs (Ok (global.ReportId (word bs % 256)))
    else (if prefix h == 0x94 then with_data bs (Ok (global.ReportCount (word bs)))
    else (if prefix h == 0xa4 then Ok global.Push
    else (if prefix h == 0xb4 then Ok global.Pop
    else Ok global.Reserved))))))))))))

-- a usage of the page in force, or in four bytes one with its own page
abbrev pub usage_item : ℕ → ℕ → LocalItem
usage_item number length =
    if length == 4 then local.Usage (number / 65536) (number % 65536)
    else local.UsageId (number % 65536)

-- local items (Section 6.2.2.8); each needs a data byte
abbrev pub local_item : ℕ → List ℕ → Result LocalItem GrammarFault
local_item h bs = with_data bs (of_short_length bs (Ok (
    if prefix h == 0x08 then usage_item (word bs) (length bs)
    else (if prefix h == 0x18 then local.UsageMinimum (word bs)
    else (if prefix h == 0x28 then local.UsageMaximum (word bs)
    else (if prefix h == 0x38 then local.DesignatorIndex (word bs)
    else (if prefix h == 0x48 then local.DesignatorMinimum (word bs)
    else (if prefix h == 0x58 then local.DesignatorMaximum (word bs)
    else (if prefix h == 0x78 then local.StringIndex (word bs)
    else (if prefix h == 0x88 then local.StringMinimum (word bs)
    else (if prefix h == 0x98 then local.StringMaximum (word bs)
    else (if prefix h == 0xa8 then local.Delimiter (word bs)
    else local.Reserved (prefix h)))))))))))))

-- the item of a header and its data, or why they are none
abbrev pub item_of : ℕ → List ℕ → Result ItemType GrammarFault
item_of h bs =
    if type_of h == 0 then read_as item.Main (main_item h bs)
    else (if type_of h == 1 then read_as item.Global (global_item h bs)
    else (if type_of h == 2 then read_as item.Local (local_item h bs)
    else (if is_long_header h then Ok item.Long
    else Ok item.Reserved)))

-- what is read of a header and of all bytes behind it, as many as there are
abbrev pub read_with : {A : Type 0} → (ℕ → List ℕ → Result A GrammarFault) → List ℕ
    → Result A GrammarFault
read_with read [] = Err Insufficient
read_with read (h ∷ bs) = read h bs

-- each number is a byte
abbrev pub AreBytes : List ℕ → Type 0
AreBytes bs = All (λ b. b < 256) bs

-- the bytes are a header and just those that follow it, and denote the item
abbrev pub Spells : List ℕ → ItemType → Type 0
Spells [] x = ⊥
Spells (h ∷ bs) x = AreBytes (h ∷ bs) × (length bs ≡ following_length h bs) × (item_of h bs ≡ Ok x)
