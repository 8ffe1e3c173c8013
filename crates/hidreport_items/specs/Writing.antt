-- The bytes that are written for an item (Sections 6.2.2.2 to 6.2.2.8): its header, and the
-- shortest data that holds its number.
use Rattle.std.specs.Prelude.{ℕ, ◌+◌, ◌-◌, ◌*◌, ◌/◌, ◌%◌, ◌^◌, ◌==◌, nat_lt, Bool, false}
use Rattle.std.specs.Prelude.{if◌then◌else◌, ℤ, pos, negsuc, List, [], ◌∷◌, length}
use Rattle.hidreport_items.specs.Flags.{Flags}
use Rattle.hidreport_items.specs.Spelling.{kind_number}
use Rattle.hidreport_items.specs.declared.main_item.MainItem.{MainItem}
use Rattle.hidreport_items.specs.declared.main_item.MainItem.TheVariants as main
use Rattle.hidreport_items.specs.declared.global.GlobalItem.{GlobalItem}
use Rattle.hidreport_items.specs.declared.global.GlobalItem.TheVariants as global
use Rattle.hidreport_items.specs.declared.local.LocalItem.{LocalItem}
use Rattle.hidreport_items.specs.declared.local.LocalItem.TheVariants as local
use Rattle.hidreport_items.specs.declared.item.ItemType.{ItemType}
use Rattle.hidreport_items.specs.declared.item.ItemType.TheVariants as item

-- the size code of so many data bytes
abbrev pub size_code : ℕ → ℕ
size_code n = if n == 4 then 3 else n

-- a header without its size code, and the data that gives it one
abbrev pub with_header : ℕ → List ℕ → List ℕ
with_header prefix bs = (prefix + size_code (length bs)) ∷ bs

-- a number in two or four bytes, the lowest first
abbrev pub two_bytes : ℕ → List ℕ
two_bytes n = n % 256 ∷ n / 256 % 256 ∷ []

-- a number in four bytes, the lowest first
abbrev pub four_bytes : ℕ → List ℕ
four_bytes n = n % 256 ∷ n / 256 % 256 ∷ n / 65536 % 256 ∷ n / 16777216 % 256 ∷ []

-- an unsigned number in 1, 2 or 4 bytes
abbrev pub unsigned_data : ℕ → List ℕ
unsigned_data n =
    if nat_lt n 256 then n ∷ []
    else (if nat_lt n 65536 then two_bytes n else four_bytes n)

-- a signed number in 1, 2 or 4 bytes, as two's complement
abbrev pub signed_data : ℤ → List ℕ
signed_data (pos n) =
    if nat_lt n 128 then n ∷ []
    else (if nat_lt n 32768 then two_bytes n else four_bytes n)
signed_data (negsuc n) =
    if nat_lt n 128 then (255 - n) ∷ []
    else (if nat_lt n 32768 then two_bytes (65535 - n) else four_bytes (4294967295 - n))

-- a report's size or count: past 32 bits the low 32 bits
abbrev pub count_data : ℕ → List ℕ
count_data n = if nat_lt n 4294967296 then unsigned_data n else four_bytes (n % 4294967296)

-- a flag as its bit
abbrev pub flag_bit : Bool → ℕ → ℕ
flag_bit flag i = if flag then 2 ^ i else 0

-- all flags as one number
abbrev pub flags_number : Flags → ℕ
flags_number f =
    flag_bit f.buffered_bytes 8 + (flag_bit f.volatile 7 + (flag_bit f.null_state 6
    + (flag_bit f.no_preferred_state 5 + (flag_bit f.nonlinear 4 + (flag_bit f.wrap 3
    + (flag_bit f.relative 2 + (flag_bit f.variable 1 + flag_bit f.constant 0)))))))

-- flag 8 needs a second byte
abbrev pub flags_data : Flags → List ℕ
flags_data f = if f.buffered_bytes then two_bytes (flags_number f) else flags_number f ∷ []

-- an Input never has flag 7
abbrev pub main_bytes : MainItem → List ℕ
main_bytes (main.Input f) = with_header 0x80 (flags_data (record f { volatile = false }))
main_bytes (main.Output f) = with_header 0x90 (flags_data f)
main_bytes (main.Feature f) = with_header 0xb0 (flags_data f)
main_bytes (main.Collection k) = with_header 0xa0 (kind_number k ∷ [])
main_bytes main.EndCollection = with_header 0xc0 []

-- the header of a global item without its size code
abbrev pub global_prefix : GlobalItem → ℕ
global_prefix (global.UsagePage n) = 0x04
global_prefix (global.LogicalMinimum z) = 0x14
global_prefix (global.LogicalMaximum z) = 0x24
global_prefix (global.PhysicalMinimum z) = 0x34
global_prefix (global.PhysicalMaximum z) = 0x44
global_prefix (global.UnitExponent z) = 0x54
global_prefix (global.Unit n) = 0x64
global_prefix (global.ReportSize n) = 0x74
global_prefix (global.ReportId n) = 0x84
global_prefix (global.ReportCount n) = 0x94
global_prefix global.Push = 0xa4
global_prefix global.Pop = 0xb4
global_prefix global.Reserved = 0xc4

-- the data of a global item
abbrev pub global_data : GlobalItem → List ℕ
global_data (global.UsagePage n) = unsigned_data n
global_data (global.LogicalMinimum z) = signed_data z
global_data (global.LogicalMaximum z) = signed_data z
global_data (global.PhysicalMinimum z) = signed_data z
global_data (global.PhysicalMaximum z) = signed_data z
global_data (global.UnitExponent z) = signed_data z
global_data (global.Unit n) = unsigned_data n
global_data (global.ReportSize n) = count_data n
global_data (global.ReportId n) = n ∷ []
global_data (global.ReportCount n) = count_data n
global_data global.Push = []
global_data global.Pop = []
global_data global.Reserved = []

-- its bytes: of the usage page 1 `05 01`
abbrev pub global_bytes : GlobalItem → List ℕ
global_bytes x = with_header (global_prefix x) (global_data x)

-- the header of a local item without its size code
abbrev pub local_prefix : LocalItem → ℕ
local_prefix (local.Usage page id) = 0x08
local_prefix (local.UsageId n) = 0x08
local_prefix (local.UsageMinimum n) = 0x18
local_prefix (local.UsageMaximum n) = 0x28
local_prefix (local.DesignatorIndex n) = 0x38
local_prefix (local.DesignatorMinimum n) = 0x48
local_prefix (local.DesignatorMaximum n) = 0x58
local_prefix (local.StringIndex n) = 0x78
local_prefix (local.StringMinimum n) = 0x88
local_prefix (local.StringMaximum n) = 0x98
local_prefix (local.Delimiter n) = 0xa8
local_prefix (local.Reserved value) = 0xf8

-- a usage with a page of its own always takes four bytes, since fewer would lose the page
abbrev pub local_data : LocalItem → List ℕ
local_data (local.Usage page id) = four_bytes (page * 65536 + id)
local_data (local.UsageId n) = unsigned_data n
local_data (local.UsageMinimum n) = unsigned_data n
local_data (local.UsageMaximum n) = unsigned_data n
local_data (local.DesignatorIndex n) = unsigned_data n
local_data (local.DesignatorMinimum n) = unsigned_data n
local_data (local.DesignatorMaximum n) = unsigned_data n
local_data (local.StringIndex n) = unsigned_data n
local_data (local.StringMinimum n) = unsigned_data n
local_data (local.StringMaximum n) = unsigned_data n
local_data (local.Delimiter n) = unsigned_data n
local_data (local.Reserved value) = value ∷ []

-- the bytes of a local item: of usage 2 `09 02`
abbrev pub local_bytes : LocalItem → List ℕ
local_bytes x = with_header (local_prefix x) (local_data x)

-- nothing is written for a long item and for one of the reserved type
abbrev pub item_bytes : ItemType → List ℕ
item_bytes (item.Main x) = main_bytes x
item_bytes (item.Global x) = global_bytes x
item_bytes (item.Local x) = local_bytes x
item_bytes item.Long = []
item_bytes item.Reserved = []
