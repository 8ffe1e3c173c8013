-- What is written for an item is read as a short one: its header announces just its data, and no
-- reader refuses it.
use Rattle.std.proofs.Common.{◌≡◌, ℕ, ◌%◌, List, [], ◌∷◌, length, Result, Ok, Err, refl, arith}
use Rattle.std.proofs.Common.{nat_lt, false}
use Rattle.std.proofs.lemmas.Bool.{cond_both}
use Rattle.hidreport_items.specs.Answer.{GrammarFault}
use Rattle.hidreport_items.specs.Flags.{Flags}
use Rattle.hidreport_items.specs.Spelling.{data_length, is_long_header, item_of}
use Rattle.hidreport_items.specs.Writing.{with_header, four_bytes, unsigned_data, signed_data}
use Rattle.hidreport_items.specs.Writing.{count_data, flags_data, item_bytes, main_bytes}
use Rattle.hidreport_items.specs.Writing.{global_bytes, local_bytes}
use Rattle.hidreport_items.specs.declared.main_item.MainItem.{MainItem}
use Rattle.hidreport_items.specs.declared.main_item.MainItem.TheVariants as main
use Rattle.hidreport_items.specs.declared.global.GlobalItem.{GlobalItem}
use Rattle.hidreport_items.specs.declared.global.GlobalItem.TheVariants as global
use Rattle.hidreport_items.specs.declared.local.LocalItem.{LocalItem}
use Rattle.hidreport_items.specs.declared.local.LocalItem.TheVariants as local
use Rattle.hidreport_items.specs.declared.item.ItemType.{ItemType}
use Rattle.hidreport_items.specs.declared.item.ItemType.TheVariants as item
use Rattle.hidreport_items.proofs.WordLemmas.{by-shape, length-unsigned, HasShape, shape-signed}
use Rattle.hidreport_items.proofs.FlagWordLemmas.{length-flags}
use Rattle.hidreport_items.proofs.CanonicalLemmas.{unvolatile}

-- something was read
abbrev pub IsRead : {A : Type 0} → Result A GrammarFault → Type 0
IsRead (Ok x) = Unit {0}
IsRead (Err e) = ⊥

-- a short item's header, just the data that it announces, and some item that they are read as
abbrev pub AreAnItem : List ℕ → Type 0
AreAnItem [] = ⊥
AreAnItem (h ∷ bs) = (length bs ≡ data_length h) × (is_long_header h ≡ false)
    × IsRead (item_of h bs)

by-header : (p : ℕ) (bs : List ℕ) → HasShape bs
    → ((a : ℕ) → AreAnItem (with_header p (a ∷ [])))
    → ((a b : ℕ) → AreAnItem (with_header p (a ∷ b ∷ [])))
    → ((a b c d : ℕ) → AreAnItem (with_header p (a ∷ b ∷ c ∷ d ∷ [])))
    → AreAnItem (with_header p bs)
by-header p bs shape one two four =
    by-shape (λ bs. AreAnItem (with_header p bs)) bs shape.0 shape.1 shape.2 one two four

flags-shape : (f : Flags) → HasShape (flags_data f)
flags-shape f = let l = length-flags f in (l.0, omega (arith, l.1), λ e. omega (arith, l.1))

four-shape : (n : ℕ) → HasShape (four_bytes n)
four-shape n = (omega arith, omega arith, λ e. omega arith)

count-shape : (n : ℕ) → HasShape (count_data n)
count-shape n = cond_both (nat_lt n 4294967296) (unsigned_data n) (four_bytes (n % 4294967296))
    HasShape (λ e. length-unsigned n) (λ e. four-shape (n % 4294967296))

main-read : (x : MainItem) → AreAnItem (main_bytes x)
main-read (main.Input f) = by-header 0x80 (flags_data (unvolatile f)) (flags-shape (unvolatile f))
    (λ a. (refl, refl, tt)) (λ a b. (refl, refl, tt)) (λ a b c d. (refl, refl, tt))
main-read (main.Output f) = by-header 0x90 (flags_data f) (flags-shape f) (λ a. (refl, refl, tt))
    (λ a b. (refl, refl, tt)) (λ a b c d. (refl, refl, tt))
main-read (main.Feature f) = by-header 0xb0 (flags_data f) (flags-shape f) (λ a. (refl, refl, tt))
    (λ a b. (refl, refl, tt)) (λ a b c d. (refl, refl, tt))
main-read (main.Collection k) = (refl, refl, tt)
main-read main.EndCollection = (refl, refl, tt)

global-read : (x : GlobalItem) → AreAnItem (global_bytes x)
global-read (global.UsagePage n) =
    by-header 0x04 (unsigned_data n) (length-unsigned n) (λ a. (refl, refl, tt))
    (λ a b. (refl, refl, tt)) (λ a b c d. (refl, refl, tt))
global-read (global.LogicalMinimum z) =
    by-header 0x14 (signed_data z) (shape-signed z) (λ a. (refl, refl, tt))
    (λ a b. (refl, refl, tt)) (λ a b c d. (refl, refl, tt))
global-read (global.LogicalMaximum z) =
    by-header 0x24 (signed_data z) (shape-signed z) (λ a. (refl, refl, tt))
    (λ a b. (refl, refl, tt)) (λ a b c d. (refl, refl, tt))
global-read (global.PhysicalMinimum z) =
    by-header 0x34 (signed_data z) (shape-signed z) (λ a. (refl, refl, tt))
    (λ a b. (refl, refl, tt)) (λ a b c d. (refl, refl, tt))
global-read (global.PhysicalMaximum z) =
    by-header 0x44 (signed_data z) (shape-signed z) (λ a. (refl, refl, tt))
    (λ a b. (refl, refl, tt)) (λ a b c d. (refl, refl, tt))
global-read (global.UnitExponent z) =
    by-header 0x54 (signed_data z) (shape-signed z) (λ a. (refl, refl, tt))
    (λ a b. (refl, refl, tt)) (λ a b c d. (refl, refl, tt))
global-read (global.Unit n) = by-header 0x64 (unsigned_data n) (length-unsigned n)
    (λ a. (refl, refl, tt)) (λ a b. (refl, refl, tt)) (λ a b c d. (refl, refl, tt))
global-read (global.ReportSize n) =
    by-header 0x74 (count_data n) (count-shape n) (λ a. (refl, refl, tt)) (λ a b. (refl, refl, tt))
    (λ a b c d. (refl, refl, tt))
global-read (global.ReportId n) = (refl, refl, tt)
global-read (global.ReportCount n) =
    by-header 0x94 (count_data n) (count-shape n) (λ a. (refl, refl, tt)) (λ a b. (refl, refl, tt))
    (λ a b c d. (refl, refl, tt))
global-read global.Push = (refl, refl, tt)
global-read global.Pop = (refl, refl, tt)
global-read global.Reserved = (refl, refl, tt)

local-read : (x : LocalItem) → AreAnItem (local_bytes x)
local-read (local.Usage page id) = (refl, refl, tt)
local-read (local.UsageId n) =
    by-header 0x08 (unsigned_data n) (length-unsigned n) (λ a. (refl, refl, tt))
    (λ a b. (refl, refl, tt)) (λ a b c d. (refl, refl, tt))
local-read (local.UsageMinimum n) =
    by-header 0x18 (unsigned_data n) (length-unsigned n) (λ a. (refl, refl, tt))
    (λ a b. (refl, refl, tt)) (λ a b c d. (refl, refl, tt))
local-read (local.UsageMaximum n) =
    by-header 0x28 (unsigned_data n) (length-unsigned n) (λ a. (refl, refl, tt))
    (λ a b. (refl, refl, tt)) (λ a b c d. (refl, refl, tt))
local-read (local.DesignatorIndex n) =
    by-header 0x38 (unsigned_data n) (length-unsigned n) (λ a. (refl, refl, tt))
    (λ a b. (refl, refl, tt)) (λ a b c d. (refl, refl, tt))
local-read (local.DesignatorMinimum n) =
    by-header 0x48 (unsigned_data n) (length-unsigned n) (λ a. (refl, refl, tt))
    (λ a b. (refl, refl, tt)) (λ a b c d. (refl, refl, tt))
local-read (local.DesignatorMaximum n) =
    by-header 0x58 (unsigned_data n) (length-unsigned n) (λ a. (refl, refl, tt))
    (λ a b. (refl, refl, tt)) (λ a b c d. (refl, refl, tt))
local-read (local.StringIndex n) =
    by-header 0x78 (unsigned_data n) (length-unsigned n) (λ a. (refl, refl, tt))
    (λ a b. (refl, refl, tt)) (λ a b c d. (refl, refl, tt))
local-read (local.StringMinimum n) =
    by-header 0x88 (unsigned_data n) (length-unsigned n) (λ a. (refl, refl, tt))
    (λ a b. (refl, refl, tt)) (λ a b c d. (refl, refl, tt))
local-read (local.StringMaximum n) =
    by-header 0x98 (unsigned_data n) (length-unsigned n) (λ a. (refl, refl, tt))
    (λ a b. (refl, refl, tt)) (λ a b c d. (refl, refl, tt))
local-read (local.Delimiter n) =
    by-header 0xa8 (unsigned_data n) (length-unsigned n) (λ a. (refl, refl, tt))
    (λ a b. (refl, refl, tt)) (λ a b c d. (refl, refl, tt))
local-read (local.Reserved value) = (refl, refl, tt)

-- bytes that are none, or an item's
abbrev pub NoneOrAnItem : List ℕ → Type 0
NoneOrAnItem [] = Unit {0}
NoneOrAnItem (h ∷ bs) = (length bs ≡ data_length h) × (is_long_header h ≡ false) × IsRead
    (item_of h bs)

some-or-none : (bytes : List ℕ) → AreAnItem bytes → NoneOrAnItem bytes
some-or-none [] are = tt
some-or-none (h ∷ bs) are = are

-- what is written for any item
pub written-read : (x : ItemType) → NoneOrAnItem (item_bytes x)
written-read (item.Main x) = some-or-none (main_bytes x) (main-read x)
written-read (item.Global x) = some-or-none (global_bytes x) (global-read x)
written-read (item.Local x) = some-or-none (local_bytes x) (local-read x)
written-read item.Long = tt
written-read item.Reserved = tt
