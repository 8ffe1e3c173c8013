-- Descriptors that hosts take, by what they look at before they read fields (hid-core of Linux 6.12;
-- Sections 6.2.2.4, 6.2.2.6 and 6.2.2.7).
use Rattle.std.specs.Prelude.{◌≡◌, ◌≤◌, ℕ, ◌+◌, ◌-◌, Bool, true, not, ◌&&◌, ◌||◌, nat_le, nat_lt}
use Rattle.std.specs.Prelude.{if◌then◌else◌, List, [], ◌∷◌, length, filter_map, Option, None, Some}
use Rattle.std.specs.Prelude.{Result, Ok, Err, ◌⊎◌}
use Rattle.hidreport_items.specs.declared.item.ItemType.{ItemType}
use Rattle.hidreport_lists.specs.Answer.{Refusal, BudgetExceeded}
use Rattle.hidreport_lists.specs.Mending.{PieceRecord, item_in, pieces}
use Rattle.hidreport_lists.specs.declared.error.ParserError.{ParserError}
use Rattle.hidreport_lists.specs.declared.error.ParserError.TheVariants as errors
use Rattle.hidreport.specs.Kinds.{is_collection, is_end_collection, is_pop, is_push}
use Rattle.hidreport.specs.Kinds.{report_count_of, report_size_of}
use Rattle.hidreport.specs.Options.{parse_as}
use Rattle.hidreport.specs.Repair.{RepairedRecord}
use Rattle.hidreport.specs.declared.parse_options.ParseOptions.{ParseOptions}
use Rattle.hidreport.specs.declared.parser.usages_by.UsagesBy.TheVariants as usages_by
use Rattle.hidreport.specs.declared.repairing.repair_options.RepairOptions.{RepairOptions}

-- a number that is set is at most this
abbrev pub is_within : ℕ → Option ℕ → Bool
is_within most None = true
is_within most (Some n) = nat_le n most

-- an element has at most 256 bits, and a data item at most 12,288 elements
abbrev pub is_moderate : ItemType → Bool
is_moderate x = is_within 256 (report_size_of x) && is_within 12288 (report_count_of x)

-- a Pop has a Push before it, and an End Collection a collection
abbrev pub has_front : ℕ → ℕ → ItemType → Bool
has_front pushes opened x =
    (not (is_pop x) || nat_lt 0 pushes) && (not (is_end_collection x) || nat_lt 0 opened)

-- how many Pushes wait for their Pops behind an item
abbrev pub pushes_behind : ℕ → ItemType → ℕ
pushes_behind pushes x =
    if is_pop x then pushes - 1 else (if is_push x then pushes + 1 else pushes)

-- how many collections are open behind it
abbrev pub opened_behind : ℕ → ItemType → ℕ
opened_behind opened x =
    if is_end_collection x then opened - 1 else (if is_collection x then opened + 1 else opened)

-- items behind so many open Pushes and collections
abbrev pub are_taken : ℕ → ℕ → List ItemType → Bool
are_taken pushes opened [] = true
are_taken pushes opened (x ∷ xs) = (has_front pushes opened x && is_moderate x)
    && are_taken (pushes_behind pushes x) (opened_behind opened x) xs

-- The bytes of a descriptor that hosts take, at most 65,536, whose usages are to be found as hosts
-- find them: each Pop has a Push, each End Collection a collection, an element has at most 256 bits,
-- and a data item at most 12,288 elements.
pub record IsTakenByHosts (options : RepairOptions) (bytes : List ℕ) : Type 0 where
  pub hosts : options.parse.usages ≡ usages_by.Hosts
  pub short : length bytes ≤ 65536
  pub read : List PieceRecord
  pub reads : pieces options.leave_out_cut_short bytes ≡ Ok read
  pub taken : are_taken 0 0 (filter_map item_in read) ≡ true

-- a limit refuses, and nothing else
abbrev pub IsPast : Refusal → Type 0
IsPast (BudgetExceeded offset) = Unit {0}
IsPast _ = ⊥

-- it is read, unless a limit refuses it
abbrev pub IsReadUnlessPast : {A : Type 0} → Result A Refusal → Type 0
IsReadUnlessPast (Ok x) = Unit {0}
IsReadUnlessPast (Err refusal) = IsPast refusal

-- so is a descriptor; of no bytes there is nothing to read
abbrev pub IsReadIfAny : ParseOptions → List ℕ → Type 0
IsReadIfAny options bytes = (bytes ≡ []) ⊎ IsReadUnlessPast (parse_as options bytes)

-- the error of a limit, or want of memory
abbrev pub IsOfLimits : ParserError → Type 0
IsOfLimits (errors.BudgetExceeded offset) = Unit {0}
IsOfLimits errors.OutOfMemory = Unit {0}
IsOfLimits _ = ⊥

-- nothing is left of it
abbrev pub LeavesNothing : Result RepairedRecord Refusal → Type 0
LeavesNothing (Ok r) = r.bytes ≡ []
LeavesNothing (Err refusal) = ⊥
