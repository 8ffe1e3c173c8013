-- Repair: a descriptor made one that is read, as Linux's hid-core reads it (Sections 6.2.2.2 to
-- 6.2.2.8). What it makes of bytes that are no items is in `Mending` of the crate of lists.
use Rattle.std.specs.Prelude.{ℕ, ℤ, pos, int_lt, ◌+◌, ◌-◌, ◌%◌, Bool, true, false, ◌&&◌, not}
use Rattle.std.specs.Prelude.{if◌then◌else◌, List, [], ◌∷◌, ◌++◌, length, flat_map, filter_map, map}
use Rattle.std.specs.Prelude.{option_map, option_to_list, Option, None, Some, Result, Ok, Err}
use Rattle.hidreport_items.specs.Answer.{GrammarFault}
use Rattle.hidreport_items.specs.Spelling.{item_of, prefix, read_with}
use Rattle.hidreport_items.specs.declared.global.GlobalItem.TheVariants as global
use Rattle.hidreport_items.specs.declared.item.ItemType.{ItemType}
use Rattle.hidreport_items.specs.declared.item.ItemType.TheVariants as item
use Rattle.hidreport_lists.specs.Answer.{Refusal}
use Rattle.hidreport_lists.specs.Itemising.{as_refusal}
use Rattle.hidreport_lists.specs.Mending.{PieceRecord, holding, item_in, pieces, standing_bytes}
use Rattle.hidreport_lists.specs.declared.mending.Reason.{Reason}
use Rattle.hidreport_lists.specs.declared.mending.Reason.TheVariants as reason
use Rattle.hidreport.specs.ItemState.{ItemState}
use Rattle.hidreport.specs.Meaning.{refusal_at}
use Rattle.hidreport.specs.MeaningFault.{MeaningFault, MissingUsages}
use Rattle.hidreport.specs.Options.{meaning_as, parse_as, past_longest, reading_of}
use Rattle.hidreport.specs.Options.{unless_too_long}
use Rattle.hidreport_fields.specs.Records.{DescriptorRecord}
use Rattle.hidreport.specs.declared.parse_options.ParseOptions.{ParseOptions}
use Rattle.hidreport.specs.declared.repairing.change.Change.{Change}
use Rattle.hidreport.specs.declared.repairing.change.Repaired.{Repaired}
use Rattle.hidreport.specs.declared.repairing.repair_options.RepairOptions.{RepairOptions}

-- the data of a data item with the flag Constant, the lowest bit of its first byte (Section 6.2.2.5)
abbrev pub set_constant : ℕ → ℕ
set_constant b = b - b % 2 + 1

-- the bytes of a data item with its Constant flag on: of `81 02` `81 03`
abbrev pub constant_bytes : List ℕ → List ℕ
constant_bytes (h ∷ b ∷ []) = h ∷ set_constant b ∷ []
constant_bytes (h ∷ b ∷ c ∷ []) = h ∷ set_constant b ∷ c ∷ []
constant_bytes (h ∷ b ∷ c ∷ d ∷ e ∷ []) = h ∷ set_constant b ∷ c ∷ d ∷ e ∷ []
constant_bytes _ = []

-- data of one or two bytes as the same number without a sign, in two or four bytes
abbrev pub wider_bytes : List ℕ → List ℕ
wider_bytes (h ∷ a ∷ []) = (prefix h + 2) ∷ a ∷ 0 ∷ []
wider_bytes (h ∷ a ∷ b ∷ []) = (prefix h + 3) ∷ a ∷ b ∷ 0 ∷ 0 ∷ []
wider_bytes _ = []

-- the piece with these bytes in it, where they are an item
abbrev pub rewritten_as : Reason → PieceRecord → List ℕ → Result ItemType GrammarFault → PieceRecord
rewritten_as why p bytes (Ok x) = holding (Some why) p.offset p.stood bytes x
rewritten_as why p bytes (Err fault) = p

-- the piece with other bytes, and why
abbrev pub rewritten : Reason → PieceRecord → List ℕ → PieceRecord
rewritten why p bytes = rewritten_as why p bytes (read_with item_of bytes)

-- the bound that is in force, if any, is negative
abbrev pub is_below_zero : Option ℤ → Bool
is_below_zero None = false
is_below_zero (Some n) = int_lt n (pos 0)

-- a negative maximum where no negative minimum is in force
abbrev pub is_meant_unsigned : ItemState → Option ItemType → Bool
is_meant_unsigned state (Some (item.Global (global.LogicalMaximum n))) =
    int_lt n (pos 0) && not (is_below_zero state.logical_minimum)
is_meant_unsigned state (Some (item.Global (global.PhysicalMaximum n))) =
    int_lt n (pos 0) && not (is_below_zero state.physical_minimum)
is_meant_unsigned state _ = false

-- where it is asked for, such a maximum is written without a sign
abbrev pub widened_in : Bool → ItemState → PieceRecord → PieceRecord
widened_in asked state p =
    if asked && is_meant_unsigned state (item_in p)
    then rewritten reason.UnsignedMaximum p (wider_bytes (standing_bytes p.stands))
    else p

-- the fault is that usages are missing
abbrev pub is_missing_usages : Option MeaningFault → Bool
is_missing_usages (Some MissingUsages) = true
is_missing_usages _ = false

-- a data item that lacks usages is padding
abbrev pub padded_by : Option MeaningFault → PieceRecord → PieceRecord
padded_by fault p =
    if is_missing_usages fault
    then rewritten reason.NoUsage p (constant_bytes (standing_bytes p.stands))
    else p

-- the items, and that of one more piece
abbrev pub behind : List ItemType → PieceRecord → List ItemType
behind before p = before ++ option_to_list (item_in p)

-- the fault of a reading, if it has one
abbrev pub named_fault : Result DescriptorRecord (ℕ × MeaningFault) → Option MeaningFault
named_fault (Ok announced) = None
named_fault (Err first) = Some first.1

-- the first fault of these items and of the piece behind them
abbrev pub fault_at : ParseOptions → List ItemType → PieceRecord → Option MeaningFault
fault_at options before p = named_fault (meaning_as options (behind before p))

-- the piece with a wider maximum, where one is asked for
abbrev pub widened : RepairOptions → List ItemType → PieceRecord → PieceRecord
widened options before p = widened_in options.unsigned_maxima
    (reading_of options.parse before (length before)) p

-- what is made of a piece behind these items
abbrev pub mended : RepairOptions → List ItemType → PieceRecord → PieceRecord
mended options before p = padded_by
    (fault_at options.parse before (widened options before p)) (widened options before p)

-- the answer, unless the piece at this offset has a fault
abbrev pub if_faultless : Option MeaningFault → ℕ → Result (List PieceRecord) Refusal
    → Result (List PieceRecord) Refusal
if_faultless None offset answer = answer
if_faultless (Some fault) offset answer = Err (refusal_at offset fault)

-- a mended piece before the others
abbrev pub with_mended : PieceRecord → Result (List PieceRecord) Refusal
    → Result (List PieceRecord) Refusal
with_mended p (Ok ps) = Ok (p ∷ ps)
with_mended p (Err refusal) = Err refusal

-- Each piece in turn is mended behind those before it, and has to mean something there: of
-- `05 01 75 08 95 01 81 02` the last, which lacks usages, becomes `81 03`; `c0` alone is a fault.
abbrev pub all_mended : RepairOptions → List ItemType → List PieceRecord
    → Result (List PieceRecord) Refusal
all_mended options before [] = Ok []
all_mended options before (p ∷ ps) =
    if_faultless (fault_at options.parse before (mended options before p)) p.offset
    (with_mended (mended options before p)
    (all_mended options (behind before (mended options before p)) ps))

-- the pieces mended, each behind those before it
abbrev pub then_mended : RepairOptions → Result (List PieceRecord) Refusal
    → Result (List PieceRecord) Refusal
then_mended options (Ok ps) = all_mended options [] ps
then_mended options (Err refusal) = Err refusal

-- what stands in place of the bytes, or the first fault that stays
abbrev pub repaired_pieces : RepairOptions → List ℕ → Result (List PieceRecord) Refusal
repaired_pieces options bytes =
    then_mended options (as_refusal (pieces options.leave_out_cut_short bytes))

-- a change: what stood at an offset, what stands there now, and why
pub record ChangeRecord : Type 0 where
  pub offset : ℕ
  pub stood : List ℕ
  pub stands : List ℕ
  pub reason : Reason

-- the change that a piece shows
abbrev pub change_of : Reason → PieceRecord → ChangeRecord
change_of why p = record {
  offset = p.offset;
  stood = p.stood;
  stands = standing_bytes p.stands;
  reason = why;
}

-- none where nothing was changed
abbrev pub change_in : PieceRecord → Option ChangeRecord
change_in p = option_map (λ why. change_of why p) p.reason

-- a repaired descriptor, and what was changed
pub record RepairedRecord : Type 0 where
  pub bytes : List ℕ
  pub changes : List ChangeRecord

-- the bytes that stand there now, joined
abbrev pub joined : List PieceRecord → List ℕ
joined ps = flat_map (λ p. standing_bytes p.stands) ps

-- both of these pieces
abbrev pub repaired_of : List PieceRecord → RepairedRecord
repaired_of ps = record { bytes = joined ps; changes = filter_map change_in ps }

-- the mended pieces, joined
abbrev pub then_joined : Result (List PieceRecord) Refusal → Result RepairedRecord Refusal
then_joined (Ok ps) = Ok (repaired_of ps)
then_joined (Err refusal) = Err refusal

-- the mended descriptor, of which nothing may be left, or the first fault that stays
abbrev pub mending : RepairOptions → List ℕ → Result RepairedRecord Refusal
mending options bytes = unless_too_long (past_longest options.parse.longest (length bytes))
    (then_joined (repaired_pieces options bytes))

-- it is the answer where its bytes are read
abbrev pub if_read : RepairedRecord → Result DescriptorRecord Refusal
    → Result RepairedRecord Refusal
if_read r (Ok announced) = Ok r
if_read r (Err refusal) = Err refusal

-- the pieces as a repaired descriptor, where their bytes are read
abbrev pub then_read : ParseOptions → Result (List PieceRecord) Refusal
    → Result RepairedRecord Refusal
then_read options (Ok ps) = if_read (repaired_of ps) (parse_as options (joined ps))
then_read options (Err refusal) = Err refusal

-- the repaired descriptor, or the first fault that stays
abbrev pub repaired : RepairOptions → List ℕ → Result RepairedRecord Refusal
repaired options bytes = unless_too_long (past_longest options.parse.longest (length bytes))
    (then_read options.parse (repaired_pieces options bytes))

-- the answer of the library as plain data
abbrev pub change_view : Change → ChangeRecord
change_view c = record {
  offset = c.offset;
  stood = c.stood.items;
  stands = c.stands.items;
  reason = c.reason;
}

-- the answer of `repair` as plain data
abbrev pub repaired_view : Repaired → RepairedRecord
repaired_view r = record { bytes = r.bytes.items; changes = map change_view r.changes.items }
