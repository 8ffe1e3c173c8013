-- Bytes as Linux's hid-core reads items from them (Section 6.2.2.2), where they can't be read so.
use Rattle.std.specs.Prelude.{ℕ, ◌+◌, zero, suc, nat_lt, Bool, true, false}
use Rattle.std.specs.Prelude.{◌&&◌, ◌||◌, not}
use Rattle.std.specs.Prelude.{if◌then◌else◌, List, [], ◌∷◌, length, take}
use Rattle.std.specs.Prelude.{Option, None, Some, Result, Ok, Err, option_map}
use Rattle.hidreport_items.specs.Answer.{GrammarFault, Insufficient}
use Rattle.hidreport_items.specs.Spelling.{following_length, item_of, prefix}
use Rattle.hidreport_items.specs.declared.item.ItemType.{ItemType}
use Rattle.hidreport_items.specs.declared.item.ItemType.TheVariants as item
use Rattle.hidreport_lists.specs.Entry.{Spelled}
use Rattle.hidreport_lists.specs.declared.mending.Reason.{Reason}
use Rattle.hidreport_lists.specs.declared.mending.Reason.TheVariants as reason
use Rattle.hidreport_lists.specs.declared.mending.Standing.{Standing}
use Rattle.hidreport_lists.specs.declared.mending.Standing.TheVariants as standings

-- what stood at an offset; the item that stands there now, if any; and why it is another
pub record PieceRecord : Type 0 where
  pub offset : ℕ
  pub stood : List ℕ
  pub stands : Option Spelled
  pub reason : Option Reason

-- the item that stands where these bytes stood
abbrev pub standing_in : List ℕ → Standing → Option Spelled
standing_in stood (standings.AsItStood x) = Some (record { bytes = stood; item = x })
standing_in stood (standings.Written bytes x) = Some (record { bytes = bytes; item = x })
standing_in stood standings.LeftOut = None

-- the bytes that stand there now
abbrev pub standing_bytes : Option Spelled → List ℕ
standing_bytes (Some s) = s.bytes
standing_bytes None = []

-- bytes that are left out
abbrev pub left_out : Reason → ℕ → List ℕ → PieceRecord
left_out why offset stood =
    record { offset = offset; stood = stood; stands = None; reason = Some why }

-- bytes in whose place an item stands, as it stood where nothing was mended
abbrev pub holding : Option Reason → ℕ → List ℕ → List ℕ → ItemType → PieceRecord
holding why offset stood bytes x = record {
  offset = offset;
  stood = stood;
  stands = Some (record { bytes = bytes; item = x });
  reason = why;
}

-- a header alone with the data 0, where that is an item: `74` is read as `75 00`; else it was that
-- of a main item whose tag is unknown, and is left out: `00`
abbrev pub zero_piece : ℕ → List ℕ → ℕ → Result ItemType GrammarFault → PieceRecord
zero_piece offset stood header (Ok x) =
    holding (Some reason.NoData) offset stood (header ∷ 0 ∷ []) x
zero_piece offset stood header (Err fault) = left_out reason.UnknownMainItem offset stood

-- What stands at a header with all that follows it: the item that is read. One that can't be read
-- needs data, of which it has none, and has the data 0; or it is left out.
abbrev pub piece_by : ℕ → ℕ → List ℕ → Result ItemType GrammarFault → PieceRecord
piece_by offset h bs (Ok x) = holding None offset (h ∷ bs) (h ∷ bs) x
piece_by offset h bs (Err fault) =
    zero_piece offset (h ∷ bs) (prefix h + 1) (item_of (prefix h + 1) (0 ∷ []))

-- the piece of a whole item, or what hosts make of it
abbrev pub whole_piece : ℕ → List ℕ → PieceRecord
whole_piece offset [] = left_out reason.UnknownMainItem offset []
whole_piece offset (h ∷ bs) = piece_by offset h bs (item_of h bs)

-- an item that is cut short, which is left out with all behind it where that is asked for
abbrev pub cut_short : Bool → ℕ → List ℕ → Result PieceRecord GrammarFault
cut_short true offset bytes = Ok (left_out reason.CutShort offset bytes)
cut_short false offset bytes = Err Insufficient

-- the first piece of the bytes, at the offset
abbrev pub front_piece : Bool → ℕ → List ℕ → Result PieceRecord GrammarFault
front_piece leave_out offset [] = Err Insufficient
front_piece leave_out offset (h ∷ bs) =
    if nat_lt (length bs) (following_length h bs) then cut_short leave_out offset (h ∷ bs)
    else Ok (whole_piece offset (h ∷ take (following_length h bs) bs))

-- a piece before others, unless it or they can't be read
abbrev pub with_piece : ℕ → Result PieceRecord GrammarFault
    → Result (List PieceRecord) (ℕ × GrammarFault) → Result (List PieceRecord) (ℕ × GrammarFault)
with_piece offset (Err fault) rest = Err (offset, fault)
with_piece offset (Ok p) (Err fault) = Err fault
with_piece offset (Ok p) (Ok ps) = Ok (p ∷ ps)

-- The pieces of the bytes, of which the first stands at the offset; a count of them still belongs
-- to the piece before.
abbrev pub pieces_from : Bool → ℕ → ℕ → List ℕ → Result (List PieceRecord) (ℕ × GrammarFault)
pieces_from leave_out offset inside [] = Ok []
pieces_from leave_out offset zero (h ∷ bs) =
    with_piece offset (front_piece leave_out offset (h ∷ bs))
    (pieces_from leave_out (offset + 1) (following_length h bs) bs)
pieces_from leave_out offset (suc inside) (b ∷ bs) =
    pieces_from leave_out (offset + 1) inside bs

-- the piece was that of a main item whose tag is unknown
abbrev pub is_unknown : Option Reason → Bool
is_unknown (Some reason.UnknownMainItem) = true
is_unknown _ = false

-- a main item stands there
abbrev pub has_main : Option ItemType → Bool
has_main (Some (item.Main x)) = true
has_main _ = false

-- a local item stands there
abbrev pub has_local : Option ItemType → Bool
has_local (Some (item.Local x)) = true
has_local _ = false

-- the item that stands there, if any
abbrev pub item_in : PieceRecord → Option ItemType
item_in p = option_map (λ s. s.item) p.stands

-- the next main item of these pieces is one whose tag is unknown: so of `09 30 00 81 02`, and not of
-- `09 30 81 02 00`
abbrev pub ends_unknown : List PieceRecord → Bool
ends_unknown [] = false
ends_unknown (p ∷ ps) =
    is_unknown p.reason || (not (has_main (item_in p)) && ends_unknown ps)

-- a local item is left out with the main item that it would be of
abbrev pub ended : Bool → PieceRecord → PieceRecord
ended unknown p =
    if unknown && has_local (item_in p) then left_out reason.EndedLocal p.offset p.stood else p

-- the pieces without local items that end with a main item which is left out
abbrev pub without_ended : List PieceRecord → List PieceRecord
without_ended [] = []
without_ended (p ∷ ps) = ended (ends_unknown ps) p ∷ without_ended ps

-- the same without local items of main items that are left out
abbrev pub then_ended : Result (List PieceRecord) (ℕ × GrammarFault)
    → Result (List PieceRecord) (ℕ × GrammarFault)
then_ended (Ok ps) = Ok (without_ended ps)
then_ended (Err fault) = Err fault

-- what hid-core reads of the bytes, or the first item that it can't read either
abbrev pub pieces : Bool → List ℕ → Result (List PieceRecord) (ℕ × GrammarFault)
pieces leave_out bytes = then_ended (pieces_from leave_out 0 0 bytes)
