-- What stands in each piece is spelled by its bytes.
use Rattle.std.proofs.Common.{◌≡◌, ℕ, zero, suc, ◌+◌, ◌%◌, ◌<◌, ◌≤◌, Bool, true, false, cond, ◌&&◌}
use Rattle.std.proofs.Common.{List, [], ◌∷◌, ◌++◌, length, take, filter_map, nat_lt, Option}
use Rattle.std.proofs.Common.{None, Some, Result, Ok, Err, refl, sym, ap, ◌∙◌, subst, arith, option_map}
use Rattle.std.proofs.Common.{◌≢◌, length-take}
use Rattle.std.specs.Prelude.{◌==◌}
use Rattle.std.specs.List.{cons_option}
use Rattle.std.proofs.lemmas.Bool.{ne_eqb}
use Rattle.std.proofs.lemmas.List.Elements.{All-cons, All-drop, All-nil, All-take}
use Rattle.hidreport_items.specs.Answer.{GrammarFault, Insufficient}
use Rattle.hidreport_items.specs.Spelling.{AreBytes, following_length, item_of, prefix}
use Rattle.hidreport_items.specs.declared.item.ItemType.{ItemType}
use Rattle.hidreport_items.proofs.FollowingLemmas.{following-cut, short-follow}
use Rattle.hidreport_lists.specs.Entry.{Entry, Spelled}
use Rattle.hidreport_lists.specs.Itemising.{AreAtOffsets, AreRead, Reads, all_bytes}
use Rattle.hidreport_lists.specs.Mending.{PieceRecord, cut_short, ends_unknown, front_piece}
use Rattle.hidreport_lists.specs.Mending.{has_local, item_in, left_out, piece_by, pieces, pieces_from}
use Rattle.hidreport_lists.specs.Mending.{standing_bytes, whole_piece, with_piece, without_ended}
use Rattle.hidreport_lists.specs.Mending.{zero_piece}
use Rattle.hidreport_lists.specs.Mending.{then_ended}
use Rattle.hidreport_lists.specs.Rebuilt.{items_of}
use Rattle.hidreport_lists.specs.declared.mending.Reason.TheVariants as reason
use Rattle.hidreport_lists.proofs.ItemLemmas.{enough}
use Rattle.hidreport.specs.Repair.{joined}
use Rattle.hidreport_fields.specs.Tiling.{Each}

-- the bytes spell the item, if any stands there
abbrev pub IsSpelled : Option Spelled → Type 0
IsSpelled None = Unit {0}
IsSpelled (Some s) = Reads item_of s.bytes s.item

abbrev pub Stands : PieceRecord → Type 0
Stands p = IsSpelled p.stands

-- the pieces of bytes

stands-zero : (offset h : ℕ) (stood : List ℕ) (r : Result ItemType GrammarFault) → h < 256
    → item_of (prefix h + 1) (0 ∷ []) ≡ r → Stands (zero_piece offset stood (prefix h + 1) r)
stands-zero offset h stood (Ok x) small is =
    let byte : prefix h + 1 < 256 = omega (arith, small) in
    let size : (prefix h + 1) % 4 ≡ 1 = omega arith in
    let short : (prefix h + 1) ≢ 0xfe = λ e. absurd (omega (arith, size, e)) in (
      All-cons (λ b. b < 256) (prefix h + 1) (0 ∷ []) byte
          (All-cons (λ b. b < 256) 0 [] (omega arith) (All-nil (λ b. b < 256))),
      sym (short-follow (prefix h + 1) (0 ∷ []) (ne_eqb (prefix h + 1) 0xfe short)
          ∙ ap (λ n. cond (n == 3) 4 n) size),
      is,
    )
stands-zero offset h stood (Err fault) small is = tt

stands-by : (offset h : ℕ) (bs : List ℕ) (r : Result ItemType GrammarFault) → AreBytes (h ∷ bs)
    → length bs ≡ following_length h bs → item_of h bs ≡ r → Stands (piece_by offset h bs r)
stands-by offset h bs (Ok x) are size is = (are, size, is)
stands-by offset h bs (Err fault) are size is =
    stands-zero offset h (h ∷ bs) (item_of (prefix h + 1) (0 ∷ []))
    (are 0 0 (omega arith)) refl

stands-front : (b leave_out : Bool) (offset h : ℕ) (bs : List ℕ) (p : PieceRecord)
    → AreBytes (h ∷ bs) → nat_lt (length bs) (following_length h bs) ≡ b
    → front_piece leave_out offset (h ∷ bs) ≡ Ok p → Stands p
stands-front false leave_out offset h bs p are long e =
    let n = following_length h bs in
    let room : n ≤ length bs = enough (length bs) n long in
    let found : front_piece leave_out offset (h ∷ bs) ≡ Ok (whole_piece offset (h ∷ take n bs)) =
    ap (λ b. cond b (cut_short leave_out offset (h ∷ bs))
    (Ok (whole_piece offset (h ∷ take n bs)))) long in
    let is : whole_piece offset (h ∷ take n bs) ≡ p = cc in
    let size : length (take n bs) ≡ n = simp length-take (omega (arith, room)) in
    let le : following_length h bs ≤ n = omega arith in
    subst Stands is (stands-by offset h (take n bs) (item_of h (take n bs))
    (All-take (λ b. b < 256) (suc n) (h ∷ bs) are)
    (size ∙ sym (following-cut h n bs le)) refl)
stands-front true true offset h bs p are short e =
    let n = following_length h bs in
    let found : front_piece true offset (h ∷ bs)
    ≡ Ok (left_out reason.CutShort offset (h ∷ bs)) =
    ap (λ b. cond b (cut_short true offset (h ∷ bs))
    (Ok (whole_piece offset (h ∷ take n bs)))) short in
    let is : left_out reason.CutShort offset (h ∷ bs) ≡ p = cc in
    subst Stands is tt
stands-front true false offset h bs p are short e =
    let found : front_piece false offset (h ∷ bs) ≡ Err Insufficient =
    ap (λ b. cond b (cut_short false offset (h ∷ bs))
    (Ok (whole_piece offset (h ∷ take (following_length h bs) bs)))) short in cc

stands-from : (leave_out : Bool) (offset inside : ℕ) (bs : List ℕ) (ps : List PieceRecord)
    → AreBytes bs → pieces_from leave_out offset inside bs ≡ Ok ps → Each Stands ps
stands-from leave_out offset inside [] ps are e =
    let none : [] ≡ ps = cc in subst (Each Stands) none tt
stands-from leave_out offset zero (h ∷ bs) ps are e =
    by-piece (front_piece leave_out offset (h ∷ bs))
    (pieces_from leave_out (offset + 1) (following_length h bs) bs) refl e
    (λ qs f. stands-from leave_out (offset + 1) (following_length h bs) bs qs
    (All-drop (λ b. b < 256) 1 (h ∷ bs) are) f)
  where
    by-piece : (r : Result PieceRecord GrammarFault)
        (rest : Result (List PieceRecord) (ℕ × GrammarFault))
        → front_piece leave_out offset (h ∷ bs) ≡ r → with_piece offset r rest ≡ Ok ps
        → ((qs : List PieceRecord) → rest ≡ Ok qs → Each Stands qs) → Each Stands ps
    by-piece (Err fault) rest is whole later = cc
    by-piece (Ok p) (Err fault) is whole later = cc
    by-piece (Ok p) (Ok qs) is whole later =
        let all : p ∷ qs ≡ ps = cc in
        subst (Each Stands) all (
          stands-front (nat_lt (length bs) (following_length h bs)) leave_out offset h bs p are refl
              is,
          later qs refl,
        )
stands-from leave_out offset (suc inside) (b ∷ bs) ps are e =
    stands-from leave_out (offset + 1) inside bs ps (All-drop (λ c. c < 256) 1 (b ∷ bs) are) e

stands-ended : (ps : List PieceRecord) → Each Stands ps → Each Stands (without_ended ps)
stands-ended [] each = tt
stands-ended (p ∷ ps) each =
    (by (ends_unknown ps && has_local (item_in p)), stands-ended ps each.1)
  where
    by : (b : Bool) → Stands (cond b (left_out reason.EndedLocal p.offset p.stood) p)
    by true = tt
    by false = each.0

pub pieces-stand : (leave_out : Bool) (bytes : List ℕ) (ps : List PieceRecord) → AreBytes bytes
    → pieces leave_out bytes ≡ Ok ps → Each Stands ps
pieces-stand leave_out bytes ps are e = by (pieces_from leave_out 0 0 bytes) refl e
  where
    by : (r : Result (List PieceRecord) (ℕ × GrammarFault)) → pieces_from leave_out 0 0 bytes ≡ r
        → then_ended r ≡ Ok ps → Each Stands ps
    by (Ok qs) cut whole =
        let is : without_ended qs ≡ ps = cc in
        subst (Each Stands) is (stands-ended qs (stands-from leave_out 0 0 bytes qs are cut))
    by (Err fault) cut whole = cc

-- the items that stand, each in its bytes

abbrev entry_of : ℕ → Option Spelled → List Entry
entry_of offset None = []
entry_of offset (Some s) = record { offset = offset; bytes = s.bytes; item = s.item } ∷ []

abbrev pub entries_in : ℕ → List PieceRecord → List Entry
entries_in offset [] = []
entries_in offset (p ∷ ps) =
    entry_of offset p.stands ++ entries_in (offset + length (standing_bytes p.stands)) ps

-- the bytes are these items, and these are the items of the pieces
pub record Written (offset : ℕ) (entries : List Entry) (bytes : List ℕ) (items : List ItemType)
    : Type 0 where
  pub whole : all_bytes entries ≡ bytes
  pub each : AreRead item_of entries
  pub offsets : AreAtOffsets offset entries
  pub items_are : items_of entries ≡ items

written-more : (offset : ℕ) (o : Option Spelled) (entries : List Entry) (bytes : List ℕ)
    (items : List ItemType) → IsSpelled o
    → Written (offset + length (standing_bytes o)) entries bytes items
    → Written offset (entry_of offset o ++ entries) (standing_bytes o ++ bytes)
    (cons_option (option_map (λ (s : Spelled). s.item) o) items)
written-more offset None entries bytes items spelled rest =
    let same : offset + 0 ≡ offset = omega arith in
    record {
      whole = rest.whole;
      each = rest.each;
      offsets = subst (λ n. AreAtOffsets n entries) same rest.offsets;
      items_are = rest.items_are;
    }
written-more offset (Some s) entries bytes items spelled rest = record {
  whole = ap (λ l. s.bytes ++ l) rest.whole;
  each = (spelled, rest.each);
  offsets = (refl, rest.offsets);
  items_are = ap (λ l. s.item ∷ l) rest.items_are;
}

-- pieces whose bytes spell their items, joined
pub written-pieces : (offset : ℕ) (ps : List PieceRecord) → Each Stands ps
    → Written offset (entries_in offset ps) (joined ps) (filter_map item_in ps)
written-pieces offset [] each = record { whole = refl; each = tt; offsets = tt; items_are = refl }
written-pieces offset (p ∷ ps) each =
    written-more offset p.stands (entries_in (offset + length (standing_bytes p.stands)) ps)
    (joined ps) (filter_map item_in ps) each.0
    (written-pieces (offset + length (standing_bytes p.stands)) ps each.1)
