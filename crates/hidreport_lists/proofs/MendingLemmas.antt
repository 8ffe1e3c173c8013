-- One piece at a time: the pieces of the rest behind those that were cut off before.
use Rattle.std.proofs.Common.{◌≡◌, ◌≢◌, ℕ, zero, suc, ◌+◌, ◌<◌, ◌≤◌, Bool, true, false, cond, List}
use Rattle.std.proofs.Common.{[], ◌∷◌, ◌++◌, length, take, drop, Result, Ok, Err, refl, sym, ap, ◌∙◌}
use Rattle.std.proofs.Common.{arith, nat_lt, length-take, append_assoc}
use Rattle.std.proofs.Math.Seq.{drop-length}
use Rattle.std.proofs.lemmas.Grind.{common_steps}
use Rattle.hidreport_items.specs.Answer.{GrammarFault, Insufficient}
use Rattle.hidreport_items.specs.Spelling.{following_length, item_of, prefix}
use Rattle.hidreport_items.specs.declared.item.ItemType.{ItemType}
use Rattle.hidreport_lists.specs.Mending.{PieceRecord, cut_short, front_piece, left_out, piece_by}
use Rattle.hidreport_lists.specs.Mending.{pieces_from, whole_piece, with_piece, zero_piece}
use Rattle.hidreport_lists.specs.declared.mending.Reason.TheVariants as reason
use Rattle.hidreport_lists.proofs.ItemLemmas.{enough, not_short}

ok-is : (r : Result PieceRecord GrammarFault) (p q : PieceRecord) → r ≡ Ok p → r ≡ Ok q → q ≡ p
ok-is r p q e f = cc

-- the pieces before, and then those of the rest
abbrev pub with_pieces : List PieceRecord → Result (List PieceRecord) (ℕ × GrammarFault)
    → Result (List PieceRecord) (ℕ × GrammarFault)
with_pieces front (Ok ps) = Ok (front ++ ps)
with_pieces front (Err fault) = Err fault

pub with_pieces-more : (front : List PieceRecord) (p : PieceRecord)
    (r : Result (List PieceRecord) (ℕ × GrammarFault)) (offset : ℕ)
    → with_pieces (front ++ p ∷ []) r ≡ with_pieces front (with_piece offset (Ok p) r)
with_pieces-more front p (Ok ps) offset = ap Ok (append_assoc front (p ∷ []) ps)
with_pieces-more front p (Err fault) offset = refl

-- the bytes inside a piece are passed over
inside-piece : (leave_out : Bool) (offset inside : ℕ) (bs : List ℕ) → inside ≤ length bs
    → pieces_from leave_out offset inside bs
    ≡ pieces_from leave_out (offset + inside) 0 (drop inside bs)
inside-piece leave_out offset zero bs le =
    ap (λ n. pieces_from leave_out n 0 bs) (omega arith)
inside-piece leave_out offset (suc inside) [] le = absurd (omega arith)
inside-piece leave_out offset (suc inside) (b ∷ bs) le =
    let rest : inside ≤ length bs = omega arith in
    inside-piece leave_out (offset + 1) inside bs rest
    ∙ ap (λ n. pieces_from leave_out n 0 (drop inside bs)) (omega arith)

-- all bytes are inside the piece
pub all-inside : (leave_out : Bool) (offset inside : ℕ) (bs : List ℕ) → length bs ≤ inside
    → pieces_from leave_out offset inside bs ≡ Ok []
all-inside leave_out offset inside [] le = refl
all-inside leave_out offset zero (b ∷ bs) le = absurd (omega arith)
all-inside leave_out offset (suc inside) (b ∷ bs) le =
    let rest : length bs ≤ inside = omega arith in
    all-inside leave_out (offset + 1) inside bs rest

-- what is behind a piece of so many bytes
abbrev Behind : Bool → ℕ → ℕ → List ℕ → ℕ → Type 0
Behind leave_out offset h bs n =
    pieces_from leave_out (offset + 1) (following_length h bs) bs
    ≡ pieces_from leave_out (offset + n) 0 (drop n (h ∷ bs))

-- it has all that follows the header
whole-behind : (leave_out : Bool) (offset h : ℕ) (bs : List ℕ) (n : ℕ)
    → n ≡ suc (following_length h bs) → following_length h bs ≤ length bs
    → Behind leave_out offset h bs n
whole-behind leave_out offset h bs n is room =
    inside-piece leave_out (offset + 1) (following_length h bs) bs room
    ∙ ap (λ k. pieces_from leave_out k 0 (drop (following_length h bs) bs))
    (let e : offset + 1 + following_length h bs ≡ offset + n = omega (arith, is) in e)
    ∙ ap (λ k. pieces_from leave_out (offset + n) 0 (drop k (h ∷ bs))) (sym is)

-- it is cut short, so that nothing is behind it
none-behind : (leave_out : Bool) (offset h : ℕ) (bs : List ℕ) (n : ℕ)
    → n ≡ suc (length bs) → length bs < following_length h bs → Behind leave_out offset h bs n
none-behind leave_out offset h bs n is short =
    let inside : length bs ≤ following_length h bs = omega (arith, short) in
    let all : drop n (h ∷ bs) ≡ [] = ap (λ k. drop k (h ∷ bs)) is ∙ drop-length bs in
    all-inside leave_out (offset + 1) (following_length h bs) bs inside
    ∙ sym (ap (pieces_from leave_out (offset + n) 0) all)

-- a whole piece is what stood there
zero-stood : (offset : ℕ) (stood : List ℕ) (header : ℕ) (r : Result ItemType GrammarFault)
    → (zero_piece offset stood header r).stood ≡ stood
zero-stood offset stood header (Ok x) = refl
zero-stood offset stood header (Err fault) = refl

by-stood : (offset h : ℕ) (bs : List ℕ) (r : Result ItemType GrammarFault)
    → (piece_by offset h bs r).stood ≡ h ∷ bs
by-stood offset h bs (Ok x) = refl
by-stood offset h bs (Err fault) =
    zero-stood offset (h ∷ bs) (prefix h + 1) (item_of (prefix h + 1) (0 ∷ []))

-- with all that follows the header, the first piece is a whole one
pub whole-front : (leave_out : Bool) (offset : ℕ) (bytes : List ℕ) (h n : ℕ) (bs : List ℕ)
    → bytes ≡ h ∷ bs → n ≡ following_length h bs → n ≤ length bs
    → front_piece leave_out offset bytes ≡ Ok (whole_piece offset (take (1 + n) bytes))
whole-front leave_out offset bytes h n bs cut is room =
    let le : following_length h bs ≤ length bs = omega (arith, is, room) in
    let one : suc n ≡ 1 + n = omega arith in
    ap (front_piece leave_out offset) cut
    ∙ ap (λ b. cond b (cut_short leave_out offset (h ∷ bs))
    (Ok (whole_piece offset (h ∷ take (following_length h bs) bs))))
    (not_short (length bs) (following_length h bs) le)
    ∙ ap (λ k. Ok (whole_piece offset (h ∷ take k bs))) (sym is)
    ∙ ap (λ k. Ok (whole_piece offset (take k (h ∷ bs)))) one
    ∙ ap (λ l. Ok (whole_piece offset (take (1 + n) l))) (sym cut)

-- a piece has some bytes, and stands before those of the rest
abbrev pub IsFirst : Bool → ℕ → List ℕ → PieceRecord → Type 0
IsFirst leave_out offset bytes p = (0 < length p.stood) × (length p.stood ≤ length bytes)
    × (pieces_from leave_out offset 0 bytes ≡ with_piece offset (Ok p)
    (pieces_from leave_out (offset + length p.stood) 0 (drop (length p.stood) bytes)))

first-so : (leave_out : Bool) (offset h : ℕ) (bs : List ℕ) (p : PieceRecord) (n : ℕ)
    → front_piece leave_out offset (h ∷ bs) ≡ Ok p → n ≡ length p.stood → 0 < n
    → n ≤ suc (length bs) → Behind leave_out offset h bs n → IsFirst leave_out offset (h ∷ bs) p
first-so leave_out offset h bs p n e is some room behind = (
  omega (arith, is, some),
  omega (arith, is, room),
  ap (λ r. with_piece offset r (pieces_from leave_out (offset + 1) (following_length h bs) bs)) e
      ∙ ap (with_piece offset (Ok p)) (behind
      ∙ ap (λ k. pieces_from leave_out (offset + k) 0 (drop k (h ∷ bs))) is),
)

first-by : (b leave_out : Bool) (offset h : ℕ) (bs : List ℕ) (p : PieceRecord)
    → nat_lt (length bs) (following_length h bs) ≡ b
    → front_piece leave_out offset (h ∷ bs) ≡ Ok p → IsFirst leave_out offset (h ∷ bs) p
first-by true true offset h bs p short e =
    let less : length bs < following_length h bs = grind (arith, common_steps, short) in
    let is : p ≡ left_out reason.CutShort offset (h ∷ bs) =
    ok-is (front_piece true offset (h ∷ bs)) (left_out reason.CutShort offset (h ∷ bs)) p
    (ap (λ b. cond b (cut_short true offset (h ∷ bs))
    (Ok (whole_piece offset (h ∷ take (following_length h bs) bs)))) short) e in
    let size : suc (length bs) ≡ length p.stood = ap (λ (q : PieceRecord). length q.stood) (sym is)
    in
    first-so true offset h bs p (suc (length bs)) e size (omega arith) (omega arith)
    (none-behind true offset h bs (suc (length bs)) refl less)
first-by true false offset h bs p short e =
    let bad : front_piece false offset (h ∷ bs) ≡ Err Insufficient =
    ap (λ b. cond b (cut_short false offset (h ∷ bs))
    (Ok (whole_piece offset (h ∷ take (following_length h bs) bs)))) short in cc
first-by false leave_out offset h bs p long e =
    let n = following_length h bs in
    let room : n ≤ length bs = enough (length bs) n long in
    let is : p ≡ whole_piece offset (h ∷ take n bs) =
    ok-is (front_piece leave_out offset (h ∷ bs)) (whole_piece offset (h ∷ take n bs)) p
    (ap (λ b. cond b (cut_short leave_out offset (h ∷ bs))
    (Ok (whole_piece offset (h ∷ take n bs)))) long) e in
    let taken : length (take n bs) ≡ n = simp length-take (omega (arith, room)) in
    let size : suc n ≡ length p.stood = sym (ap (λ (q : PieceRecord). length q.stood) is
    ∙ ap length (by-stood offset h (take n bs) (item_of h (take n bs))) ∙ ap suc taken) in
    first-so leave_out offset h bs p (suc n) e size (omega arith) (omega (arith, room))
    (whole-behind leave_out offset h bs (suc n) refl room)

pub first-piece : (leave_out : Bool) (offset : ℕ) (bytes : List ℕ) (p : PieceRecord)
    → front_piece leave_out offset bytes ≡ Ok p → IsFirst leave_out offset bytes p
first-piece leave_out offset [] p e = cc
first-piece leave_out offset (h ∷ bs) p e =
    first-by (nat_lt (length bs) (following_length h bs)) leave_out offset h bs p refl e

-- what is no piece is the fault
pub first-fault : (leave_out : Bool) (offset : ℕ) (bytes : List ℕ) (fault : GrammarFault)
    → bytes ≢ [] → front_piece leave_out offset bytes ≡ Err fault
    → pieces_from leave_out offset 0 bytes ≡ Err (offset, fault)
first-fault leave_out offset [] fault some e = absurd (some refl)
first-fault leave_out offset (h ∷ bs) fault some e =
    ap (λ r. with_piece offset r (pieces_from leave_out (offset + 1) (following_length h bs) bs)) e
