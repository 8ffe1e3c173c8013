-- What a repair doesn't name stays as it stood.
use Rattle.std.proofs.Common.{◌≡◌, ℕ, zero, suc, ◌+◌, ◌<◌, ◌≤◌, Bool, true, false, cond, List, []}
use Rattle.std.proofs.Common.{◌∷◌, ◌++◌, length, take, drop, flat_map, nat_lt, Option}
use Rattle.std.proofs.Common.{None, Some, Result, Ok, Err, IfOk, refl, sym, ap, ◌∙◌, subst, arith}
use Rattle.std.proofs.Common.{◌&&◌, append-nil, length-take}
use Rattle.std.proofs.Math.Seq.{drop-nil}
use Rattle.std.proofs.lemmas.Grind.{common_steps}
use Rattle.std.proofs.lemmas.List.{take-append-drop}
use Rattle.hidreport_items.specs.Answer.{GrammarFault, Insufficient}
use Rattle.hidreport_items.specs.Spelling.{following_length, item_of, prefix}
use Rattle.hidreport_items.specs.declared.item.ItemType.{ItemType}
use Rattle.hidreport_lists.specs.Answer.{AnswersBy, Refusal}
use Rattle.hidreport_lists.specs.Itemising.{as_refusal}
use Rattle.hidreport_lists.specs.Mending.{PieceRecord, cut_short, ends_unknown, front_piece}
use Rattle.hidreport_lists.specs.Mending.{has_local, item_in, left_out, piece_by}
use Rattle.hidreport_lists.specs.Mending.{pieces_from, whole_piece, with_piece}
use Rattle.hidreport_lists.specs.Mending.{without_ended, zero_piece}
use Rattle.hidreport_lists.specs.Mending.{then_ended}
use Rattle.hidreport_lists.specs.declared.error.ParserError.{ParserError}
use Rattle.hidreport_lists.specs.declared.mending.Reason.{Reason}
use Rattle.hidreport_lists.specs.declared.mending.Reason.TheVariants as reason
use Rattle.hidreport_items.proofs.FollowingLemmas.{following-cut}
use Rattle.hidreport_lists.proofs.ItemLemmas.{enough}
use Rattle.hidreport_lists.proofs.MendingLemmas.{all-inside}
use Rattle.hidreport.specs.MeaningFault.{MeaningFault}
use Rattle.hidreport.specs.Options.{parse_as, past_longest, unless_too_long}
use Rattle.hidreport_fields.specs.Records.{DescriptorRecord}
use Rattle.hidreport.specs.Repair.{RepairedRecord, all_mended, behind, fault_at, if_read}
use Rattle.hidreport.specs.Repair.{joined, mended, repaired, repaired_of}
use Rattle.hidreport.specs.Repair.{repaired_pieces, repaired_view, rewritten_as}
use Rattle.hidreport.specs.Repair.{then_mended, then_read, if_faultless, widened}
use Rattle.hidreport.specs.Repair.{with_mended}
use Rattle.hidreport.specs.RepairLaws.{AreInPlace, IsOneItem, IsRepairOf, StandsAsItStood}
use Rattle.hidreport.specs.RepairLaws.{StoodAsOne}
use Rattle.hidreport_fields.specs.Tiling.{Each}
use Rattle.hidreport.specs.declared.repairing.change.Repaired.{Repaired}
use Rattle.hidreport.specs.declared.repairing.repair_options.RepairOptions.{RepairOptions}

-- the pieces are these bytes, the first at the offset, and as they stood where nothing is mended
record Laid (offset : ℕ) (bytes : List ℕ) (ps : List PieceRecord) : Type 0 where
  whole : flat_map (λ (p : PieceRecord). p.stood) ps ≡ bytes
  places : AreInPlace offset ps
  same : Each StandsAsItStood ps
  one : Each StoodAsOne ps

-- a whole piece is where it stood, and as it stood where nothing is mended
zero-same : (offset : ℕ) (stood : List ℕ) (header : ℕ) (r : Result ItemType GrammarFault)
    → ((zero_piece offset stood header r).offset ≡ offset)
    × ((zero_piece offset stood header r).stood ≡ stood)
    × StandsAsItStood (zero_piece offset stood header r)
zero-same offset stood header (Ok x) = (refl, refl, λ e. cc)
zero-same offset stood header (Err fault) = (refl, refl, λ e. cc)

by-same : (offset h : ℕ) (bs : List ℕ) (r : Result ItemType GrammarFault)
    → ((piece_by offset h bs r).offset ≡ offset) × ((piece_by offset h bs r).stood ≡ h ∷ bs)
    × StandsAsItStood (piece_by offset h bs r)
by-same offset h bs (Ok x) = (refl, refl, λ e. refl)
by-same offset h bs (Err fault) =
    zero-same offset (h ∷ bs) (prefix h + 1) (item_of (prefix h + 1) (0 ∷ []))

-- a piece before those that are laid behind it
laid-more : (offset behind : ℕ) (p : PieceRecord) (rest : List ℕ) (ps : List PieceRecord)
    → p.offset ≡ offset → StandsAsItStood p → StoodAsOne p → behind ≡ offset + length p.stood
    → Laid behind rest ps → Laid offset (p.stood ++ rest) (p ∷ ps)
laid-more offset behind p rest ps at same one is laid = record {
  whole = ap (λ l. p.stood ++ l) laid.whole;
  places = (at, subst (λ n. AreInPlace n ps) is laid.places);
  same = (same, laid.same);
  one = (one, laid.one);
}

laid-none : (offset : ℕ) → Laid offset [] []
laid-none offset = record { whole = refl; places = tt; same = tt; one = tt }

-- by whether the item is cut short
laid-front : (b leave_out : Bool) (offset h : ℕ) (bs : List ℕ) (p : PieceRecord)
    (ps : List PieceRecord) → nat_lt (length bs) (following_length h bs) ≡ b
    → front_piece leave_out offset (h ∷ bs) ≡ Ok p
    → pieces_from leave_out (offset + 1) (following_length h bs) bs ≡ Ok ps
    → Laid (offset + 1 + following_length h bs) (drop (following_length h bs) bs) ps
    → Laid offset (h ∷ bs) (p ∷ ps)
laid-front false leave_out offset h bs p ps long e rest laid =
    let n = following_length h bs in
    let room : n ≤ length bs = enough (length bs) n long in
    let found : front_piece leave_out offset (h ∷ bs) ≡ Ok (whole_piece offset (h ∷ take n bs)) =
    ap (λ b. cond b (cut_short leave_out offset (h ∷ bs))
    (Ok (whole_piece offset (h ∷ take n bs)))) long in
    let is : p ≡ whole_piece offset (h ∷ take n bs) = cc in
    let so = by-same offset h (take n bs) (item_of h (take n bs)) in
    let stood : p.stood ≡ h ∷ take n bs = ap (λ (q : PieceRecord). q.stood) is ∙ so.1 in
    let taken : length (take n bs) ≡ n = simp length-take (omega (arith, room)) in
    let size : length p.stood ≡ suc n = ap length stood ∙ ap suc taken in
    let whole : p.stood ++ drop n bs ≡ h ∷ bs = ap (λ l. l ++ drop n bs) stood
    ∙ ap (λ l. h ∷ l) (take-append-drop n bs) in
    let same_length : following_length h (take n bs) ≡ n =
    following-cut h n bs (omega arith) in
    let fits : IsOneItem (h ∷ take n bs) = omega (arith, taken, same_length) in
    subst (λ l. Laid offset l (p ∷ ps)) whole
    (laid-more offset (offset + 1 + n) p (drop n bs) ps
    (ap (λ (q : PieceRecord). q.offset) is ∙ so.0)
    (subst StandsAsItStood (sym is) so.2) (subst IsOneItem (sym stood) fits)
    (omega (arith, size)) laid)
laid-front true true offset h bs p ps short e rest laid =
    let n = following_length h bs in
    let less : length bs < n = grind (arith, common_steps, short) in
    let inside : length bs ≤ n = omega (arith, less) in
    let found : front_piece true offset (h ∷ bs)
    ≡ Ok (left_out reason.CutShort offset (h ∷ bs)) =
    ap (λ b. cond b (cut_short true offset (h ∷ bs))
    (Ok (whole_piece offset (h ∷ take n bs)))) short in
    let is : p ≡ left_out reason.CutShort offset (h ∷ bs) = cc in
    let nothing : pieces_from true (offset + 1) n bs ≡ Ok [] =
    all-inside true (offset + 1) n bs inside in
    let none : ps ≡ [] = cc in
    subst (λ l. Laid offset (h ∷ bs) (p ∷ l)) (sym none)
    (subst (λ q. Laid offset (h ∷ bs) (q ∷ [])) (sym is) (record {
      whole = append-nil (h ∷ bs);
      places = (refl, tt);
      same = ((λ m. cc), tt);
      one = (inside, tt);
    }))
laid-front true false offset h bs p ps short e rest laid =
    let found : front_piece false offset (h ∷ bs) ≡ Err Insufficient =
    ap (λ b. cond b (cut_short false offset (h ∷ bs))
    (Ok (whole_piece offset (h ∷ take (following_length h bs) bs)))) short in cc

laid-from : (leave_out : Bool) (offset inside : ℕ) (bs : List ℕ) (ps : List PieceRecord)
    → pieces_from leave_out offset inside bs ≡ Ok ps → Laid (offset + inside) (drop inside bs) ps
laid-from leave_out offset inside [] ps e =
    let none : ps ≡ [] = cc in
    subst (λ l. Laid (offset + inside) (drop inside []) l) (sym none)
    (subst (λ l. Laid (offset + inside) l []) (sym (drop-nil inside)) (laid-none (offset + inside)))
laid-from leave_out offset zero (h ∷ bs) ps e =
    let start : offset ≡ offset + 0 = omega arith in
    subst (λ n. Laid n (h ∷ bs) ps) start
    (by-piece (front_piece leave_out offset (h ∷ bs))
    (pieces_from leave_out (offset + 1) (following_length h bs) bs) refl refl e
    (λ qs f. laid-from leave_out (offset + 1) (following_length h bs) bs qs f))
  where
    by-piece : (r : Result PieceRecord GrammarFault)
        (rest : Result (List PieceRecord) (ℕ × GrammarFault))
        → front_piece leave_out offset (h ∷ bs) ≡ r
        → pieces_from leave_out (offset + 1) (following_length h bs) bs ≡ rest
        → with_piece offset r rest ≡ Ok ps
        → ((qs : List PieceRecord)
        → pieces_from leave_out (offset + 1) (following_length h bs) bs ≡ Ok qs
        → Laid (offset + 1 + following_length h bs) (drop (following_length h bs) bs) qs)
        → Laid offset (h ∷ bs) ps
    by-piece (Err fault) rest is behind whole later = cc
    by-piece (Ok p) (Err fault) is behind whole later = cc
    by-piece (Ok p) (Ok qs) is behind whole later =
        let all : ps ≡ p ∷ qs = cc in
        subst (λ l. Laid offset (h ∷ bs) l) (sym all)
        (laid-front (nat_lt (length bs) (following_length h bs)) leave_out offset h bs p qs refl
        is behind (later qs behind))
laid-from leave_out offset (suc inside) (b ∷ bs) ps e =
    let next : offset + 1 + inside ≡ offset + suc inside = omega arith in
    subst (λ n. Laid n (drop inside bs) ps) next
    (laid-from leave_out (offset + 1) inside bs ps e)

-- a piece that has been mended is where it stood
record Keeps (p q : PieceRecord) : Type 0 where
  offset : q.offset ≡ p.offset
  stood : q.stood ≡ p.stood
  stands : StandsAsItStood p → StandsAsItStood q

keeps-itself : (p : PieceRecord) → Keeps p p
keeps-itself p = record { offset = refl; stood = refl; stands = λ s. s }

keeps-both : (p q r : PieceRecord) → Keeps p q → Keeps q r → Keeps p r
keeps-both p q r first second = record {
  offset = second.offset ∙ first.offset;
  stood = second.stood ∙ first.stood;
  stands = λ s. second.stands (first.stands s);
}

keeps-choice : (b : Bool) (p q : PieceRecord) → Keeps p q → Keeps p (cond b q p)
keeps-choice true p q keeps = keeps
keeps-choice false p q keeps = keeps-itself p

keeps-rewritten : (why : Reason) (p : PieceRecord) (bytes : List ℕ)
    (r : Result ItemType GrammarFault) → Keeps p (rewritten_as why p bytes r)
keeps-rewritten why p bytes (Ok x) =
    record { offset = refl; stood = refl; stands = λ s m. cc }
keeps-rewritten why p bytes (Err fault) = keeps-itself p

keeps-left_out : (why : Reason) (p : PieceRecord) → Keeps p (left_out why p.offset p.stood)
keeps-left_out why p = record { offset = refl; stood = refl; stands = λ s m. cc }

-- so are all of a list
abbrev AllKeep : List PieceRecord → List PieceRecord → Type 0
AllKeep [] [] = Unit {0}
AllKeep [] (q ∷ qs) = ⊥
AllKeep (p ∷ ps) [] = ⊥
AllKeep (p ∷ ps) (q ∷ qs) = Keeps p q × AllKeep ps qs

places-kept : (offset : ℕ) (ps qs : List PieceRecord) → AllKeep ps qs → AreInPlace offset ps
    → AreInPlace offset qs
places-kept offset [] [] keep places = tt
places-kept offset (p ∷ ps) (q ∷ qs) keep places = (
  keep.0.offset ∙ places.0,
  places-kept (offset + length q.stood) ps qs keep.1
      (subst (λ (l : List ℕ). AreInPlace (offset + length l) ps) (sym keep.0.stood) places.1),
)
places-kept offset [] (q ∷ qs) keep places = absurd keep
places-kept offset (p ∷ ps) [] keep places = absurd keep

whole-kept : (ps qs : List PieceRecord) → AllKeep ps qs
    → flat_map (λ (p : PieceRecord). p.stood) qs ≡ flat_map (λ (p : PieceRecord). p.stood) ps
whole-kept [] [] keep = refl
whole-kept (p ∷ ps) (q ∷ qs) keep =
    ap (λ l. l ++ flat_map (λ (x : PieceRecord). x.stood) qs) keep.0.stood
    ∙ ap (λ l. p.stood ++ l) (whole-kept ps qs keep.1)
whole-kept [] (q ∷ qs) keep = absurd keep
whole-kept (p ∷ ps) [] keep = absurd keep

same-kept : (ps qs : List PieceRecord) → AllKeep ps qs → Each StandsAsItStood ps
    → Each StandsAsItStood qs
same-kept [] [] keep same = tt
same-kept (p ∷ ps) (q ∷ qs) keep same =
    (keep.0.stands same.0, same-kept ps qs keep.1 same.1)
same-kept [] (q ∷ qs) keep same = absurd keep
same-kept (p ∷ ps) [] keep same = absurd keep

one-kept : (ps qs : List PieceRecord) → AllKeep ps qs → Each StoodAsOne ps → Each StoodAsOne qs
one-kept [] [] keep one = tt
one-kept (p ∷ ps) (q ∷ qs) keep one =
    (subst IsOneItem (sym keep.0.stood) one.0, one-kept ps qs keep.1 one.1)
one-kept [] (q ∷ qs) keep one = absurd keep
one-kept (p ∷ ps) [] keep one = absurd keep

laid-kept : (offset : ℕ) (bytes : List ℕ) (ps qs : List PieceRecord) → AllKeep ps qs
    → Laid offset bytes ps → Laid offset bytes qs
laid-kept offset bytes ps qs keep laid = record {
  whole = whole-kept ps qs keep ∙ laid.whole;
  places = places-kept offset ps qs keep laid.places;
  same = same-kept ps qs keep laid.same;
  one = one-kept ps qs keep laid.one;
}

ended-keep : (ps : List PieceRecord) → AllKeep ps (without_ended ps)
ended-keep [] = tt
ended-keep (p ∷ ps) = (
  keeps-choice (ends_unknown ps && has_local (item_in p)) p
      (left_out reason.EndedLocal p.offset p.stood) (keeps-left_out reason.EndedLocal p),
  ended-keep ps,
)

mended-keeps : (options : RepairOptions) (before : List ItemType) (p : PieceRecord)
    → Keeps p (mended options before p)
mended-keeps options before p =
    let w = widened options before p in
    keeps-both p w (mended options before p)
    (keeps-choice _ p _ (keeps-rewritten reason.UnsignedMaximum p _ _))
    (keeps-choice _ w _ (keeps-rewritten reason.NoUsage w _ _))

all-keep : (options : RepairOptions) (before : List ItemType) (ps qs : List PieceRecord)
    → all_mended options before ps ≡ Ok qs → AllKeep ps qs
all-keep options before [] qs e = let none : qs ≡ [] = cc in subst (AllKeep []) (sym none) tt
all-keep options before (p ∷ ps) qs e =
    by-fault (fault_at options.parse before (mended options before p))
    (all_mended options (behind before (mended options before p)) ps) e
    (λ more f. all-keep options (behind before (mended options before p)) ps more f)
  where
    by-fault : (o : Option MeaningFault) (rest : Result (List PieceRecord) Refusal)
        → if_faultless o p.offset (with_mended (mended options before p) rest) ≡ Ok qs
        → ((more : List PieceRecord) → rest ≡ Ok more → AllKeep ps more) → AllKeep (p ∷ ps) qs
    by-fault (Some f) rest whole later = cc
    by-fault None (Err refusal) whole later = cc
    by-fault None (Ok more) whole later =
        let all : qs ≡ mended options before p ∷ more = cc in
        subst (AllKeep (p ∷ ps)) (sym all) (mended-keeps options before p, later more refl)

-- the pieces that stand in the end
pieces-laid : (options : RepairOptions) (bytes : List ℕ)
    (r : Result (List PieceRecord) (ℕ × GrammarFault)) (qs : List PieceRecord)
    → pieces_from options.leave_out_cut_short 0 0 bytes ≡ r
    → then_mended options (as_refusal (then_ended r)) ≡ Ok qs → Laid 0 bytes qs
pieces-laid options bytes (Ok ps) qs cut e =
    laid-kept 0 bytes (without_ended ps) qs (all-keep options [] (without_ended ps) qs e)
    (laid-kept 0 bytes ps (without_ended ps) (ended-keep ps)
    (laid-from options.leave_out_cut_short 0 0 bytes ps cut))
pieces-laid options bytes (Err fault) qs cut e = cc

repair-by : (options : RepairOptions) (bytes : List ℕ) (ps : Result (List PieceRecord) Refusal)
    (r : RepairedRecord) → repaired_pieces options bytes ≡ ps
    → then_read options.parse ps ≡ Ok r → IsRepairOf bytes r
repair-by options bytes (Err refusal) r found e = cc
repair-by options bytes (Ok ps) r found e =
    by-read (parse_as options.parse (joined ps)) e
    (pieces-laid options bytes (pieces_from options.leave_out_cut_short 0 0 bytes) ps refl found)
  where
    by-read : (read : Result DescriptorRecord Refusal) → if_read (repaired_of ps) read ≡ Ok r
        → Laid 0 bytes ps → IsRepairOf bytes r
    by-read (Err refusal) whole laid = cc
    by-read (Ok d) whole laid =
        let is : repaired_of ps ≡ r = cc in
        record {
          pieces = ps;
          whole = laid.whole;
          places = laid.places;
          written = ap (λ (x : RepairedRecord). x.bytes) is;
          changes = ap (λ (x : RepairedRecord). x.changes) is;
          same = laid.same;
          one = laid.one;
        }

past-repair : (past : Option ℕ) (options : RepairOptions) (bytes : List ℕ) (r : RepairedRecord)
    → unless_too_long past (then_read options.parse (repaired_pieces options bytes)) ≡ Ok r
    → IsRepairOf bytes r
past-repair None options bytes r e =
    repair-by options bytes (repaired_pieces options bytes) r refl e
past-repair (Some offset) options bytes r e = cc

pub repair-so : (options : RepairOptions) (bytes : List ℕ) (answer : Result Repaired ParserError)
    → AnswersBy repaired_view answer (repaired options bytes)
    → IfOk answer (λ r. IsRepairOf bytes (repaired_view r))
repair-so options bytes (Ok r) a = past-repair
    (past_longest options.parse.longest (length bytes)) options bytes (repaired_view r) a
repair-so options bytes (Err e) a = tt
