-- A descriptor that is read is repaired to itself.
use Rattle.std.proofs.Common.{◌≡◌, ◌≢◌, ℕ, zero, suc, ◌+◌, Bool, true, false, cond, ◌&&◌, not, List}
use Rattle.std.proofs.Common.{[], ◌∷◌, ◌++◌, length, take, map, filter_map, nat_lt, Option, None}
use Rattle.std.proofs.Common.{Some, Result, Ok, Err, refl, sym, ap, ◌∙◌, inl, inr, IfOk, IsOk, subst}
use Rattle.hidreport_items.specs.Answer.{GrammarFault, Insufficient}
use Rattle.hidreport_items.specs.Spelling.{AreBytes, following_length, item_of}
use Rattle.hidreport_items.specs.declared.item.ItemType.{ItemType}
use Rattle.hidreport_lists.specs.Answer.{AnswersBy, BudgetExceeded, Refusal}
use Rattle.hidreport_lists.specs.Entry.{Entry}
use Rattle.hidreport_lists.specs.Itemising.{all_bytes, as_refusal, item_at, items_from, itemise}
use Rattle.hidreport_lists.specs.Itemising.{with_entry}
use Rattle.hidreport_lists.specs.Mending.{PieceRecord, cut_short, ended, ends_unknown, front_piece}
use Rattle.hidreport_lists.specs.Mending.{holding, has_main, piece_by, pieces, pieces_from}
use Rattle.hidreport_lists.specs.Mending.{whole_piece, with_piece, without_ended}
use Rattle.hidreport_lists.specs.Mending.{then_ended}
use Rattle.hidreport_lists.specs.Rebuilt.{items_of}
use Rattle.hidreport_lists.proofs.CutLemmas.{items_or_fault, itemise-fault, itemise-items}
use Rattle.hidreport_lists.proofs.ItemLemmas.{chosen_ok, itemise-some}
use Rattle.hidreport.specs.ItemState.{first_of}
use Rattle.hidreport.specs.Meaning.{at_offset}
use Rattle.hidreport.specs.MeaningFault.{MeaningFault}
use Rattle.hidreport.specs.Options.{parse_as, parse_limited, past_longest, reading_of}
use Rattle.hidreport.specs.Options.{unless_too_long}
use Rattle.hidreport.specs.Parser.Budget.{is_past, left_behind, past_fault, stop_in, walk_bytes}
use Rattle.hidreport.specs.Parser.Budget.{walk_items, walk_within, weight_in}
use Rattle.hidreport.specs.Parser.Machine.{StateRecord, fault_in, first_state, go_on, next_state}
use Rattle.hidreport.specs.Parser.Machine.{step, unless_fault}
use Rattle.hidreport_fields.specs.Records.{DescriptorRecord}
use Rattle.hidreport.specs.Repair.{RepairedRecord, repaired_of, repaired_view}
use Rattle.hidreport.specs.Repair.{all_mended, change_in, fault_at, if_read, joined, mended}
use Rattle.hidreport.specs.Repair.{padded_by, repaired, repaired_pieces, then_mended, then_read}
use Rattle.hidreport.specs.Repair.{widened, widened_in, with_mended}
use Rattle.hidreport_lists.specs.declared.error.ParserError.{ParserError}
use Rattle.hidreport.specs.declared.parse_options.ParseOptions.{ParseOptions}
use Rattle.hidreport.specs.declared.repairing.change.Repaired.{Repaired}
use Rattle.hidreport.specs.declared.repairing.repair_options.RepairOptions.{RepairOptions}
use Rattle.hidreport.proofs.ParseLemmas.{bytes-as}
use Rattle.hidreport.proofs.RepairLemmas.{Reached, fault-stop, mended-on, reached-more}
use Rattle.hidreport.proofs.RepairLemmas.{reached-none}

-- an entry as a piece that stands as it stood
abbrev pub piece_of : Entry → PieceRecord
piece_of e = holding None e.offset e.bytes e.bytes e.item

-- the pieces of bytes that are items are these items
pieces-so : (leave_out : Bool) (offset inside : ℕ) (bs : List ℕ) (es : List Entry)
    → items_from item_of offset inside bs ≡ Ok es
    → pieces_from leave_out offset inside bs ≡ Ok (map piece_of es)
pieces-so leave_out offset inside [] [] e = refl
pieces-so leave_out offset inside [] (x ∷ xs) e = cc
pieces-so leave_out offset zero (h ∷ bs) es e =
    by-item (item_at item_of h bs) (items_from item_of (offset + 1) (following_length h bs) bs)
    refl e (λ more f. pieces-so leave_out (offset + 1) (following_length h bs) bs more f)
  where
    by-item : (r : Result ItemType GrammarFault)
        (rest : Result (List Entry) (ℕ × GrammarFault)) → item_at item_of h bs ≡ r
        → with_entry offset (h ∷ take (following_length h bs) bs) r rest ≡ Ok es
        → ((more : List Entry) → rest ≡ Ok more
        → pieces_from leave_out (offset + 1) (following_length h bs) bs ≡ Ok (map piece_of more))
        → pieces_from leave_out offset 0 (h ∷ bs) ≡ Ok (map piece_of es)
    by-item (Err fault) rest is whole later = cc
    by-item (Ok x) (Err fault) is whole later = cc
    by-item (Ok x) (Ok more) is whole later =
        let got = chosen_ok (nat_lt (length bs) (following_length h bs)) Insufficient
        (item_of h (take (following_length h bs) bs)) x is in
        let first : front_piece leave_out offset (h ∷ bs)
        ≡ Ok (holding None offset (h ∷ take (following_length h bs) bs)
        (h ∷ take (following_length h bs) bs) x) =
        ap (λ b. cond b (cut_short leave_out offset (h ∷ bs))
        (Ok (whole_piece offset (h ∷ take (following_length h bs) bs)))) got.0
        ∙ ap (λ r. Ok (piece_by offset h (take (following_length h bs) bs) r)) got.1 in
        let entries : es ≡ record {
          offset = offset;
          bytes = h ∷ take (following_length h bs) bs;
          item = x;
        } ∷ more = cc in
        ap (λ r. with_piece offset r
        (pieces_from leave_out (offset + 1) (following_length h bs) bs)) first
        ∙ ap (with_piece offset (Ok _)) (later more refl)
        ∙ ap (λ l. Ok (map piece_of l)) (sym entries)
pieces-so leave_out offset (suc inside) (b ∷ bs) es e =
    pieces-so leave_out (offset + 1) inside bs es e

-- none of them ends with a main item that is left out
none-ends : (es : List Entry) → ends_unknown (map piece_of es) ≡ false
none-ends [] = refl
none-ends (e ∷ es) = by-main (has_main (Some e.item)) (none-ends es)
  where
    by-main : (b : Bool) → ends_unknown (map piece_of es) ≡ false
        → (not b && ends_unknown (map piece_of es)) ≡ false
    by-main true rest = refl
    by-main false rest = rest

all-stay : (es : List Entry) → without_ended (map piece_of es) ≡ map piece_of es
all-stay [] = refl
all-stay (e ∷ es) =
    ap (λ b. ended b (piece_of e) ∷ without_ended (map piece_of es)) (none-ends es)
    ∙ ap (λ l. piece_of e ∷ l) (all-stay es)

-- an item over which the walk goes on
goes-by : (s : Option MeaningFault) (left : Option ℕ) (h : StateRecord) (k : ℕ) (x : ItemType)
    (xs : List ItemType) (d : DescriptorRecord) → stop_in left h x ≡ s
    → walk_within left h k (x ∷ xs) ≡ Ok d
    → (stop_in left h x ≡ None)
    × (walk_within (left_behind left (weight_in h x)) (next_state h x) (k + 1) xs ≡ Ok d)
goes-by None left h k x xs d stops walks = (
  stops,
  sym (ap (λ o. go_on (unless_fault o (next_state h x)) k
      (λ n. walk_within (left_behind left (weight_in h x)) n (k + 1) xs)) stops) ∙ walks,
)
goes-by (Some f) left h k x xs d stops walks =
    let bad : walk_within left h k (x ∷ xs) ≡ Err (k, f) =
    ap (λ o. go_on (unless_fault o (next_state h x)) k
    (λ n. walk_within (left_behind left (weight_in h x)) n (k + 1) xs)) stops in cc

-- what stops nothing has signed fault, and fits
pub stop-none : (o : Option MeaningFault) (b : Bool) → first_of o (past_fault b) ≡ None
    → (o ≡ None) × (b ≡ false)
stop-none None true e = cc
stop-none None false e = (refl, refl)
stop-none (Some f) b e = cc

-- a piece in which nothing is amiss stays
stays : (options : RepairOptions) (before : List ItemType) (left : Option ℕ) (h : StateRecord)
    (e : Entry) → options.unsigned_maxima ≡ false → Reached options.parse before left h
    → stop_in left h e.item ≡ None → piece_of e ≡ mended options before (piece_of e)
stays options before left h e signed reached passes =
    let p = piece_of e in
    let state = reading_of options.parse before (length before) in
    let wide : widened options before p ≡ p = ap (λ b. widened_in b state p) signed in
    let none : fault_at options.parse before p ≡ None =
    fault-stop options.parse before left h p reached ∙ passes in
    sym (ap (λ w. padded_by (fault_at options.parse before w) w) wide
    ∙ ap (λ o. padded_by o p) none)

all-stand : (options : RepairOptions) (before : List ItemType) (left : Option ℕ)
    (h : StateRecord) (k : ℕ) (es : List Entry) (d : DescriptorRecord)
    → options.unsigned_maxima ≡ false → Reached options.parse before left h
    → walk_within left h k (items_of es) ≡ Ok d
    → all_mended options before (map piece_of es) ≡ Ok (map piece_of es)
all-stand options before left h k [] d signed reached walks = refl
all-stand options before left h k (e ∷ es) d signed reached walks =
    let goes = goes-by (stop_in left h e.item) left h k e.item (items_of es) d refl walks in
    let fits = stop-none (fault_in h e.item) (is_past left (weight_in h e.item)) goes.0 in
    let stepped : step h e.item ≡ Ok (next_state h e.item) =
    ap (λ o. unless_fault o (next_state h e.item)) fits.0 in
    mended-on options before left h (piece_of e) (piece_of e) (map piece_of es) reached
    (stays options before left h e signed reached goes.0) goes.0
    ∙ ap (with_mended (piece_of e))
    (all-stand options (before ++ e.item ∷ []) (left_behind left (weight_in h e.item))
    (next_state h e.item) (k + 1) es d signed
    (reached-more options.parse before left (left_behind left (weight_in h e.item)) h
    (next_state h e.item) e.item reached stepped fits.1 refl) goes.1)

-- their bytes are the bytes, and nothing is changed
bytes-so : (es : List Entry) → joined (map piece_of es) ≡ all_bytes es
bytes-so [] = refl
bytes-so (e ∷ es) = ap (λ l. e.bytes ++ l) (bytes-so es)

none-changed : (es : List Entry) → filter_map change_in (map piece_of es) ≡ []
none-changed [] = refl
none-changed (e ∷ es) = none-changed es

whole-so : (bytes : List ℕ) (es : List Entry) → AreBytes bytes → bytes ≢ []
    → itemise item_of bytes ≡ Ok es → all_bytes es ≡ bytes
whole-so bytes es are some e =
    elim (items_or_fault item_of bytes are some) [
      | inl found ↦
          let other : itemise item_of bytes ≡ Ok found.0 =
          itemise-items item_of bytes found.0 found.1 in
          let is : es ≡ found.0 = cc in
          ap all_bytes is ∙ found.1.whole
      | inr found ↦
          let bad : itemise item_of bytes ≡ Err (found.0, found.1) =
          itemise-fault item_of bytes found.0 found.1 found.2 in
          cc
    ]

offset-ok : (es : List Entry) (r : Result DescriptorRecord (ℕ × MeaningFault))
    (d : DescriptorRecord) → at_offset es r ≡ Ok d → r ≡ Ok d
offset-ok es (Ok x) d e = cc
offset-ok es (Err f) d e = cc

-- the items of the bytes stand
repaired-items : (options : RepairOptions) (bytes : List ℕ) (es : List Entry)
    (d : DescriptorRecord) → AreBytes bytes → bytes ≢ [] → options.unsigned_maxima ≡ false
    → itemise item_of bytes ≡ Ok es
    → walk_within options.parse.limit (first_state options.parse) 0 (items_of es)
    ≡ Ok d
    → parse_as options.parse bytes ≡ Ok d
    → then_read options.parse (repaired_pieces options bytes)
    ≡ Ok (record { bytes = bytes; changes = [] })
repaired-items options bytes es d are some signed items walks parsed =
    let cut : pieces_from options.leave_out_cut_short 0 0 bytes ≡ Ok (map piece_of es) =
    pieces-so options.leave_out_cut_short 0 0 bytes es
    (sym (itemise-some item_of bytes some) ∙ items) in
    let read : pieces options.leave_out_cut_short bytes ≡ Ok (map piece_of es) =
    ap then_ended cut ∙ ap Ok (all-stay es) in
    let stand : repaired_pieces options bytes ≡ Ok (map piece_of es) =
    ap (λ r. then_mended options (as_refusal r)) read
    ∙ all-stand options [] options.parse.limit (first_state options.parse) 0 es d signed
    (reached-none options.parse) walks in
    let back : joined (map piece_of es) ≡ bytes =
    bytes-so es ∙ whole-so bytes es are some items in
    ap (then_read options.parse) stand
    ∙ ap (λ l. if_read (record { bytes = l; changes = filter_map change_in (map piece_of es) })
    (parse_as options.parse l)) back
    ∙ ap (λ l. if_read (record { bytes = bytes; changes = l }) (parse_as options.parse bytes))
    (none-changed es)
    ∙ ap (if_read (record { bytes = bytes; changes = [] })) parsed

by-itemise : (options : RepairOptions) (bytes : List ℕ) (r : Result (List Entry) (ℕ × GrammarFault))
    (d : DescriptorRecord) → AreBytes bytes → bytes ≢ [] → options.unsigned_maxima ≡ false
    → itemise item_of bytes ≡ r
    → walk_items options.parse.limit (first_state options.parse) r ≡ Ok d
    → parse_as options.parse bytes ≡ Ok d
    → then_read options.parse (repaired_pieces options bytes)
    ≡ Ok (record { bytes = bytes; changes = [] })
by-itemise options bytes (Err fault) d are some signed items walks parsed = cc
by-itemise options bytes (Ok es) d are some signed items walks parsed =
    repaired-items options bytes es d are some signed items (offset-ok es _ d walks) parsed

by-bytes : (options : RepairOptions) (bytes : List ℕ) (d : DescriptorRecord) → AreBytes bytes
    → options.unsigned_maxima ≡ false
    → walk_bytes options.parse bytes ≡ Ok d
    → parse_as options.parse bytes ≡ Ok d
    → then_read options.parse (repaired_pieces options bytes)
    ≡ Ok (record { bytes = bytes; changes = [] })
by-bytes options [] d are signed walks parsed = cc
by-bytes options (b ∷ bs) d are signed walks parsed =
    by-itemise options (b ∷ bs) (itemise item_of (b ∷ bs)) d are (λ e. cc) signed refl walks parsed

by-past : (past : Option ℕ) (options : RepairOptions) (bytes : List ℕ) (d : DescriptorRecord)
    → AreBytes bytes → options.unsigned_maxima ≡ false
    → past_longest options.parse.longest (length bytes) ≡ past
    → parse_as options.parse bytes ≡ Ok d
    → repaired options bytes ≡ Ok (record { bytes = bytes; changes = [] })
by-past None options bytes d are signed within parsed =
    let limited : parse_limited (reading_of options.parse) options.parse.limit bytes
    ≡ Ok d = sym (ap (λ o. unless_too_long o (parse_limited
    (reading_of options.parse) options.parse.limit bytes)) within) ∙ parsed in
    ap (λ o. unless_too_long o (then_read options.parse (repaired_pieces options bytes))) within
    ∙ by-bytes options bytes d are signed
    (bytes-as options.parse bytes ∙ limited) parsed
by-past (Some offset) options bytes d are signed within parsed =
    let bad : parse_as options.parse bytes ≡ Err (BudgetExceeded offset) =
    ap (λ o. unless_too_long o (parse_limited
    (reading_of options.parse) options.parse.limit bytes)) within in cc

-- what is read stays as it is
pub untouched : (options : RepairOptions) (bytes : List ℕ) (d : DescriptorRecord)
    → AreBytes bytes → options.unsigned_maxima ≡ false → parse_as options.parse bytes ≡ Ok d
    → repaired options bytes ≡ Ok (record { bytes = bytes; changes = [] })
untouched options bytes d are signed parsed =
    by-past (past_longest options.parse.longest (length bytes)) options bytes d are signed refl parsed

pub untouched-ok : (options : RepairOptions) (bytes : List ℕ) (r : Result DescriptorRecord Refusal)
    → AreBytes bytes → options.unsigned_maxima ≡ false → parse_as options.parse bytes ≡ r → IsOk r
    → repaired options bytes ≡ Ok (record { bytes = bytes; changes = [] })
untouched-ok options bytes (Ok d) are signed parsed ok = untouched options bytes d are signed parsed
untouched-ok options bytes (Err refusal) are signed parsed ok = cc

-- what is repaired is read
read-by : (options : ParseOptions) (ps : List PieceRecord) (r : RepairedRecord)
    (read : Result DescriptorRecord Refusal) → parse_as options (joined ps) ≡ read
    → if_read (repaired_of ps) read ≡ Ok r → IsOk (parse_as options r.bytes)
read-by options ps r (Ok d) is e =
    let same : repaired_of ps ≡ r = cc in
    subst (λ (q : RepairedRecord). IsOk (parse_as options q.bytes)) same
    (subst (λ a. IsOk a) (sym is) refl)
read-by options ps r (Err refusal) is e = cc

pieces-by : (options : ParseOptions) (ps : Result (List PieceRecord) Refusal) (r : RepairedRecord)
    → then_read options ps ≡ Ok r → IsOk (parse_as options r.bytes)
pieces-by options (Ok ps) r e = read-by options ps r (parse_as options (joined ps)) refl e
pieces-by options (Err refusal) r e = cc

past-by : (past : Option ℕ) (options : ParseOptions) (ps : Result (List PieceRecord) Refusal)
    (r : RepairedRecord) → unless_too_long past (then_read options ps) ≡ Ok r
    → IsOk (parse_as options r.bytes)
past-by None options ps r e = pieces-by options ps r e
past-by (Some offset) options ps r e = cc

pub accepts : (options : RepairOptions) (bytes : List ℕ) (r : RepairedRecord)
    → repaired options bytes ≡ Ok r → IsOk (parse_as options.parse r.bytes)
accepts options bytes r e = past-by (past_longest options.parse.longest (length bytes))
    options.parse (repaired_pieces options bytes) r e

pub accepts-answer : (options : RepairOptions) (bytes : List ℕ) (answer : Result Repaired ParserError)
    → AnswersBy repaired_view answer (repaired options bytes)
    → IfOk answer (λ r. IsOk (parse_as options.parse r.bytes.items))
accepts-answer options bytes (Ok r) a = accepts options bytes (repaired_view r) a
accepts-answer options bytes (Err e) a = tt
