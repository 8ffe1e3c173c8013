-- A descriptor that hosts take is mended and read, unless a limit refuses it or nothing is left.
use Rattle.std.proofs.Common.{◌≡◌, ◌≢◌, ℕ, zero, suc, ◌+◌, ◌≤◌, Bool}
use Rattle.std.proofs.Common.{List, [], ◌∷◌, length, filter_map, Option, None}
use Rattle.std.proofs.Common.{Some, Result, Ok, Err, IfErr, IfOk, refl, sym, ap, ◌∙◌, subst, arith}
use Rattle.std.proofs.Common.{append-nil, inl, inr, ◌⊎◌}
use Rattle.hidreport_items.specs.Answer.{GrammarFault}
use Rattle.hidreport_items.specs.Spelling.{AreBytes, following_length}
use Rattle.hidreport_items.specs.Spelling.{item_of}
use Rattle.hidreport_lists.specs.Answer.{AnswersBy, BudgetExceeded, InvalidData, OutOfBounds}
use Rattle.hidreport_lists.specs.Answer.{MismatchingReportId, Refusal}
use Rattle.std.proofs.Common.{string_bytes}
use Rattle.hidreport_lists.specs.Itemising.{as_refusal, itemise}
use Rattle.hidreport_lists.specs.Mending.{PieceRecord, item_in, pieces, pieces_from}
use Rattle.hidreport_lists.specs.Mending.{then_ended, with_piece, without_ended, front_piece}
use Rattle.hidreport_lists.specs.Rebuilt.{items_of}
use Rattle.hidreport_lists.specs.declared.error.ParserError.{ParserError}
use Rattle.hidreport_lists.specs.declared.error.ParserError.TheVariants as errors
use Rattle.hidreport_lists.proofs.CutLemmas.{itemise-items}
use Rattle.hidreport.specs.Meaning.{at_offset}
use Rattle.hidreport.specs.Options.{parse_as, past_longest, unless_too_long}
use Rattle.hidreport.specs.Parser.Budget.{walk_bytes}
use Rattle.hidreport.specs.Parser.Budget.{walk_items, walk_within}
use Rattle.hidreport.specs.Parser.Machine.{first_state}
use Rattle.hidreport.specs.Repair.{RepairedRecord, all_mended}
use Rattle.hidreport.specs.Repair.{joined, mending, repaired_of}
use Rattle.hidreport.specs.Repair.{repaired_pieces, repaired_view}
use Rattle.hidreport.specs.Repair.{then_joined, then_mended}
use Rattle.hidreport.specs.Taken.{LeavesNothing}
use Rattle.hidreport.specs.Repair.{if_read, repaired, then_read}
use Rattle.hidreport.specs.Taken.{IsOfLimits, IsPast, IsReadIfAny, IsReadUnlessPast, IsTakenByHosts}
use Rattle.hidreport_fields.specs.Records.{DescriptorRecord}
use Rattle.hidreport_fields.specs.Tiling.{Each}
use Rattle.hidreport.specs.declared.parse_options.ParseOptions.{ParseOptions}
use Rattle.hidreport.specs.declared.repairing.change.Repaired.{Repaired}
use Rattle.hidreport.specs.declared.repairing.repair_options.RepairOptions.{RepairOptions}
use Rattle.hidreport.proofs.ParseLemmas.{bytes-as}
use Rattle.hidreport.proofs.RepairBitsLemmas.{Goes}
use Rattle.hidreport.proofs.RepairLemmas.{reached-none}
use Rattle.hidreport.proofs.SpelledPieceLemmas.{Stands, entries_in, pieces-stand}
use Rattle.hidreport.proofs.SpelledPieceLemmas.{written-pieces}
use Rattle.hidreport.proofs.TakenLemmas.{within-first}
use Rattle.hidreport.proofs.TakenPieceLemmas.{Ended, all-ended}

-- there are no more pieces than bytes

few-from : (leave_out : Bool) (offset inside : ℕ) (bs : List ℕ) (ps : List PieceRecord)
    → pieces_from leave_out offset inside bs ≡ Ok ps → length ps ≤ length bs
few-from leave_out offset inside [] ps e =
    let none : ps ≡ [] = cc in omega (arith, ap length none)
few-from leave_out offset zero (h ∷ bs) ps e =
    by-piece (front_piece leave_out offset (h ∷ bs))
    (pieces_from leave_out (offset + 1) (following_length h bs) bs) e
    (λ qs f. few-from leave_out (offset + 1) (following_length h bs) bs qs f)
  where
    by-piece : (r : Result PieceRecord GrammarFault)
        (rest : Result (List PieceRecord) (ℕ × GrammarFault)) → with_piece offset r rest ≡ Ok ps
        → ((qs : List PieceRecord) → rest ≡ Ok qs → length qs ≤ length bs)
        → length ps ≤ suc (length bs)
    by-piece (Err fault) rest whole later = cc
    by-piece (Ok p) (Err fault) whole later = cc
    by-piece (Ok p) (Ok qs) whole later =
        let all : p ∷ qs ≡ ps = cc in
        let rest_few = later qs refl in
        let size : suc (length qs) ≡ length ps = ap length all in
        omega (arith, rest_few, size)
few-from leave_out offset (suc inside) (b ∷ bs) ps e =
    let rest_few = few-from leave_out (offset + 1) inside bs ps e in omega (arith, rest_few)

few-ended : (ps : List PieceRecord) → length (without_ended ps) ≡ length ps
few-ended [] = refl
few-ended (p ∷ ps) = ap suc (few-ended ps)

few : (leave_out : Bool) (bytes : List ℕ) (ps : List PieceRecord)
    → pieces leave_out bytes ≡ Ok ps → length ps ≤ length bytes
few leave_out bytes ps e = by (pieces_from leave_out 0 0 bytes) refl e where
  by : (r : Result (List PieceRecord) (ℕ × GrammarFault)) → pieces_from leave_out 0 0 bytes ≡ r
      → then_ended r ≡ Ok ps → length ps ≤ length bytes
  by (Ok qs) cut whole =
      let is : without_ended qs ≡ ps = cc in
      let some = few-from leave_out 0 0 bytes qs cut in
      let size : length ps ≡ length qs = sym (ap length is) ∙ few-ended qs in
      omega (arith, some, size)
  by (Err fault) cut whole = cc

-- what is mended is read

unless-past : {A : Type 0} (past : Option ℕ) (x : A) → IsReadUnlessPast (unless_too_long past (Ok x))
unless-past None x = tt
unless-past (Some offset) x = tt

joined-read : (options : ParseOptions) (qs : List PieceRecord)
    → Goes options (filter_map item_in qs) → Each Stands qs → joined qs ≢ []
    → IsReadUnlessPast (parse_as options (joined qs))
joined-read options qs goes stand some =
    let written = written-pieces 0 qs stand in
    let items : itemise item_of (joined qs) ≡ Ok (entries_in 0 qs) =
    itemise-items item_of (joined qs) (entries_in 0 qs) (record {
      some = some;
      whole = written.whole;
      each = written.each;
      offsets = written.offsets;
    }) in
    let before = filter_map item_in qs in
    let walks : walk_within options.limit (first_state options) 0 (items_of (entries_in 0 qs))
    ≡ Ok goes.state.descriptor =
    ap (walk_within options.limit (first_state options) 0)
    (written.items_are ∙ sym (append-nil before)) ∙ goes.reached.walk [] in
    let read : walk_bytes options (joined qs) ≡ Ok goes.state.descriptor = by (joined qs) some items
    (ap (at_offset (entries_in 0 qs)) walks) in
    subst (λ r. IsReadUnlessPast (unless_too_long (past_longest options.longest (length (joined qs))) r))
    (sym read ∙ bytes-as options (joined qs))
    (unless-past (past_longest options.longest (length (joined qs))) goes.state.descriptor)
  where
    by : (bytes : List ℕ) → bytes ≢ [] → itemise item_of bytes ≡ Ok (entries_in 0 qs)
        → walk_items options.limit (first_state options) (Ok (entries_in 0 qs))
        ≡ Ok goes.state.descriptor
        → walk_bytes options bytes ≡ Ok goes.state.descriptor
    by [] any items walks = absurd (any refl)
    by (b ∷ bs) any items walks =
        ap (walk_items options.limit (first_state options)) items ∙ walks

read-if-any : (options : ParseOptions) (qs : List PieceRecord)
    → Goes options (filter_map item_in qs) → Each Stands qs → IsReadIfAny options (joined qs)
read-if-any options qs goes stand = by (joined qs) refl where
  by : (bytes : List ℕ) → joined qs ≡ bytes → IsReadIfAny options (joined qs)
  by [] is = inl is
  by (b ∷ bs) is = inr (joined-read options qs goes stand (λ e. cc))

-- a mended descriptor is read, if it has any bytes
abbrev pub IsMendedWell : ParseOptions → Result RepairedRecord Refusal → Type 0
IsMendedWell options (Ok r) = IsReadIfAny options r.bytes
IsMendedWell options (Err refusal) = IsPast refusal

ended-well : (options : RepairOptions) (r : Result (List PieceRecord) Refusal) → Ended options [] r
    → IsMendedWell options.parse (then_joined r)
ended-well options (Ok qs) ended = read-if-any options.parse qs ended.0 ended.1
ended-well options (Err refusal) ended = ended

past-well : (options : ParseOptions) (past : Option ℕ) (r : Result RepairedRecord Refusal)
    → IsMendedWell options r → IsMendedWell options (unless_too_long past r)
past-well options None r well = well
past-well options (Some offset) r well = tt

pub mended-well : (options : RepairOptions) (bytes : List ℕ) → AreBytes bytes
    → IsTakenByHosts options bytes → IsMendedWell options.parse (mending options bytes)
mended-well options bytes are taken =
    let size = few options.leave_out_cut_short bytes taken.read taken.reads in
    let short = taken.short in
    let ended = all-ended options [] options.parse.limit (first_state options.parse) 0 taken.read
    (reached-none options.parse) (within-first options.parse taken.hosts)
    (omega (arith, size, short))
    (pieces-stand options.leave_out_cut_short bytes taken.read are taken.reads) taken.taken in
    past-well options.parse (past_longest options.parse.longest (length bytes))
    (then_joined (repaired_pieces options bytes))
    (subst (λ r. IsMendedWell options.parse (then_joined (then_mended options (as_refusal r))))
    (sym taken.reads) (ended-well options (all_mended options [] taken.read) ended))

-- the answers of `mend`

well-refused : (options : ParseOptions) (r : Result RepairedRecord Refusal) (refusal : Refusal)
    → IsMendedWell options r → r ≡ Err refusal → IsPast refusal
well-refused options (Err other) refusal well e =
    let same : other ≡ refusal = cc in subst IsPast same well
well-refused options (Ok r) refusal well e = cc

well-read : (options : ParseOptions) (r : Result RepairedRecord Refusal) (answer : RepairedRecord)
    → IsMendedWell options r → r ≡ Ok answer → IsReadIfAny options answer.bytes
well-read options (Ok r) answer well e =
    let same : r ≡ answer = cc in subst (λ (a : RepairedRecord). IsReadIfAny options a.bytes) same well
well-read options (Err refusal) answer well e = cc

pub taken-refused : (options : ParseOptions) (r : Result RepairedRecord Refusal)
    (answer : Result Repaired ParserError) → AnswersBy repaired_view answer r
    → IsMendedWell options r → IfErr answer IsOfLimits
taken-refused options r (Ok m) a well = tt
taken-refused options r (Err (errors.InvalidData offset message)) a well =
    absurd (well-refused options r _ well a)
taken-refused options r (Err errors.OutOfBounds) a well = absurd (well-refused options r _ well a)
taken-refused options r (Err errors.MismatchingReportId) a well =
    absurd (well-refused options r _ well a)
taken-refused options r (Err errors.OutOfMemory) a well = tt
taken-refused options r (Err (errors.BudgetExceeded offset)) a well = tt

pub taken-read : (options : ParseOptions) (r : Result RepairedRecord Refusal)
    (answer : Result Repaired ParserError) → AnswersBy repaired_view answer r
    → IsMendedWell options r → IfOk answer (λ m. IsReadIfAny options m.bytes.items)
taken-read options r (Ok m) a well = well-read options r (repaired_view m) well a
taken-read options r (Err e) a well = tt

-- the answers of `repair`

repaired-by : (options : ParseOptions) (ps : List PieceRecord)
    (r : Result DescriptorRecord Refusal) (refusal : Refusal)
    → (joined ps ≡ []) ⊎ IsReadUnlessPast r → if_read (repaired_of ps) r ≡ Err refusal
    → IsPast refusal ⊎ LeavesNothing (then_joined (Ok ps))
repaired-by options ps (Ok d) refusal read e = cc
repaired-by options ps (Err f) refusal (inl none) e = inr none
repaired-by options ps (Err f) refusal (inr past) e =
    let same : f ≡ refusal = cc in inl (subst IsPast same past)

repaired-past : (options : ParseOptions) (past : Option ℕ) (ps : Result (List PieceRecord) Refusal)
    (refusal : Refusal) → IsMendedWell options (unless_too_long past (then_joined ps))
    → unless_too_long past (then_read options ps) ≡ Err refusal
    → IsPast refusal ⊎ LeavesNothing (unless_too_long past (then_joined ps))
repaired-past options (Some offset) ps refusal well e =
    let same : BudgetExceeded offset ≡ refusal = cc in inl (subst IsPast same tt)
repaired-past options None (Ok ps) refusal well e =
    repaired-by options ps (parse_as options (joined ps)) refusal well e
repaired-past options None (Err f) refusal well e =
    let same : f ≡ refusal = cc in inl (subst IsPast same well)

repaired-so : (options : RepairOptions) (bytes : List ℕ) (refusal : Refusal)
    → IsMendedWell options.parse (mending options bytes) → repaired options bytes ≡ Err refusal
    → IsPast refusal ⊎ LeavesNothing (mending options bytes)
repaired-so options bytes refusal well e =
    repaired-past options.parse (past_longest options.parse.longest (length bytes))
    (repaired_pieces options bytes) refusal well e

-- the limit's error, or nothing is left
or-nothing : (e : ParserError) (r : Result RepairedRecord Refusal) (refusal : Refusal)
    → (IsPast refusal → IsOfLimits e) → IsPast refusal ⊎ LeavesNothing r
    → IsOfLimits e ⊎ LeavesNothing r
or-nothing e r refusal of (inl past) = inl (of past)
or-nothing e r refusal of (inr none) = inr none

pub repaired-refused : (options : RepairOptions) (bytes : List ℕ)
    (answer : Result Repaired ParserError) → AnswersBy repaired_view answer (repaired options bytes)
    → IsMendedWell options.parse (mending options bytes)
    → IfErr answer (λ e. IsOfLimits e ⊎ LeavesNothing (mending options bytes))
repaired-refused options bytes (Ok m) a well = tt
repaired-refused options bytes (Err (errors.InvalidData offset message)) a well =
    or-nothing (errors.InvalidData offset message) (mending options bytes)
    (InvalidData offset (string_bytes message)) (λ p. p)
    (repaired-so options bytes (InvalidData offset (string_bytes message)) well a)
repaired-refused options bytes (Err errors.OutOfBounds) a well =
    or-nothing errors.OutOfBounds (mending options bytes) OutOfBounds (λ p. p)
    (repaired-so options bytes OutOfBounds well a)
repaired-refused options bytes (Err errors.MismatchingReportId) a well =
    or-nothing errors.MismatchingReportId (mending options bytes) MismatchingReportId (λ p. p)
    (repaired-so options bytes MismatchingReportId well a)
repaired-refused options bytes (Err errors.OutOfMemory) a well = inl tt
repaired-refused options bytes (Err (errors.BudgetExceeded offset)) a well = inl tt
