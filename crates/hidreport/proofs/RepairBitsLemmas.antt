-- Repaired bytes are items that lie where those lie which hid-core reads.
use Rattle.std.proofs.Common.{◌≡◌, ◌≢◌, ℕ, Bool, true, false, cond, List, [], ◌∷◌, ◌++◌, length, map}
use Rattle.std.proofs.Common.{filter_map, option_map, option_to_list, Option, None, Some, Result, Ok}
use Rattle.std.proofs.Common.{Err, IfOk, IsOk, refl, sym, ap, ◌∙◌, subst, append-nil}
use Rattle.std.specs.Prelude.{◌==◌, nat_le, pos}
use Rattle.std.specs.List.{cons_option}
use Rattle.hidreport_items.specs.Answer.{GrammarFault}
use Rattle.hidreport_items.specs.Flags.{flags_of}
use Rattle.hidreport_items.specs.Spelling.{AreBytes}
use Rattle.hidreport_items.specs.declared.global.GlobalItem.TheVariants as global
use Rattle.hidreport_items.specs.declared.item.ItemType.{ItemType}
use Rattle.hidreport_items.specs.declared.item.ItemType.TheVariants as item
use Rattle.hidreport_items.specs.declared.main_item.MainItem.TheVariants as main
use Rattle.hidreport_lists.specs.Answer.{AnswersBy, Refusal}
use Rattle.hidreport_lists.specs.Entry.{Spelled}
use Rattle.hidreport_lists.specs.Itemising.{as_refusal}
use Rattle.hidreport_lists.specs.Mending.{PieceRecord, item_in, pieces, standing_bytes}
use Rattle.hidreport_lists.specs.Rebuilt.{items_of}
use Rattle.hidreport_lists.specs.declared.error.ParserError.{ParserError}
use Rattle.hidreport_lists.specs.declared.mending.Reason.TheVariants as reason
use Rattle.hidreport.specs.Faults.{Counts, id_count, item_fault}
use Rattle.hidreport.specs.ItemState.{ItemState}
use Rattle.hidreport.specs.Meaning.{InForce}
use Rattle.hidreport.specs.MeaningFault.{MeaningFault, TooManyEnds, TooManyPops}
use Rattle.hidreport.specs.Options.{parse_as, parse_limited, past_longest, reading_of, unless_too_long}
use Rattle.hidreport.specs.Parser.Budget.{is_past, left_behind, weight_in}
use Rattle.hidreport.specs.Parser.Machine.{StateRecord, counts_in, fault_held, fault_in, first_state}
use Rattle.hidreport.specs.Parser.Machine.{next_state, step}
use Rattle.hidreport.specs.Parser.Machine.{unless_fault}
use Rattle.hidreport_fields.specs.Records.{DescriptorRecord}
use Rattle.hidreport.specs.Repair.{RepairedRecord, all_mended, behind, constant_bytes, fault_at}
use Rattle.hidreport.specs.Repair.{if_read, is_meant_unsigned, is_missing_usages, joined, mended}
use Rattle.hidreport.specs.Repair.{padded_by, repaired, repaired_of, repaired_pieces, repaired_view}
use Rattle.hidreport.specs.Repair.{rewritten, then_mended, then_read, if_faultless, wider_bytes}
use Rattle.hidreport.specs.Repair.{widened, widened_in, with_mended}
use Rattle.hidreport.specs.RepairLaws.{KeepsBits}
use Rattle.hidreport_fields.specs.Tiling.{Each}
use Rattle.hidreport.specs.declared.parse_options.ParseOptions.{ParseOptions}
use Rattle.hidreport.specs.declared.repairing.change.Repaired.{Repaired}
use Rattle.hidreport.specs.declared.repairing.repair_options.RepairOptions.{RepairOptions}
use Rattle.hidreport.proofs.KindLemmas.{kind}
use Rattle.hidreport.proofs.MendedPieceLemmas.{Mends, mends-constant, mends-itself, mends-wider}
use Rattle.hidreport.proofs.OutlineLemmas.{outline, same-places}
use Rattle.hidreport.proofs.RepairLemmas.{Reached, fault-stop, missing-stop, reached-more}
use Rattle.hidreport.proofs.RepairLemmas.{reached-none, stop_held}
use Rattle.hidreport.proofs.SpelledPieceLemmas.{IsSpelled, Stands, entries_in, pieces-stand}
use Rattle.hidreport.proofs.SpelledPieceLemmas.{written-pieces}
use Rattle.hidreport.proofs.UntouchedLemmas.{accepts, stop-none}
use Rattle.hidreport.proofs.UsageFaultLemmas.{collection-other}

-- what a mend is for: a maximum, or a data item

-- the item is one of which the header says the whole outline
abbrev IsKnown : ItemType → Type 0
IsKnown x = (z : ItemType) × (kind x ≡ Some z)

maximum-known : (f : ItemState) (x : ItemType) → is_meant_unsigned f (Some x) ≡ true → IsKnown x
maximum-known f (item.Global (global.LogicalMaximum n)) e =
    (item.Global (global.LogicalMaximum (pos 0)), refl)
maximum-known f (item.Global (global.PhysicalMaximum n)) e =
    (item.Global (global.PhysicalMaximum (pos 0)), refl)
maximum-known f x e = cc

choice-other : (b : Bool) (f : MeaningFault) → is_missing_usages (Some f) ≡ false
    → is_missing_usages (cond b (Some f) None) ≡ false
choice-other true f e = e
choice-other false f e = refl

data-known : (n : Counts) (f : ItemState) (x : ItemType)
    → is_missing_usages (item_fault n f x) ≡ true → IsKnown x
data-known n f (item.Global global.Pop) e =
    let other : is_missing_usages (item_fault n f (item.Global global.Pop)) ≡ false =
    choice-other (n.level == 0) TooManyPops refl in cc
data-known n f (item.Global g) e = cc
data-known n f (item.Main main.EndCollection) e =
    let other : is_missing_usages (item_fault n f (item.Main main.EndCollection)) ≡ false =
    choice-other (n.depth == 0) TooManyEnds refl in cc
data-known n f (item.Main (main.Collection kind)) e =
    let other : is_missing_usages (item_fault n f (item.Main (main.Collection kind))) ≡ false =
    collection-other f (nat_le id_count n.collections) in cc
data-known n f (item.Main (main.Input flags)) e = (item.Main (main.Input (flags_of 0)), refl)
data-known n f (item.Main (main.Output flags)) e = (item.Main (main.Output (flags_of 0)), refl)
data-known n f (item.Main (main.Feature flags)) e = (item.Main (main.Feature (flags_of 0)), refl)
data-known n f (item.Local l) e = cc
data-known n f item.Long e = cc
data-known n f item.Reserved e = cc

-- each mend

widens-by : (b : Bool) (f : ItemState) (p : PieceRecord) (o : Option Spelled) → p.stands ≡ o
    → is_meant_unsigned f (item_in p) ≡ b → Stands p
    → Mends p (cond b (rewritten reason.UnsignedMaximum p (wider_bytes (standing_bytes p.stands))) p)
widens-by false f p o is meant stands = mends-itself p stands
widens-by true f p None is meant stands =
    let none : is_meant_unsigned f (item_in p) ≡ false =
    ap (λ (s : Option Spelled). is_meant_unsigned f (option_map (λ (t : Spelled). t.item) s)) is in
    cc
widens-by true f p (Some s) is meant stands =
    let known = maximum-known f s.item
    (sym (ap (λ (t : Option Spelled). is_meant_unsigned f (option_map (λ (u : Spelled). u.item) t))
    is) ∙ meant) in
    subst (λ (t : Option Spelled). Mends p
    (rewritten reason.UnsignedMaximum p (wider_bytes (standing_bytes t)))) (sym is)
    (mends-wider p s.bytes s.item known.0 is (subst IsSpelled is stands) known.1 stands)

pub widens : (asked : Bool) (f : ItemState) (p : PieceRecord) → Stands p
    → Mends p (widened_in asked f p)
widens true f p stands = widens-by (is_meant_unsigned f (item_in p)) f p p.stands refl refl stands
widens false f p stands = mends-itself p stands

pads-by : (b : Bool) (left : Option ℕ) (h : StateRecord) (p : PieceRecord) (o : Option Spelled)
    → p.stands ≡ o → is_missing_usages (fault_held h (item_in p)) ≡ b → Stands p
    → Mends p (cond b (rewritten reason.NoUsage p (constant_bytes (standing_bytes p.stands))) p)
pads-by false left h p o is missing stands = mends-itself p stands
pads-by true left h p None is missing stands =
    let none : is_missing_usages (fault_held h (item_in p)) ≡ false =
    ap (λ (s : Option Spelled). is_missing_usages
    (fault_held h (option_map (λ (t : Spelled). t.item) s))) is in cc
pads-by true left h p (Some s) is missing stands =
    let known = data-known (counts_in h s.item) h.item_state s.item
    (sym (ap (λ (t : Option Spelled). is_missing_usages
    (fault_held h (option_map (λ (u : Spelled). u.item) t))) is) ∙ missing) in
    subst (λ (t : Option Spelled). Mends p
    (rewritten reason.NoUsage p (constant_bytes (standing_bytes t)))) (sym is)
    (mends-constant p s.bytes s.item known.0 is (subst IsSpelled is stands) known.1 stands)

pads : (options : ParseOptions) (before : List ItemType) (left : Option ℕ) (h : StateRecord)
    (p : PieceRecord) → Reached options before left h → Stands p
    → Mends p (padded_by (fault_at options before p) p)
pads options before left h p reached stands =
    pads-by (is_missing_usages (fault_at options before p)) left h p p.stands refl
    (sym (ap is_missing_usages (fault-stop options before left h p reached)
    ∙ missing-stop left h (item_in p))) stands

pub mends : (options : RepairOptions) (before : List ItemType) (left : Option ℕ) (h : StateRecord)
    (p : PieceRecord) → Reached options.parse before left h → Stands p
    → Mends p (mended options before p)
mends options before left h p reached stands =
    let w = widened options before p in
    let first = widens options.unsigned_maxima
    (reading_of options.parse before (length before)) p stands in
    let second = pads options.parse before left h w reached first.stands in
    record { outlines = second.outlines ∙ first.outlines; stands = second.stands }

-- the walk over the mended pieces goes on

pub record Goes (options : ParseOptions) (before : List ItemType) : Type 0 where
  pub left : Option ℕ
  pub state : StateRecord
  pub reached : Reached options before left state

pub goes-by : (options : ParseOptions) (before : List ItemType) (left : Option ℕ) (h : StateRecord)
    (o : Option ItemType) → Reached options before left h → stop_held left h o ≡ None
    → Goes options (before ++ option_to_list o)
goes-by options before left h None reached passes = record {
  left = left;
  state = h;
  reached = subst (λ l. Reached options l left h) (sym (append-nil before)) reached;
}
goes-by options before left h (Some x) reached passes =
    let fits = stop-none (fault_in h x) (is_past left (weight_in h x)) passes in
    let stepped : step h x ≡ Ok (next_state h x) =
    ap (λ o. unless_fault o (next_state h x)) fits.0 in
    record {
      left = left_behind left (weight_in h x);
      state = next_state h x;
      reached = reached-more options before left (left_behind left (weight_in h x)) h
          (next_state h x) x reached stepped fits.1 refl;
    }

-- all of them

outlines-more : (o p : Option ItemType) (xs ys : List ItemType)
    → option_map outline o ≡ option_map outline p → map outline xs ≡ map outline ys
    → map outline (cons_option o xs) ≡ map outline (cons_option p ys)
outlines-more None None xs ys e rest = rest
outlines-more None (Some y) xs ys e rest = cc
outlines-more (Some x) None xs ys e rest = cc
outlines-more (Some x) (Some y) xs ys e rest =
    let same : outline x ≡ outline y = cc in
    ap (λ z. z ∷ map outline xs) same ∙ ap (λ l. outline y ∷ l) rest

-- the pieces have the outlines of those, and stand in bytes that spell them
record AllMend (ps qs : List PieceRecord) : Type 0 where
  outlines : map outline (filter_map item_in qs) ≡ map outline (filter_map item_in ps)
  stand : Each Stands qs

all-mend : (options : RepairOptions) (before : List ItemType) (left : Option ℕ) (h : StateRecord)
    (ps qs : List PieceRecord) → Reached options.parse before left h → Each Stands ps
    → all_mended options before ps ≡ Ok qs → AllMend ps qs
all-mend options before left h [] qs reached stand e =
    let none : [] ≡ qs = cc in
    subst (AllMend []) none (record { outlines = refl; stand = tt })
all-mend options before left h (p ∷ ps) qs reached stand e =
    let m = mended options before p in
    by-fault (fault_at options.parse before m) (all_mended options (behind before m) ps) refl e
    (λ goes more f. all-mend options (behind before m) goes.left goes.state ps more goes.reached
    stand.1 f)
  where
    by-fault : (o : Option MeaningFault) (rest : Result (List PieceRecord) Refusal)
        → fault_at options.parse before (mended options before p) ≡ o
        → if_faultless o p.offset (with_mended (mended options before p) rest) ≡ Ok qs
        → (Goes options.parse (behind before (mended options before p))
        → (more : List PieceRecord) → rest ≡ Ok more → AllMend ps more)
        → AllMend (p ∷ ps) qs
    by-fault (Some f) rest none whole later = cc
    by-fault None (Err refusal) none whole later = cc
    by-fault None (Ok more) none whole later =
        let m = mended options before p in
        let all : m ∷ more ≡ qs = cc in
        let first = mends options before left h p reached stand.0 in
        let passes : stop_held left h (item_in m) ≡ None =
        sym (fault-stop options.parse before left h m reached) ∙ none in
        let rest_mend = later (goes-by options.parse before left h (item_in m) reached passes) more
        refl in
        subst (AllMend (p ∷ ps)) all (record {
          outlines = outlines-more (item_in m) (item_in p) (filter_map item_in more)
              (filter_map item_in ps) first.outlines rest_mend.outlines;
          stand = (first.stands, rest_mend.stand);
        })

-- nothing is no descriptor
none-read : (past limit : Option ℕ) (reading : InForce)
    → IsOk (unless_too_long past (parse_limited reading limit [])) → ⊥
none-read None None reading ok = cc
none-read None (Some limit) reading ok = cc
none-read (Some offset) limit reading ok = cc

some-bytes : (options : ParseOptions) (bytes : List ℕ) → IsOk (parse_as options bytes) → bytes ≢ []
some-bytes options bytes ok none = none-read (past_longest options.longest 0) options.limit
    (reading_of options)
    (subst (λ l. IsOk (parse_as options l)) none ok)

pieces-keep : (options : RepairOptions) (bytes : List ℕ) (ps qs : List PieceRecord)
    (r : RepairedRecord) → AreBytes bytes → pieces options.leave_out_cut_short bytes ≡ Ok ps
    → all_mended options [] ps ≡ Ok qs → joined qs ≡ r.bytes → r.bytes ≢ []
    → KeepsBits options bytes r
pieces-keep options bytes ps qs r are cut mended_so is some =
    let mend_all = all-mend options [] options.parse.limit (first_state options.parse)
    ps qs (reached-none options.parse)
    (pieces-stand options.leave_out_cut_short bytes ps are cut) mended_so in
    let written = written-pieces 0 qs mend_all.stand in
    record {
      read = ps;
      reads = cut;
      entries = entries_in 0 qs;
      written = record {
        some = some;
        whole = written.whole ∙ is;
        each = written.each;
        offsets = written.offsets;
      };
      places = same-places options.parse (filter_map item_in ps)
          (items_of (entries_in 0 qs))
          (sym (ap (map outline) written.items_are ∙ mend_all.outlines));
    }

by-pieces : (options : RepairOptions) (bytes : List ℕ) (r : RepairedRecord)
    (cut : Result (List PieceRecord) (ℕ × GrammarFault)) → AreBytes bytes
    → pieces options.leave_out_cut_short bytes ≡ cut
    → then_read options.parse (then_mended options (as_refusal cut)) ≡ Ok r
    → r.bytes ≢ [] → KeepsBits options bytes r
by-pieces options bytes r (Err fault) are cut e some = cc
by-pieces options bytes r (Ok ps) are cut e some = by-mended (all_mended options [] ps) refl e
  where
    by-mended : (mended_so : Result (List PieceRecord) Refusal)
        → all_mended options [] ps ≡ mended_so → then_read options.parse mended_so ≡ Ok r
        → KeepsBits options bytes r
    by-mended (Err refusal) is whole = cc
    by-mended (Ok qs) is whole = by-read (parse_as options.parse (joined qs)) whole where
      by-read : (read : Result DescriptorRecord Refusal) → if_read (repaired_of qs) read ≡ Ok r
          → KeepsBits options bytes r
      by-read (Err refusal) so = cc
      by-read (Ok d) so =
          let same : repaired_of qs ≡ r = cc in
          pieces-keep options bytes ps qs r are cut is
          (ap (λ (x : RepairedRecord). x.bytes) same) some

past-keeps : (past : Option ℕ) (options : RepairOptions) (bytes : List ℕ) (r : RepairedRecord)
    → AreBytes bytes
    → unless_too_long past (then_read options.parse (repaired_pieces options bytes)) ≡ Ok r
    → r.bytes ≢ [] → KeepsBits options bytes r
past-keeps None options bytes r are e some =
    by-pieces options bytes r (pieces options.leave_out_cut_short bytes) are refl e some
past-keeps (Some offset) options bytes r are e some = cc

pub repair-keeps-bits : (options : RepairOptions) (bytes : List ℕ)
    (answer : Result Repaired ParserError) → AreBytes bytes
    → AnswersBy repaired_view answer (repaired options bytes)
    → IfOk answer (λ r. KeepsBits options bytes (repaired_view r))
repair-keeps-bits options bytes (Ok r) are a =
    past-keeps (past_longest options.parse.longest (length bytes)) options bytes (repaired_view r)
    are a (some-bytes options.parse (repaired_view r).bytes
    (accepts options bytes (repaired_view r) a))
repair-keeps-bits options bytes (Err e) are a = tt
