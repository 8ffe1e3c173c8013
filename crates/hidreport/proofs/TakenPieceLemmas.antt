-- All pieces of a descriptor that hosts take are mended, unless a limit refuses one.
use Rattle.std.proofs.Common.{◌≡◌, ℕ, suc, ◌+◌, ◌≤◌, Bool, true, false}
use Rattle.std.proofs.Common.{◌&&◌, List, [], ◌∷◌, ◌++◌, length, filter_map, Option, None}
use Rattle.std.proofs.Common.{Some, Result, Ok, Err, refl, sym, ap, ◌∙◌, subst, arith}
use Rattle.std.proofs.Common.{append-nil, append_assoc, option_map, option_to_list}
use Rattle.std.specs.List.{cons_option}
use Rattle.std.proofs.lemmas.Bool.{and_parts}
use Rattle.hidreport_items.specs.declared.global.GlobalItem.TheVariants as global
use Rattle.hidreport_items.specs.declared.item.ItemType.{ItemType}
use Rattle.hidreport_items.specs.declared.item.ItemType.TheVariants as item
use Rattle.hidreport_items.specs.declared.main_item.MainItem.TheVariants as main
use Rattle.hidreport_lists.specs.Answer.{Refusal}
use Rattle.hidreport_lists.specs.Mending.{PieceRecord, item_in}
use Rattle.hidreport.specs.ItemState.{first_of}
use Rattle.hidreport.specs.MeaningFault.{MeaningFault, TooManyEnds, TooManyPops}
use Rattle.hidreport.specs.MeaningFault as meaning_fault
use Rattle.hidreport.specs.Parser.Budget.{is_past, left_behind, past_fault}
use Rattle.hidreport.specs.Parser.Budget.{weight_in}
use Rattle.hidreport.specs.Parser.Machine.{StateRecord, fault_held, fault_in}
use Rattle.hidreport.specs.Parser.Machine.{next_state, step, unless_fault}
use Rattle.hidreport.specs.Repair.{all_mended, behind}
use Rattle.hidreport.specs.Repair.{is_missing_usages, mended}
use Rattle.hidreport.specs.Repair.{with_mended}
use Rattle.hidreport.specs.Taken.{IsPast}
use Rattle.hidreport.specs.Taken.{are_taken, has_front, is_moderate, opened_behind, pushes_behind}
use Rattle.hidreport_fields.specs.Tiling.{Each}
use Rattle.hidreport.specs.declared.repairing.repair_options.RepairOptions.{RepairOptions}
use Rattle.hidreport.proofs.OutlineLemmas.{outline}
use Rattle.hidreport.proofs.RepairBitsLemmas.{Goes, mends}
use Rattle.hidreport.proofs.RepairLemmas.{Reached, mended-not, mended-on}
use Rattle.hidreport.proofs.RepairLemmas.{reached-more, stop_held}
use Rattle.hidreport.proofs.SpelledPieceLemmas.{Stands}
use Rattle.hidreport.proofs.TakenLemmas.{Within, no-fault, opened-so, pushes-so}
use Rattle.hidreport.proofs.TakenLemmas.{within-next}
use Rattle.hidreport.proofs.PaddingLemmas.{mended-safe}

-- what hosts ask of an item is the same of its outline

abbrev asks : ℕ → ℕ → ItemType → (Bool × Bool × ℕ × ℕ)
asks pushes opened x = (
  has_front pushes opened x,
  is_moderate x,
  pushes_behind pushes x,
  opened_behind opened x,
)

asks-alike : (pushes opened : ℕ) (x : ItemType)
    → asks pushes opened (outline x) ≡ asks pushes opened x
asks-alike pushes opened (item.Main (main.Input flags)) = refl
asks-alike pushes opened (item.Main (main.Output flags)) = refl
asks-alike pushes opened (item.Main (main.Feature flags)) = refl
asks-alike pushes opened (item.Global (global.LogicalMaximum n)) = refl
asks-alike pushes opened (item.Global (global.PhysicalMaximum n)) = refl
asks-alike pushes opened x = refl

asks-same : (pushes opened : ℕ) (x y : ItemType) → outline y ≡ outline x
    → asks pushes opened y ≡ asks pushes opened x
asks-same pushes opened x y e = sym (asks-alike pushes opened y) ∙ ap (asks pushes opened) e
    ∙ asks-alike pushes opened x

-- all pieces are mended, and the walk over them goes on, unless a limit refuses one
abbrev pub Ended : RepairOptions → List ItemType → Result (List PieceRecord) Refusal → Type 0
Ended options before (Ok qs) =
    Goes options.parse (before ++ filter_map item_in qs) × Each Stands qs
Ended options before (Err refusal) = IsPast refusal

items-joined : (before : List ItemType) (o : Option ItemType) (xs : List ItemType)
    → (before ++ option_to_list o) ++ xs ≡ before ++ cons_option o xs
items-joined before None xs = ap (λ l. l ++ xs) (append-nil before)
items-joined before (Some x) xs = append_assoc before (x ∷ []) xs

ended-more : (options : RepairOptions) (before : List ItemType) (m : PieceRecord)
    (r : Result (List PieceRecord) Refusal) → Stands m → Ended options (behind before m) r
    → Ended options before (with_mended m r)
ended-more options before m (Ok qs) stands ended = (
  subst (Goes options.parse) (items-joined before (item_in m) (filter_map item_in qs)) ended.0,
  (stands, ended.1),
)
ended-more options before m (Err refusal) stands ended = ended

ended-by : (options : RepairOptions) (before : List ItemType) (o : Option ItemType)
    (ps : List PieceRecord) (m : PieceRecord) → item_in m ≡ o
    → Ended options (before ++ option_to_list o)
    (all_mended options (before ++ option_to_list o) ps)
    → Ended options (behind before m) (all_mended options (behind before m) ps)
ended-by options before o ps m is ended = subst
    (λ q. Ended options (before ++ option_to_list q) (all_mended options (before ++ option_to_list q) ps))
    (sym is) ended

-- the rest is mended, behind what is reached
abbrev Later : RepairOptions → List PieceRecord → Type 0
Later options ps = (before : List ItemType) (left : Option ℕ) (h : StateRecord) (k : ℕ)
    → Reached options.parse before left h → Within k h → k + length ps ≤ 65536
    → are_taken (length h.stack) (length h.opened) (filter_map item_in ps) ≡ true
    → Ended options before (all_mended options before ps)

one-more : (options : RepairOptions) (before : List ItemType) (left : Option ℕ) (h : StateRecord)
    (k : ℕ) (p : PieceRecord) (ps : List PieceRecord) (x y : ItemType)
    → Reached options.parse before left h → Within k h → k + suc (length ps) ≤ 65536 → Stands p
    → item_in (mended options before p) ≡ Some y → outline y ≡ outline x
    → are_taken (length h.stack) (length h.opened) (x ∷ filter_map item_in ps) ≡ true
    → Later options ps → Ended options before (all_mended options before (p ∷ ps))
one-more options before left h k p ps x y reached within room stands is same taken later =
    by-past (is_past left (weight_in h y)) refl
  where
    m : PieceRecord
    m = mended options before p

    mend : Stands m
    mend = (mends options before left h p reached stands).stands

    alike : asks (length h.stack) (length h.opened) y ≡ asks (length h.stack) (length h.opened) x
    alike = asks-same (length h.stack) (length h.opened) x y same

    parts : ((has_front (length h.stack) (length h.opened) x && is_moderate x) ≡ true)
        × (are_taken (pushes_behind (length h.stack) x) (opened_behind (length h.opened) x)
        (filter_map item_in ps) ≡ true)
    parts = and_parts (has_front (length h.stack) (length h.opened) x && is_moderate x)
        (are_taken (pushes_behind (length h.stack) x) (opened_behind (length h.opened) x)
        (filter_map item_in ps)) taken

    own : (has_front (length h.stack) (length h.opened) x ≡ true) × (is_moderate x ≡ true)
    own = and_parts (has_front (length h.stack) (length h.opened) x) (is_moderate x) parts.0

    safe : is_missing_usages (fault_in h y) ≡ false
    safe = ap (λ o. is_missing_usages (fault_held h o)) (sym is)
        ∙ mended-safe options before left h p reached stands

    none : fault_in h y ≡ None
    none = no-fault k h y within (omega (arith, room)) (ap (λ t. t.0) alike ∙ own.0) safe

    by-past : (b : Bool) → is_past left (weight_in h y) ≡ b
        → Ended options before (all_mended options before (p ∷ ps))
    by-past true e =
        let stops : stop_held left h (item_in m) ≡ Some meaning_fault.BudgetExceeded =
        ap (stop_held left h) is
        ∙ ap (λ o. first_of o (past_fault (is_past left (weight_in h y)))) none ∙ ap past_fault e in
        subst (Ended options before)
        (sym (mended-not options before left h p m ps meaning_fault.BudgetExceeded reached refl stops))
        tt
    by-past false e =
        let passes : stop_held left h (item_in m) ≡ None = ap (stop_held left h) is
        ∙ ap (λ o. first_of o (past_fault (is_past left (weight_in h y)))) none ∙ ap past_fault e in
        let stepped : step h y ≡ Ok (next_state h y) =
        ap (λ o. unless_fault o (next_state h y)) none in
        let more = reached-more options.parse before left (left_behind left (weight_in h y)) h
        (next_state h y) y reached stepped e refl in
        let rest_taken : are_taken (length (next_state h y).stack) (length (next_state h y).opened)
        (filter_map item_in ps) ≡ true =
        ap (λ n. are_taken n (length (next_state h y).opened) (filter_map item_in ps))
        (pushes-so h y ∙ ap (λ t. t.2) alike)
        ∙ ap (λ n. are_taken (pushes_behind (length h.stack) x) n (filter_map item_in ps))
        (opened-so h y ∙ ap (λ t. t.3) alike) ∙ parts.1 in
        let rest = later (before ++ y ∷ []) (left_behind left (weight_in h y)) (next_state h y)
        (k + 1) more (within-next k h y within (ap (λ t. t.1) alike ∙ own.1))
        (omega (arith, room)) rest_taken in
        subst (Ended options before)
        (sym (mended-on options before left h p m ps reached refl passes))
        (ended-more options before m (all_mended options (behind before m) ps) mend
        (ended-by options before (Some y) ps m is rest))

none-more : (options : RepairOptions) (before : List ItemType) (left : Option ℕ) (h : StateRecord)
    (k : ℕ) (p : PieceRecord) (ps : List PieceRecord)
    → Reached options.parse before left h → Within k h → k + suc (length ps) ≤ 65536 → Stands p
    → item_in (mended options before p) ≡ None
    → are_taken (length h.stack) (length h.opened) (filter_map item_in ps) ≡ true
    → Later options ps → Ended options before (all_mended options before (p ∷ ps))
none-more options before left h k p ps reached within room stands is taken later =
    let m = mended options before p in
    let mend = (mends options before left h p reached stands).stands in
    let passes : stop_held left h (item_in m) ≡ None = ap (stop_held left h) is in
    let rest = later (before ++ []) left h k
    (subst (λ l. Reached options.parse l left h) (sym (append-nil before)) reached) within
    (omega (arith, room)) taken in
    subst (Ended options before) (sym (mended-on options before left h p m ps reached refl passes))
    (ended-more options before m (all_mended options (behind before m) ps) mend
    (ended-by options before None ps m is rest))

by-items : (options : RepairOptions) (before : List ItemType) (left : Option ℕ) (h : StateRecord)
    (k : ℕ) (p : PieceRecord) (ps : List PieceRecord) (o q : Option ItemType)
    → Reached options.parse before left h → Within k h → k + suc (length ps) ≤ 65536 → Stands p
    → item_in (mended options before p) ≡ q → option_map outline q ≡ option_map outline o
    → are_taken (length h.stack) (length h.opened) (cons_option o (filter_map item_in ps)) ≡ true
    → Later options ps → Ended options before (all_mended options before (p ∷ ps))
by-items options before left h k p ps None None reached within room stands is same taken later =
    none-more options before left h k p ps reached within room stands is taken later
by-items options before left h k p ps None (Some y) reached within room stands is same taken later =
    cc
by-items options before left h k p ps (Some x) None reached within room stands is same taken later =
    cc
by-items options before left h k p ps (Some x) (Some y) reached within room stands is same taken
    later =
    let alike : outline y ≡ outline x = cc in
    one-more options before left h k p ps x y reached within room stands is alike taken later

pub all-ended : (options : RepairOptions) (before : List ItemType) (left : Option ℕ) (h : StateRecord)
    (k : ℕ) (ps : List PieceRecord) → Reached options.parse before left h → Within k h
    → k + length ps ≤ 65536 → Each Stands ps
    → are_taken (length h.stack) (length h.opened) (filter_map item_in ps) ≡ true
    → Ended options before (all_mended options before ps)
all-ended options before left h k [] reached within room stand taken = (
  record {
    left = left;
    state = h;
    reached = subst (λ l. Reached options.parse l left h) (sym (append-nil before)) reached;
  },
  tt,
)
all-ended options before left h k (p ∷ ps) reached within room stand taken =
    by-items options before left h k p ps (item_in p) (item_in (mended options before p)) reached
    within room stand.0 refl (mends options before left h p reached stand.0).outlines taken
    (λ b l g n more_reached more_within more_room more_taken. all-ended options b l g n ps
    more_reached more_within more_room stand.1 more_taken)
