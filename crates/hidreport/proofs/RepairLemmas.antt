-- Each piece mended behind those before it: the parser's state is that of the items so far.
use Rattle.std.proofs.Common.{◌≡◌, ℕ, suc, ◌+◌, Bool, true, false, cond, List, [], ◌∷◌, ◌++◌, length}
use Rattle.std.proofs.Common.{Option, None, Some, Result, Ok, Err, refl, sym, ap, ◌∙◌, subst, arith}
use Rattle.std.proofs.Common.{append-nil, append_assoc, option_to_list, ◌<◌, drop, filter_map}
use Rattle.std.proofs.Common.{get_or, set, take}
use Rattle.std.proofs.Math.Seq.{drop-cons, take-suc}
use Rattle.std.proofs.lemmas.List.{drop-set-lt, length-set, take_more_set}
use Rattle.std.proofs.lemmas.List.Elements.{filter_map-append}
use Rattle.std.proofs.lemmas.Grind.{common_steps}
use Rattle.hidreport_items.specs.declared.item.ItemType.{ItemType}
use Rattle.hidreport_lists.specs.Answer.{Refusal}
use Rattle.hidreport_lists.specs.Mending.{PieceRecord, item_in, standing_bytes}
use Rattle.hidreport_lists.specs.declared.mending.Reason.TheVariants as reason
use Rattle.hidreport.specs.ItemState.{ItemState, first_of}
use Rattle.hidreport.specs.Meaning.{InForce, refusal_at}
use Rattle.hidreport.specs.MeaningFault.{MeaningFault}
use Rattle.hidreport.specs.Options.{meaning_as, reading_of}
use Rattle.hidreport.specs.Parser.Budget.{is_past, left_behind, past_fault, stop_in, walk_within}
use Rattle.hidreport.specs.Parser.Budget.{weight_in}
use Rattle.hidreport.specs.Parser.Machine.{StateRecord, fault_held, fault_in, first_state, go_on, start_by}
use Rattle.hidreport.specs.Parser.Machine.{next_state, step, unless_fault}
use Rattle.hidreport.specs.Parser.Mended.{mended_in, padded_in}
use Rattle.hidreport.specs.Repair.{all_mended, behind, change_in, constant_bytes, fault_at}
use Rattle.hidreport.specs.Repair.{is_missing_usages, mended, named_fault, padded_by, rewritten}
use Rattle.hidreport.specs.Repair.{widened, widened_in, with_mended}
use Rattle.hidreport.specs.Repair.{if_faultless}
use Rattle.hidreport.specs.declared.parse_options.ParseOptions.{ParseOptions}
use Rattle.hidreport.specs.declared.parser.push_keeps.PushKeeps.{PushKeeps}
use Rattle.hidreport.specs.declared.parser.usages_by.UsagesBy.{UsagesBy}
use Rattle.hidreport.specs.declared.repairing.repair_options.RepairOptions.{RepairOptions}
use Rattle.hidreport.proofs.BudgetWalkLemmas.{meaning-walk}
use Rattle.hidreport.proofs.PushReadings.{kept_stack, reading-follows}
use Rattle.hidreport.proofs.ParseLemmas.{goes-on}
use Rattle.hidreport.proofs.WalkLemmas.{Follows, Holds, holds-next, holds-nothing}

-- what is held behind these items, or the fault of one of them
abbrev pub then_run : Result StateRecord MeaningFault
    → (StateRecord → Result StateRecord MeaningFault) → Result StateRecord MeaningFault
then_run (Ok h) rest = rest h
then_run (Err f) rest = Err f

abbrev pub run : StateRecord → List ItemType → Result StateRecord MeaningFault
run h [] = Ok h
run h (x ∷ xs) = then_run (step h x) (λ next. run next xs)

run-more : (h g next : StateRecord) (xs : List ItemType) (x : ItemType) → run h xs ≡ Ok g
    → step g x ≡ Ok next → run h (xs ++ x ∷ []) ≡ Ok next
run-more h g next [] x ran stepped =
    let same : h ≡ g = cc in
    ap (λ (s : StateRecord). then_run (step s x) (λ n. Ok n)) same
    ∙ ap (λ r. then_run r (λ n. Ok n)) stepped
run-more h g next (y ∷ ys) x ran stepped =
    by-step (step h y) ran (λ n more. run-more n g next ys x more stepped)
  where
    by-step : (r : Result StateRecord MeaningFault)
        → then_run r (λ n. run n ys) ≡ Ok g
        → ((n : StateRecord) → run n ys ≡ Ok g → run n (ys ++ x ∷ []) ≡ Ok next)
        → then_run r (λ n. run n (ys ++ x ∷ [])) ≡ Ok next
    by-step (Ok n) more rest = rest n more
    by-step (Err f) more rest = cc

-- an item that is stepped over has no fault
stepped-so : (o : Option MeaningFault) (h next : StateRecord) → unless_fault o h ≡ Ok next
    → (o ≡ None) × (next ≡ h)
stepped-so None h next e = (refl, cc)
stepped-so (Some f) h next e = cc

-- what is held is what the definitions say
run-holds : (push_keeps : PushKeeps) (by : UsagesBy) (state : ℕ → ItemState) (saved : ℕ → List ItemState)
    (items front rest : List ItemType) (h g : StateRecord) → Follows push_keeps by state saved items
    → h.push_keeps ≡ push_keeps → items ≡ front ++ rest → Holds state saved items (length front) h
    → run h rest ≡ Ok g → Holds state saved items (length items) g
run-holds push_keeps by state saved items front [] h g follows reads e held ran =
    let whole : items ≡ front = e ∙ append-nil front in
    let same : h ≡ g = cc in
    subst (λ s. Holds state saved items (length items) s) same
    (subst (λ n. Holds state saved items n h) (ap length (sym whole)) held)
run-holds push_keeps by state saved items front (x ∷ xs) h g follows reads e held ran =
    by-step (step h x) refl ran
    (λ n keeps held_next more. run-holds push_keeps by state saved items (front ++ x ∷ []) xs n g
    follows keeps (e ∙ sym (append_assoc front (x ∷ []) xs)) held_next more)
  where
    by-step : (r : Result StateRecord MeaningFault) → step h x ≡ r
        → then_run r (λ n. run n xs) ≡ Ok g
        → ((n : StateRecord) → n.push_keeps ≡ push_keeps
        → Holds state saved items (length (front ++ x ∷ [])) n → run n xs ≡ Ok g
        → Holds state saved items (length items) g)
        → Holds state saved items (length items) g
    by-step (Ok n) stepped more rest =
        let so = stepped-so (fault_in h x) (next_state h x) n stepped in
        let size : length (front ++ x ∷ []) ≡ suc (length front) = grind (arith, common_steps) in
        let next = holds-next push_keeps by state saved items front xs h x follows reads e held so.0 in
        rest n (ap (λ (s : StateRecord). s.push_keeps) so.1 ∙ reads)
        (subst (λ s. Holds state saved items (length (front ++ x ∷ [])) s) (sym so.1)
        (subst (λ k. Holds state saved items k (next_state h x)) (sym size) next)) more
    by-step (Err f) stepped more rest = cc

run-state : (push_keeps : PushKeeps) (by : UsagesBy) (reading : InForce) (saved : ℕ → List ItemState)
    (items : List ItemType) (g : StateRecord) → Follows push_keeps by (reading items) saved items
    → run (start_by push_keeps by) items ≡ Ok g → g.item_state ≡ reading items (length items)
run-state push_keeps by reading saved items g follows ran =
    (run-holds push_keeps by (reading items) saved items [] items (start_by push_keeps by) g follows refl
    refl (holds-nothing push_keeps by (reading items) saved items follows) ran).item_states

-- what is in force behind the items, by the reading that is asked for
pub state-held : (options : ParseOptions) (items : List ItemType) (g : StateRecord)
    → run (first_state options) items ≡ Ok g
    → g.item_state ≡ reading_of options items (length items)
state-held options items g ran =
    let push_keeps = options.push_keeps in
    let by = options.usages in
    run-state push_keeps by (reading_of options) (kept_stack push_keeps by items) items g
    (reading-follows push_keeps by items) ran

-- this is held and left behind these items
pub record Reached (options : ParseOptions) (before : List ItemType) (left : Option ℕ)
    (h : StateRecord) : Type 0 where
  pub walk : (xs : List ItemType)
      → walk_within options.limit (first_state options) 0 (before ++ xs)
      ≡ walk_within left h (length before) xs
  pub ran : run (first_state options) before ≡ Ok h

pub reached-none : (options : ParseOptions)
    → Reached options [] options.limit (first_state options)
reached-none options = record { walk = λ xs. refl; ran = refl }

pub reached-more : (options : ParseOptions) (before : List ItemType) (left more : Option ℕ)
    (h next : StateRecord) (x : ItemType) → Reached options before left h
    → step h x ≡ Ok next → is_past left (weight_in h x) ≡ false
    → more ≡ left_behind left (weight_in h x) → Reached options (before ++ x ∷ []) more next
reached-more options before left more h next x reached stepped within is = record {
  walk = λ xs.
      let size : length before + 1 ≡ length (before ++ x ∷ []) = grind (arith, common_steps) in
      ap (walk_within options.limit (first_state options) 0)
      (append_assoc before (x ∷ []) xs)
      ∙ reached.walk (x ∷ xs)
      ∙ ap (λ r. go_on r (length before) (λ n. walk_within (left_behind left (weight_in h x)) n
      (length before + 1) xs))
      (goes-on left h next x (fault_in h x) refl stepped within)
      ∙ ap (λ l. walk_within l next (length before + 1) xs) (sym is)
      ∙ ap (λ k. walk_within more next k xs) size;
  ran = run-more (first_state options) h next before x reached.ran stepped;
}

-- what stops the walk at an item that may be missing
abbrev pub stop_held : Option ℕ → StateRecord → Option ItemType → Option MeaningFault
stop_held left h None = None
stop_held left h (Some x) = stop_in left h x

stop-by : (s : Option MeaningFault) (left : Option ℕ) (h : StateRecord) (k : ℕ) (x : ItemType)
    → stop_in left h x ≡ s → named_fault (walk_within left h k (x ∷ [])) ≡ s
stop-by None left h k x e =
    ap (λ o. named_fault (go_on (unless_fault o (next_state h x)) k
    (λ n. walk_within (left_behind left (weight_in h x)) n (k + 1) []))) e
stop-by (Some f) left h k x e =
    ap (λ o. named_fault (go_on (unless_fault o (next_state h x)) k
    (λ n. walk_within (left_behind left (weight_in h x)) n (k + 1) []))) e

fault-by : (options : ParseOptions) (before : List ItemType) (left : Option ℕ) (h : StateRecord)
    (p : PieceRecord) (o : Option ItemType) → Reached options before left h → item_in p ≡ o
    → fault_at options before p ≡ stop_held left h o
fault-by options before left h p None reached e =
    ap (λ i. named_fault (meaning_as options (before ++ option_to_list i))) e
    ∙ ap named_fault (meaning-walk options (before ++ []) ∙ reached.walk [])
fault-by options before left h p (Some x) reached e =
    ap (λ i. named_fault (meaning_as options (before ++ option_to_list i))) e
    ∙ ap named_fault (meaning-walk options (before ++ x ∷ []) ∙ reached.walk (x ∷ []))
    ∙ stop-by (stop_in left h x) left h (length before) x refl

-- the fault of a piece is what stops the walk at its item
pub fault-stop : (options : ParseOptions) (before : List ItemType) (left : Option ℕ)
    (h : StateRecord) (p : PieceRecord) → Reached options before left h
    → fault_at options before p ≡ stop_held left h (item_in p)
fault-stop options before left h p reached =
    fault-by options before left h p (item_in p) reached refl

missing-past : (o : Option MeaningFault) (b : Bool)
    → is_missing_usages (first_of o (past_fault b)) ≡ is_missing_usages o
missing-past (Some f) b = refl
missing-past None true = refl
missing-past None false = refl

-- the limit has no part in that usages are missing
pub missing-stop : (left : Option ℕ) (h : StateRecord) (o : Option ItemType)
    → is_missing_usages (stop_held left h o) ≡ is_missing_usages (fault_held h o)
missing-stop left h None = refl
missing-stop left h (Some x) = missing-past (fault_in h x) (is_past left (weight_in h x))

padded-same : (a b : Option MeaningFault) (w : PieceRecord)
    → is_missing_usages a ≡ is_missing_usages b → padded_by a w ≡ padded_by b w
padded-same a b w missing = ap (λ c. cond c (rewritten reason.NoUsage w
    (constant_bytes (standing_bytes w.stands))) w) missing

-- what the parser makes of a piece is what is defined
pub mended-so : (options : RepairOptions) (before : List ItemType) (left : Option ℕ)
    (h : StateRecord) (p : PieceRecord) → Reached options.parse before left h
    → mended_in options.unsigned_maxima h p ≡ mended options before p
mended-so options before left h p reached =
    let wide : widened_in options.unsigned_maxima h.item_state p ≡ widened options before p =
    ap (λ f. widened_in options.unsigned_maxima f p)
    (state-held options.parse before h reached.ran) in
    let w = widened options before p in
    ap (padded_in h) wide
    ∙ padded-same (fault_held h (item_in w)) (fault_at options.parse before w) w
    (sym (ap is_missing_usages (fault-stop options.parse before left h w reached)
    ∙ missing-stop left h (item_in w)))

-- the pieces before, and then those of the rest
abbrev pub with_done : List PieceRecord → Result (List PieceRecord) Refusal
    → Result (List PieceRecord) Refusal
with_done front (Ok ps) = Ok (front ++ ps)
with_done front (Err refusal) = Err refusal

pub with_done-more : (front : List PieceRecord) (p : PieceRecord)
    (r : Result (List PieceRecord) Refusal)
    → with_done (front ++ p ∷ []) r ≡ with_done front (with_mended p r)
with_done-more front p (Ok ps) = ap Ok (append_assoc front (p ∷ []) ps)
with_done-more front p (Err refusal) = refl

-- a piece that has no fault where it stands comes before the rest
pub mended-on : (options : RepairOptions) (before : List ItemType) (left : Option ℕ)
    (h : StateRecord) (p m : PieceRecord) (ps : List PieceRecord)
    → Reached options.parse before left h → m ≡ mended options before p
    → stop_held left h (item_in m) ≡ None
    → all_mended options before (p ∷ ps)
    ≡ with_mended m (all_mended options (behind before m) ps)
mended-on options before left h p m ps reached is passes =
    let none : fault_at options.parse before (mended options before p) ≡ None =
    ap (fault_at options.parse before) (sym is)
    ∙ fault-stop options.parse before left h m reached ∙ passes in
    ap (λ o. if_faultless o p.offset (with_mended (mended options before p)
    (all_mended options (behind before (mended options before p)) ps))) none
    ∙ ap (λ v. with_mended v (all_mended options (behind before v) ps)) (sym is)

-- a piece that has a fault is refused
pub mended-not : (options : RepairOptions) (before : List ItemType) (left : Option ℕ)
    (h : StateRecord) (p m : PieceRecord) (ps : List PieceRecord) (f : MeaningFault)
    → Reached options.parse before left h → m ≡ mended options before p
    → stop_held left h (item_in m) ≡ Some f
    → all_mended options before (p ∷ ps) ≡ Err (refusal_at p.offset f)
mended-not options before left h p m ps f reached is stops =
    let some : fault_at options.parse before (mended options before p) ≡ Some f =
    ap (fault_at options.parse before) (sym is)
    ∙ fault-stop options.parse before left h m reached ∙ stops in
    ap (λ o. if_faultless o p.offset (with_mended (mended options before p)
    (all_mended options (behind before (mended options before p)) ps))) some

-- one more piece, and what it gives, if anything
one-mapped : {X Y : Type 0} (f : X → Option Y) (x : X)
    → filter_map f (x ∷ []) ≡ option_to_list (f x)
one-mapped {X} {Y} f x = by-value (f x) refl
  where
    by-value : (o : Option Y) → f x ≡ o → filter_map f (x ∷ []) ≡ option_to_list o
    by-value None e = simp e refl
    by-value (Some y) e = simp e refl

pub items-more : (front : List PieceRecord) (p : PieceRecord)
    → filter_map item_in (front ++ p ∷ []) ≡ behind (filter_map item_in front) p
items-more front p = filter_map-append item_in front (p ∷ [])
    ∙ ap (λ l. filter_map item_in front ++ l) (one-mapped item_in p)

-- the piece at an index, and those behind it
pub at-index : (pieces initial : List PieceRecord) (i : ℕ) (p d : PieceRecord)
    → i < length initial → length pieces ≡ length initial → drop i pieces ≡ drop i initial
    → p ≡ get_or pieces i d
    → (drop i initial ≡ p ∷ drop (i + 1) initial) × (drop (i + 1) pieces ≡ drop (i + 1) initial)
at-index pieces initial i p d within size same is =
    let one : suc i ≡ i + 1 = omega arith in
    let inside : i < length pieces = omega (arith, within, size) in
    let now : drop i pieces ≡ p ∷ drop (i + 1) pieces = drop-cons pieces i d inside
    ∙ ap (λ q. q ∷ drop (suc i) pieces) (sym is) ∙ ap (λ k. p ∷ drop k pieces) one in
    let then : drop i initial ≡ get_or initial i p ∷ drop (i + 1) initial =
    drop-cons initial i p within ∙ ap (λ k. get_or initial i p ∷ drop k initial) one in
    let tails : drop (i + 1) pieces ≡ drop (i + 1) initial = cc in
    (sym same ∙ now ∙ ap (λ l. p ∷ l) tails, tails)

-- the pieces before an index are mended, and this is left and held behind their items
pub record Done (options : RepairOptions) (initial pieces : List PieceRecord) (i : ℕ)
    (left : Option ℕ) (h : StateRecord) : Type 0 where
  pub size : length pieces ≡ length initial
  pub rest : drop i pieces ≡ drop i initial
  pub mended : with_done (take i pieces) (all_mended options
      (filter_map item_in (take i pieces)) (drop i initial)) ≡ all_mended options [] initial
  pub reached : Reached options.parse (filter_map item_in (take i pieces)) left h

pub done-more : (options : RepairOptions) (initial pieces : List PieceRecord) (i : ℕ)
    (left more : Option ℕ) (h next : StateRecord) (p m d : PieceRecord)
    → Done options initial pieces i left h → i < length initial → p ≡ get_or pieces i d
    → m ≡ mended_in options.unsigned_maxima h p → stop_held left h (item_in m) ≡ None
    → Reached options.parse (behind (filter_map item_in (take i pieces)) m) more next
    → Done options initial (set pieces i m) (i + 1) more next
done-more options initial pieces i left more h next p m d done within is mends passes reached =
    let before = filter_map item_in (take i pieces) in
    let inside : i < length pieces = omega (arith, within, done.size) in
    let at = at-index pieces initial i p d within done.size done.rest is in
    let front : take (i + 1) (set pieces i m) ≡ take i pieces ++ m ∷ [] =
    take_more_set pieces i m inside in
    let items : filter_map item_in (take (i + 1) (set pieces i m)) ≡ behind before m =
    ap (filter_map item_in) front ∙ items-more (take i pieces) m in
    let less : i < i + 1 = omega arith in
    record {
      size = length-set pieces i m ∙ done.size;
      rest = drop-set-lt (i + 1) pieces i m less ∙ at.1;
      mended =
          ap (λ l. with_done l (all_mended options
          (filter_map item_in (take (i + 1) (set pieces i m))) (drop (i + 1) initial))) front
          ∙ ap (λ xs. with_done (take i pieces ++ m ∷ [])
          (all_mended options xs (drop (i + 1) initial))) items
          ∙ with_done-more (take i pieces) m
          (all_mended options (behind before m) (drop (i + 1) initial))
          ∙ ap (with_done (take i pieces)) (sym (mended-on options before left h p m
          (drop (i + 1) initial) done.reached
          (mends ∙ mended-so options before left h p done.reached) passes))
          ∙ ap (λ l. with_done (take i pieces) (all_mended options before l)) (sym at.0)
          ∙ done.mended;
      reached = subst (λ xs. Reached options.parse xs more next) (sym items) reached;
    }

-- a fault is refused
pub done-not : (options : RepairOptions) (initial pieces : List PieceRecord) (i : ℕ)
    (left : Option ℕ) (h : StateRecord) (p m d : PieceRecord) (f : MeaningFault)
    → Done options initial pieces i left h → i < length initial → p ≡ get_or pieces i d
    → m ≡ mended_in options.unsigned_maxima h p → stop_held left h (item_in m) ≡ Some f
    → all_mended options [] initial ≡ Err (refusal_at p.offset f)
done-not options initial pieces i left h p m d f done within is mends stops =
    let before = filter_map item_in (take i pieces) in
    let at = at-index pieces initial i p d within done.size done.rest is in
    sym done.mended
    ∙ ap (λ l. with_done (take i pieces) (all_mended options before l)) at.0
    ∙ ap (with_done (take i pieces)) (mended-not options before left h p m
    (drop (i + 1) initial) f done.reached
    (mends ∙ mended-so options before left h p done.reached) stops)

-- an item that the parser takes stops nothing
pub taken-on : (left : Option ℕ) (h next : StateRecord) (x : ItemType) → step h x ≡ Ok next
    → is_past left (weight_in h x) ≡ false → stop_in left h x ≡ None
taken-on left h next x stepped within =
    ap (λ o. first_of o (past_fault (is_past left (weight_in h x))))
    (stepped-so (fault_in h x) (next_state h x) next stepped).0
    ∙ ap past_fault within

-- the changes so far, and that of one more piece
pub changes-more : (pieces : List PieceRecord) (i : ℕ) (p d : PieceRecord) → i < length pieces
    → p ≡ get_or pieces i d
    → filter_map change_in (take (i + 1) pieces)
    ≡ filter_map change_in (take i pieces) ++ option_to_list (change_in p)
changes-more pieces i p d within is =
    let one : i + 1 ≡ suc i = omega arith in
    ap (λ k. filter_map change_in (take k pieces)) one
    ∙ ap (filter_map change_in) (take-suc pieces i d within)
    ∙ ap (λ q. filter_map change_in (take i pieces ++ q ∷ [])) (sym is)
    ∙ filter_map-append change_in (take i pieces) (p ∷ [])
    ∙ ap (λ l. filter_map change_in (take i pieces) ++ l) (one-mapped change_in p)
