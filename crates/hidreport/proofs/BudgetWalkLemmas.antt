-- The walk under a budget gives the meaning under it, which looks back; without a limit it is the
-- plain walk.
use Rattle.std.proofs.Common.{◌≡◌, ℕ, suc, ◌+◌, ◌-◌, ◌≤◌, Bool, true, false, cond, List, [], ◌∷◌}
use Rattle.std.proofs.Common.{◌++◌, length, Option, None, Some, IfSome, Ok, Err, refl, sym, ap, ◌∙◌}
use Rattle.std.proofs.Common.{subst, append-nil, append_assoc, add-one, arith}
use Rattle.std.specs.Prelude.{nat_lt, nat_le, sum_by, find, Result}
use Rattle.std.specs.List.{enumerate_from}
use Rattle.std.proofs.lemmas.Bool.Decides.{nat_tests}
use Rattle.std.proofs.lemmas.Grind.{common_steps}
use Rattle.std.proofs.lemmas.List.Sums.{sum_by-append}
use Rattle.hidreport_items.specs.Flags.{Flags}
use Rattle.hidreport_items.specs.declared.main_item.CollectionItem.{CollectionItem}
use Rattle.hidreport_items.specs.declared.item.ItemType.{ItemType}
use Rattle.hidreport.specs.Budget.{meaning_within_by, unless_past}
use Rattle.hidreport.specs.Faults.{fault}
use Rattle.hidreport.specs.Fields.{fields_of, list_or_none}
use Rattle.hidreport.specs.ItemState.{ItemState, first_of}
use Rattle.hidreport.specs.Kinds.{Indexed, Direction, collection_kind_of, data_of}
use Rattle.hidreport.specs.Making.{extent}
use Rattle.hidreport.specs.Meaning.{InForce, descriptor, fault_here, first_fault, unless_first}
use Rattle.hidreport.specs.MeaningFault.{MeaningFault, BudgetExceeded}
use Rattle.hidreport.specs.Options.{meaning_as, meaning_limited, reading_of}
use Rattle.hidreport.specs.Parser.Budget.{past_fault, walk_within, weight_in, weight_made_in}
use Rattle.hidreport.specs.Parser.Budget.{weight_opened_in}
use Rattle.hidreport.specs.Parser.Machine.{StateRecord, fault_in, go_on, next_state, first_state, start_by}
use Rattle.hidreport.specs.Parser.Machine.{start_in}
use Rattle.hidreport.specs.Parser.Machine.{unless_fault, walk}
use Rattle.hidreport_fields.specs.Records.{DescriptorRecord}
use Rattle.hidreport.specs.Usages.{usages_of}
use Rattle.hidreport.specs.Visibility.{before, level}
use Rattle.hidreport.specs.declared.parser.push_keeps.PushKeeps.{PushKeeps}
use Rattle.hidreport.specs.declared.parser.usages_by.UsagesBy.{UsagesBy}
use Rattle.hidreport.specs.declared.parse_options.ParseOptions.{ParseOptions}
use Rattle.hidreport.specs.Weight.{field_weight, unless_faulty, weight, weight_before, weight_made}
use Rattle.hidreport.specs.Weight.{weight_opened}
use Rattle.hidreport.proofs.ReadingLemmas.{walk-meaning}
use Rattle.hidreport.proofs.PushReadings.{kept_stack, reading-follows}
use Rattle.hidreport.proofs.ItemStateLemmas.{before-next, first_of-none}
use Rattle.hidreport.proofs.WalkLemmas.{Follows, Holds, at-end, fault-held, fields-held, holds-next}
use Rattle.hidreport.proofs.WalkLemmas.{holds-nothing}

-- the weight of an item, from what is held

opened-held : (o : Option CollectionItem) (item_state : ℕ → ItemState) (stack : ℕ → List ItemState)
    (items : List ItemType) (k : ℕ) (h : StateRecord) (x : ItemType)
    → Holds item_state stack items k h
    → weight_opened item_state o items (k, x) ≡ weight_opened_in h o
opened-held None item_state stack items k h x held = refl
opened-held (Some kind) item_state stack items k h x held =
    ap (λ (f : ItemState). 1 + length (list_or_none (usages_of f)).usages) (sym held.item_states)

made-held : (o : Option (Direction × Flags)) (item_state : ℕ → ItemState) (stack : ℕ
    → List ItemState)
    (items : List ItemType) (k : ℕ) (h : StateRecord) (x : ItemType) → data_of x ≡ o
    → Holds item_state stack items k h
    → weight_made item_state o items (k, x) ≡ weight_made_in h o
made-held None item_state stack items k h x e held = refl
made-held (Some y) item_state stack items k h x e held =
    ap (sum_by field_weight) (fields-held item_state stack items k h y.0 x held
    ∙ ap (λ d. fields_of h.item_state h.opened h.fields (start_in y.0 h) d (extent h.item_state)) e)

weight-held : (item_state : ℕ → ItemState) (stack : ℕ → List ItemState) (items : List ItemType)
    (k : ℕ) (h : StateRecord)
    (x : ItemType) → ((n : ℕ) → length (stack n) ≡ level items n) → Holds item_state stack items k h
    → fault_in h x ≡ None → weight item_state items k x ≡ weight_in h x
weight-held item_state stack items k h x leveled held faultless =
    ap (λ f. unless_faulty f (weight_opened item_state (collection_kind_of x) items
    (k, x) + weight_made item_state
    (data_of x) items (k, x))) (fault-held item_state stack items k h x leveled held ∙ faultless)
    ∙ ap (λ n. n + weight_made item_state (data_of x) items (k, x))
    (opened-held (collection_kind_of x) item_state stack items k h x held)
    ∙ ap (λ n. weight_opened_in h (collection_kind_of x) + n)
    (made-held (data_of x) item_state stack items k h x refl held)

-- the weight of one item more
weight-next : (item_state : ℕ → ItemState) (items front rest : List ItemType) (x : ItemType)
    → items ≡ front ++ x ∷ rest
    → weight_before item_state items (suc (length front))
    ≡ weight_before item_state items (length front) +
    weight item_state items (length front) x
weight-next item_state items front rest x e =
    let w = λ (p : Indexed). weight item_state items p.0 p.1 in
    let k = length front in
    let one : sum_by w ((k, x) ∷ []) ≡ weight item_state items k x = grind (arith, common_steps) in
    ap (sum_by w) (before-next items front rest x e)
    ∙ sum_by-append w (before items k) ((k, x) ∷ [])
    ∙ ap (λ n. weight_before item_state items k + n) one

-- the indices of a list go on from its first

abbrev IsFrom : ℕ → Option Indexed → Type 0
IsFrom n o = IfSome o (λ p. n ≤ p.0)

found-from : (b : Bool) (n k : ℕ) (x : ItemType) (later : Option Indexed) → n ≤ k → IsFrom n later
    → IsFrom n (cond b (Some (k, x)) later)
found-from true n k x later le h = le
found-from false n k x later le h = h

find-from : (q : Indexed → Bool) (n k : ℕ) (xs : List ItemType) → n ≤ k
    → IsFrom n (find q (enumerate_from k xs))
find-from q n k [] le = tt
find-from q n k (x ∷ xs) le = found-from (q (k, x)) n k x (find q (enumerate_from (k + 1) xs)) le
    (find-from q n (k + 1) xs (omega arith))

abbrev IsFaultFrom : ℕ → Option (ℕ × MeaningFault) → Type 0
IsFaultFrom n o = IfSome o (λ f. n ≤ f.0)

fault-here-from : (o : Option MeaningFault) (n k : ℕ) (later : Option (ℕ × MeaningFault)) → n ≤ k
    → IsFaultFrom n later → IsFaultFrom n (fault_here o k later)
fault-here-from None n k later le h = h
fault-here-from (Some f) n k later le h = le

fault-from : (item_state : ℕ → ItemState) (items : List ItemType) (n k : ℕ) (xs : List ItemType)
    → n ≤ k
    → IsFaultFrom n (first_fault item_state items (enumerate_from k xs))
fault-from item_state items n k [] le = tt
fault-from item_state items n k (x ∷ xs) le =
    fault-here-from (fault item_state items k x) n k
    (first_fault item_state items (enumerate_from (k + 1) xs)) le
    (fault-from item_state items n (k + 1) xs (omega arith))

-- the answers of a walk
abbrev pub Answer : Type 0
Answer = Result DescriptorRecord (ℕ × MeaningFault)

abbrev pub ends_at : ℕ → MeaningFault → Answer
ends_at k f = Err (k, f)

-- a fault at k counts before what is past the limit at k or later
faulty-first : (o : Option Indexed) (k : ℕ) (f : MeaningFault) → IsFrom k o
    → unless_past o (ends_at k f) ≡ ends_at k f
faulty-first None k f h = refl
faulty-first (Some p) k f h =
    let before : nat_le k p.0 ≡ true = grind (arith, nat_tests) in
    ap (λ b. cond b (ends_at k f) (ends_at p.0 BudgetExceeded)) before

-- what is past the limit at k counts before a fault later on
past-first : (o : Option (ℕ × MeaningFault)) (k : ℕ) (x : ItemType) (all : DescriptorRecord)
    → IsFaultFrom (suc k) o → unless_past (Some (k, x)) (unless_first o all) ≡ ends_at k BudgetExceeded
past-first None k x all h = refl
past-first (Some f) k x all h =
    let behind : nat_le f.0 k ≡ false = grind (arith, nat_tests) in
    ap (λ b. cond b (ends_at f.0 f.1) (ends_at k BudgetExceeded)) behind

-- the weight that passes what is left passes the limit with what was spent
past-left : (limit spent w : ℕ) → spent ≤ limit
    → nat_lt limit (spent + w) ≡ nat_lt (limit - spent) w
past-left limit spent w le = past-by (nat_lt limit (spent + w)) (nat_lt (limit - spent) w) refl refl
  where
    past-by : (a b : Bool) → nat_lt limit (spent + w) ≡ a → nat_lt (limit - spent) w ≡ b
        → nat_lt limit (spent + w) ≡ nat_lt (limit - spent) w
    past-by true true p q = p ∙ sym q
    past-by false false p q = p ∙ sym q
    past-by true false p q = grind (arith, nat_tests)
    past-by false true p q = grind (arith, nat_tests)

-- the item at which the weight passes the limit, from index k on
abbrev past_from : (ℕ → ItemState) → List ItemType → ℕ → ℕ → List ItemType → Option Indexed
past_from item_state items limit k xs =
    find (λ (p : Indexed). nat_lt limit (weight_before item_state items (suc p.0)))
    (enumerate_from k xs)

-- the look-back answer from index k on
abbrev within_from : (ℕ → ItemState) → List ItemType → ℕ → ℕ → List ItemType → Answer
within_from item_state items limit k xs =
    unless_past (past_from item_state items limit k xs)
    (unless_first (first_fault item_state items (enumerate_from k xs))
    (descriptor item_state items))

-- one item, by its fault and by whether it passes the limit
within-by : (o : Option MeaningFault) (b : Bool) (item_state : ℕ → ItemState)
    (items : List ItemType)
    (limit left k : ℕ) (h : StateRecord) (x : ItemType) (xs : List ItemType)
    → fault item_state items k x ≡ fault_in h x → fault_in h x ≡ o
    → (fault_in h x ≡ None
    → nat_lt limit (weight_before item_state items (suc k)) ≡ nat_lt left (weight_in h x))
    → nat_lt left (weight_in h x) ≡ b
    → (fault_in h x ≡ None → nat_lt left (weight_in h x) ≡ false
    → walk_within (Some (left - weight_in h x)) (next_state h x) (k + 1) xs
    ≡ within_from item_state items
    limit (k + 1) xs)
    → walk_within (Some left) h k (x ∷ xs) ≡ within_from item_state items limit k (x ∷ xs)
within-by (Some f) b item_state items limit left k h x xs same e past is rest =
    ap (λ o. go_on (unless_fault (first_of o (past_fault (nat_lt left (weight_in h x))))
    (next_state h x)) k (λ next. walk_within (Some (left - weight_in h x)) next (k + 1) xs)) e
    ∙ sym (ap (λ o. unless_past (past_from item_state items limit k (x ∷ xs))
    (unless_first (fault_here o k (first_fault item_state items (enumerate_from (k + 1) xs)))
    (descriptor item_state items))) (same ∙ e)
    ∙ faulty-first (past_from item_state items limit k (x ∷ xs)) k f
    (find-from (λ (p : Indexed). nat_lt limit (weight_before item_state items (suc p.0))) k k
    (x ∷ xs) (omega arith)))
within-by None true item_state items limit left k h x xs same e past is rest =
    ap (λ o. go_on (unless_fault (first_of o (past_fault (nat_lt left (weight_in h x))))
    (next_state h x)) k (λ next. walk_within (Some (left - weight_in h x)) next (k + 1) xs)) e
    ∙ ap (λ b. go_on (unless_fault (past_fault b) (next_state h x)) k
    (λ next. walk_within (Some (left - weight_in h x)) next (k + 1) xs)) is
    ∙ sym (ap (λ o. unless_past (past_from item_state items limit k (x ∷ xs))
    (unless_first (fault_here o k (first_fault item_state items (enumerate_from (k + 1) xs)))
    (descriptor item_state items))) (same ∙ e)
    ∙ ap (λ b. unless_past (cond b (Some (k, x)) (past_from item_state items limit (k + 1) xs))
    (unless_first (first_fault item_state items (enumerate_from (k + 1) xs))
    (descriptor item_state items))) (past e ∙ is)
    ∙ past-first (first_fault item_state items (enumerate_from (k + 1) xs)) k x
    (descriptor item_state items)
    (fault-from item_state items (suc k) (k + 1) xs (omega arith)))
within-by None false item_state items limit left k h x xs same e past is rest =
    ap (λ o. go_on (unless_fault (first_of o (past_fault (nat_lt left (weight_in h x))))
    (next_state h x)) k (λ next. walk_within (Some (left - weight_in h x)) next (k + 1) xs)) e
    ∙ ap (λ b. go_on (unless_fault (past_fault b) (next_state h x)) k
    (λ next. walk_within (Some (left - weight_in h x)) next (k + 1) xs)) is
    ∙ rest e is
    ∙ sym (ap (λ o. unless_past (past_from item_state items limit k (x ∷ xs))
    (unless_first (fault_here o k (first_fault item_state items (enumerate_from (k + 1) xs)))
    (descriptor item_state items))) (same ∙ e)
    ∙ ap (λ b. unless_past (cond b (Some (k, x)) (past_from item_state items limit (k + 1) xs))
    (unless_first (first_fault item_state items (enumerate_from (k + 1) xs))
    (descriptor item_state items))) (past e ∙ is))

within-walk : (push_keeps : PushKeeps) (by : UsagesBy) (item_state : ℕ → ItemState) (stack : ℕ → List ItemState)
    (items front rest : List ItemType) (h : StateRecord) (limit : ℕ)
    → Follows push_keeps by item_state stack items
    → h.push_keeps ≡ push_keeps → items ≡ front ++ rest → Holds item_state stack items (length front) h
    → weight_before item_state items (length front) ≤ limit
    → walk_within (Some (limit - weight_before item_state items (length front))) h
    (length front) rest
    ≡ within_from item_state items limit (length front) rest
within-walk push_keeps by item_state stack items front [] h limit follows reads e held room =
    let whole : items ≡ front = e ∙ append-nil front in
    ap Ok (at-end item_state stack items h
    (subst (λ n. Holds item_state stack items n h) (ap length (sym whole)) held))
within-walk push_keeps by item_state stack items front (x ∷ xs) h limit follows reads e held room =
    let k = length front in
    let spent = weight_before item_state items k in
    let w = weight_in h x in
    let more : items ≡ (front ++ x ∷ []) ++ xs = e ∙ sym (append_assoc front (x ∷ []) xs) in
    let size : length (front ++ x ∷ []) ≡ suc k = grind (arith, common_steps) in
    let size_one : length (front ++ x ∷ []) ≡ k + 1 = size ∙ sym (add-one k) in
    let heavier : fault_in h x ≡ None → weight_before item_state items (suc k) ≡ spent + w =
    λ faultless. weight-next item_state items front xs x e
    ∙ ap (λ n. spent + n) (weight-held item_state stack items k h x follows.leveled held
    faultless) in
    within-by (fault_in h x) (nat_lt (limit - spent) w) item_state items limit
    (limit - spent) k h x xs
    (fault-held item_state stack items k h x follows.leveled held) refl
    (λ faultless. ap (nat_lt limit) (heavier faultless) ∙ past-left limit spent w room) refl
    (λ faultless within.
    let next : Holds item_state stack items (length (front ++ x ∷ [])) (next_state h x) =
    subst (λ n. Holds item_state stack items n (next_state h x)) (sym size)
    (holds-next push_keeps by item_state stack items front xs h x follows reads e held faultless) in
    let spent_next : weight_before item_state items (length (front ++ x ∷ [])) ≡ spent + w =
    ap (weight_before item_state items) size ∙ heavier faultless in
    let fits : w ≤ limit - spent = grind (arith, nat_tests) in
    let room_next : weight_before item_state items (length (front ++ x ∷ [])) ≤ limit =
    omega (arith, spent_next, fits, room) in
    let left_next : limit - weight_before item_state items (length (front ++ x ∷ []))
    ≡ limit - spent -
    w = omega (arith, spent_next, fits, room) in
    let walked = within-walk push_keeps by item_state stack items (front ++ x ∷ []) xs
    (next_state h x) limit
    follows reads more next room_next in
    ap (λ l. walk_within (Some l) (next_state h x) (k + 1) xs) (sym left_next)
    ∙ ap (λ n. walk_within
    (Some (limit - weight_before item_state items (length (front ++ x ∷ []))))
    (next_state h x) n xs) (sym size_one)
    ∙ walked ∙ ap (λ n. within_from item_state items limit n xs) size_one)

-- the walk under a limit is the meaning under it, by each reading that the walk follows
pub walk-follows-within : (push_keeps : PushKeeps) (by : UsagesBy) (reading : InForce) (saved : ℕ → List ItemState)
    (items : List ItemType) (limit : ℕ) → Follows push_keeps by (reading items) saved items
    → walk_within (Some limit) (start_by push_keeps by) 0 items ≡ meaning_within_by reading limit
    items
walk-follows-within push_keeps by reading saved items limit follows =
    let all : limit ≡ limit - 0 = omega arith in
    ap (λ n. walk_within (Some n) (start_by push_keeps by) 0 items) all
    ∙ within-walk push_keeps by (reading items) saved items [] items (start_by push_keeps by) limit follows
    refl refl (holds-nothing push_keeps by (reading items) saved items follows) (omega arith)

-- by the reading of the options
pub walk-within : (options : ParseOptions) (limit : ℕ) (items : List ItemType)
    → walk_within (Some limit) (first_state options) 0 items
    ≡ meaning_within_by (reading_of options) limit items
walk-within options limit items =
    let push_keeps = options.push_keeps in
    let by = options.usages in
    walk-follows-within push_keeps by (reading_of options) (kept_stack push_keeps by items) items limit
    (reading-follows push_keeps by items)

unlimited-by : (o : Option MeaningFault) (h : StateRecord) (k : ℕ) (xs : List ItemType)
    → walk_within None h (k + 1) xs ≡ walk h (k + 1) xs
    → go_on (unless_fault o h) k (λ next. walk_within None next (k + 1) xs) ≡ go_on
    (unless_fault o h) k (λ next. walk next (k + 1) xs)
unlimited-by None h k xs rest = rest
unlimited-by (Some f) h k xs rest = refl

-- without a limit it is the plain walk
pub walk-unlimited : (h : StateRecord) (k : ℕ) (xs : List ItemType)
    → walk_within None h k xs ≡ walk h k xs
walk-unlimited h k [] = refl
walk-unlimited h k (x ∷ xs) =
    ap (λ o. go_on (unless_fault o (next_state h x)) k (λ next. walk_within None next (k + 1) xs))
    (first_of-none (fault_in h x))
    ∙ unlimited-by (fault_in h x) (next_state h x) k xs (walk-unlimited (next_state h x) (k + 1) xs)

-- the meaning as it is asked for is what the walk gives
pub meaning-walk : (options : ParseOptions) (items : List ItemType)
    → meaning_as options items ≡ walk_within options.limit (first_state options) 0 items
meaning-walk options items = by-limit options.limit items
  where
    by-limit : (limit : Option ℕ) (items : List ItemType)
        → meaning_limited (reading_of options) limit items
        ≡ walk_within limit (first_state options) 0 items
    by-limit None items =
        sym (walk-unlimited (first_state options) 0 items ∙ walk-meaning options items)
    by-limit (Some limit) items = sym (walk-within options limit items)
