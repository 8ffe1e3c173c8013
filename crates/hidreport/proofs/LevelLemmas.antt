-- Visible items go on item by item: a Pop hides again what stands above the level that it comes
-- back to.
use Rattle.std.proofs.Common.{◌≡◌, ℕ, zero, suc, ◌+◌, ◌-◌, ◌<◌, ◌≤◌, Bool, true, false, cond, ◌&&◌}
use Rattle.std.proofs.Common.{nat_le, List, [], ◌∷◌, ◌++◌, length, take, map, filter}
use Rattle.std.proofs.Common.{count_by, refl, sym, ap, ◌∙◌, subst, append-nil, arith, zero-add}
use Rattle.std.proofs.lemmas.Grind.{common_steps}
use Rattle.std.proofs.lemmas.List.{map-append, take-map}
use Rattle.std.proofs.lemmas.List.Elements.{filter-append}
use Rattle.hidreport_items.specs.declared.item.ItemType.{ItemType}
use Rattle.hidreport.specs.ItemState.{ItemState, global, item_state}
use Rattle.hidreport.specs.Kinds.{Indexed, is_push, is_pop, usage_page_of}
use Rattle.hidreport.specs.Parser.Machine.{next_item_state, last_item_state}
use Rattle.hidreport.specs.Visibility.{before, level, stays_up, is_visible, visible}
use Rattle.hidreport.specs.declared.parser.usages_by.UsagesBy.{UsagesBy}
use Rattle.hidreport.proofs.DataLemmas.{last_item_state-end}
use Rattle.hidreport.proofs.IndexedLemmas.{count_up, length-count_up, count_up-next, take-count_up}
use Rattle.hidreport.proofs.IndexedLemmas.{filter-both, filter-same-below}
use Rattle.hidreport.proofs.IndexedLemmas.{stays-further, stays-new, subst-below}
use Rattle.hidreport.proofs.ItemStateLemmas.{before-next, counted, item_states, item_states-next}
use Rattle.hidreport.proofs.ItemStateLemmas.{AreBelow}

-- whether an item is visible one place further
is_visible-next : (items : List ItemType) (j k : ℕ) → j < k
    → is_visible items j (suc k) ≡ (is_visible items j k
    && nat_le (level items j) (level items (suc k)))
is_visible-next items j k lt =
    stays-further (stays_up items (level items j) j)
    (λ n. nat_le (level items j) (level items n)) j k (λ m. refl) lt

-- the items of this level or below
abbrev pub up_to : List ItemType → ℕ → List Indexed → List Indexed
up_to items n ps = filter (λ (p : Indexed). nat_le (level items p.0) n) ps

-- the visible items one item further
visible-next : (items front rest : List ItemType) (x : ItemType) → items ≡ front ++ x ∷ rest
    → visible items (suc (length front)) ≡ up_to items (level items (suc (length front)))
    (visible items (length front))
    ++ cond (nat_le (level items (length front)) (level items (suc (length front))))
    ((length front, x) ∷ []) []
visible-next items front rest x e =
    let k = length front in
    let below : AreBelow k (before items k) = subst-below k items front (x ∷ rest) refl e in
    let now : Indexed → Bool = λ p. is_visible items p.0 k in
    let next : Indexed → Bool = λ p. is_visible items p.0 (suc k) in
    let low : Indexed → Bool = λ p. nat_le (level items p.0) (level items (suc k)) in
    ap (filter next) (before-next items front rest x e)
    ∙ filter-append next (before items k) ((k, x) ∷ [])
    ∙ ap (λ l. l ++ filter next ((k, x) ∷ []))
    (filter-same-below k next (λ p. now p && low p) (λ p lt. is_visible-next items p.0 k lt)
    (before items k) below)
    ∙ ap (λ l. l ++ filter next ((k, x) ∷ [])) (filter-both now low (before items k))
    ∙ ap (λ b. up_to items (level items (suc k)) (visible items k) ++ cond b ((k, x) ∷ []) [])
    (stays-new (stays_up items (level items k) k) (λ n. nat_le (level items k) (level items n)) k
    refl (λ m. refl))

-- no level of these is above n
abbrev pub AreLow : List ItemType → ℕ → List Indexed → Type 0
AreLow items n [] = Unit {0}
AreLow items n (p ∷ ps) = (level items p.0 ≤ n) × AreLow items n ps

low-weaker : (items : List ItemType) (n m : ℕ) (ps : List Indexed) → n ≤ m → AreLow items n ps
    → AreLow items m ps
low-weaker items n m [] le low = tt
low-weaker items n m (p ∷ ps) le low = (omega (arith, low.0, le), low-weaker items n m ps le low.1)

low-all : (items : List ItemType) (n : ℕ) (ps : List Indexed) → AreLow items n ps
    → up_to items n ps ≡ ps
low-all items n [] low = refl
low-all items n (p ∷ ps) low =
    let here : nat_le (level items p.0) n ≡ true =
    let le : level items p.0 ≤ n = low.0 in grind (arith, common_steps) in
    ap (λ b. cond b (p ∷ up_to items n ps) (up_to items n ps)) here
    ∙ ap (λ l. p ∷ l) (low-all items n ps low.1)

low-more : (items : List ItemType) (n : ℕ) (ps : List Indexed) (p : Indexed) → AreLow items n ps
    → level items p.0 ≤ n → AreLow items n (ps ++ p ∷ [])
low-more items n [] p low le = (le, tt)
low-more items n (q ∷ ps) p low le = (low.0, low-more items n ps p low.1 le)

low-filter-by : (b : Bool) (items : List ItemType) (n : ℕ) (p : Indexed) (ps : List Indexed)
    → nat_le (level items p.0) n ≡ b → AreLow items n ps → AreLow items n (cond b (p ∷ ps) ps)
low-filter-by true items n p ps e low = (grind (arith, common_steps), low)
low-filter-by false items n p ps e low = low

low-filter : (items : List ItemType) (n : ℕ) (ps : List Indexed) → AreLow items n (up_to items n ps)
low-filter items n [] = tt
low-filter items n (p ∷ ps) = low-filter-by (nat_le (level items p.0) n) items n p
    (up_to items n ps) refl (low-filter items n ps)

below-filter-by : (b : Bool) (k : ℕ) (p : Indexed) (ps : List Indexed) → p.0 < k → AreBelow k ps
    → AreBelow k (cond b (p ∷ ps) ps)
below-filter-by true k p ps lt below = (lt, below)
below-filter-by false k p ps lt below = below

below-filter : (k : ℕ) (test : Indexed → Bool) (ps : List Indexed) → AreBelow k ps
    → AreBelow k (filter test ps)
below-filter k test [] below = tt
below-filter k test (p ∷ ps) below =
    below-filter-by (test p) k p (filter test ps) below.0 (below-filter k test ps below.1)

twice-by : (a b : Bool) (items : List ItemType) (n : ℕ) (p : Indexed) (xs ys : List Indexed)
    → nat_le (level items p.0) n ≡ a → (a ≡ true → b ≡ true) → up_to items n xs ≡ up_to items n ys
    → up_to items n (cond b (p ∷ xs) xs) ≡ up_to items n (p ∷ ys)
twice-by true true items n p xs ys e h rest =
    ap (λ l. cond (nat_le (level items p.0) n) (p ∷ l) l) rest
twice-by true false items n p xs ys e h rest = let no : false ≡ true = h refl in cc
twice-by false true items n p xs ys e h rest =
    ap (λ l. cond (nat_le (level items p.0) n) (p ∷ l) l) rest
twice-by false false items n p xs ys e h rest = rest
    ∙ sym (ap (λ b. cond b (p ∷ up_to items n ys) (up_to items n ys)) e)

-- what is cut lower was not hidden by a cut above
up_to-twice : (items : List ItemType) (n m : ℕ) (ps : List Indexed) → n ≤ m
    → up_to items n (up_to items m ps) ≡ up_to items n ps
up_to-twice items n m [] le = refl
up_to-twice items n m (p ∷ ps) le =
    twice-by (nat_le (level items p.0) n) (nat_le (level items p.0) m) items n p (up_to items m ps)
    ps refl (λ low. grind (arith, common_steps)) (up_to-twice items n m ps le)

-- an item above n is cut
up_to-more : (items : List ItemType) (n : ℕ) (ps : List Indexed) (p : Indexed) → n < level items p.0
    → up_to items n (ps ++ p ∷ []) ≡ up_to items n ps
up_to-more items n ps p lt =
    let above : nat_le (level items p.0) n ≡ false = grind (arith, common_steps) in
    filter-append (λ (q : Indexed). nat_le (level items q.0) n) ps (p ∷ [])
    ∙ ap (λ b. up_to items n ps ++ cond b (p ∷ []) []) above ∙ append-nil (up_to items n ps)

-- what was in force at the level n
abbrev pub item_state_at : UsagesBy → List ItemType → ℕ → ℕ → ItemState
item_state_at by items k n =
    item_states by (global usage_page_of items) (up_to items n (visible items k))

map-count_up : (f g : ℕ → ItemState) (a n : ℕ) → ((i : ℕ) → i < a + n → f i ≡ g i)
    → map f (count_up a n) ≡ map g (count_up a n)
map-count_up f g a zero h = refl
map-count_up f g a (suc n) h =
    ap (λ (x : ItemState). x ∷ map f (count_up (a + 1) n)) (h a (omega arith))
    ∙ ap (λ l. g a ∷ l) (map-count_up f g (a + 1) n (λ i lt. h i (omega arith)))

-- what is visible is of the level or below, and no more Pops than Pushes came
pub record Rests (items : List ItemType) (k : ℕ) : Type 0 where
  pub low : AreLow items (level items k) (visible items k)
  pub below : AreBelow k (visible items k)
  pub balanced : count_by is_pop (take k items) ≤ count_by is_push (take k items)

pub rests-nothing : (items : List ItemType) → Rests items 0
rests-nothing items = record { low = tt; below = tt; balanced = omega arith }

-- what the open Pushes keep
abbrev pub stack : UsagesBy → List ItemType → ℕ → List ItemState
stack by items k = map (item_state_at by items k) (count_up 0 (level items k))

pub length-stack : (by : UsagesBy) (items : List ItemType) (k : ℕ)
    → length (stack by items k) ≡ level items k
length-stack by items k =
    let size : length (stack by items k) ≡ length (count_up 0 (level items k)) =
    grind (arith, common_steps) in
    size ∙ length-count_up 0 (level items k)

-- an item that is no Pop is visible behind the others
risen-visible : (items front rest : List ItemType) (x : ItemType) → items ≡ front ++ x ∷ rest
    → Rests items (length front) → level items (length front) ≤ level items (suc (length front))
    → visible items (suc (length front)) ≡ visible items (length front) ++ (length front, x) ∷ []
risen-visible items front rest x e r le =
    let k = length front in
    let here : nat_le (level items k) (level items (suc k)) ≡ true = grind (arith, common_steps) in
    visible-next items front rest x e
    ∙ ap (λ b. up_to items (level items (suc k)) (visible items k) ++ cond b ((k, x) ∷ []) []) here
    ∙ ap (λ l. l ++ (k, x) ∷ []) (low-all items (level items (suc k)) (visible items k)
    (low-weaker items (level items k) (level items (suc k)) (visible items k) le r.low))

below-more : (k : ℕ) (ps : List Indexed) (p : Indexed) → AreBelow k ps → p.0 ≡ k
    → AreBelow (suc k) (ps ++ p ∷ [])
below-more k [] p below e = (omega (arith, e), tt)
below-more k (q ∷ ps) p below e = (omega (arith, below.0), below-more k ps p below.1 e)

below-later : (k : ℕ) (ps : List Indexed) → AreBelow k ps → AreBelow (suc k) ps
below-later k [] below = tt
below-later k (q ∷ ps) below = (omega (arith, below.0), below-later k ps below.1)

-- what is in force behind such an item, and what it leaves of the levels below it
record Risen (by : UsagesBy) (items : List ItemType) (k : ℕ) (x : ItemType) : Type 0 where
  pub goes_on : item_state by items (suc k) ≡ next_item_state (item_state by items k) x
  pub older : (n : ℕ) → n < level items k → item_state_at by items (suc k) n ≡ item_state_at by items k n
  pub rests : Rests items (suc k)

risen : (by : UsagesBy) (items front rest : List ItemType) (x : ItemType) → items ≡ front ++ x ∷ rest
    → Rests items (length front) → level items (length front) ≤ level items (suc (length front))
    → count_by is_pop (take (suc (length front)) items) ≤ count_by is_push
    (take (suc (length front)) items) → Risen by items (length front) x
risen by items front rest x e r le balanced =
    let k = length front in
    let all = risen-visible items front rest x e r le in
    record {
      goes_on = ap (item_states by (global usage_page_of items)) all ∙ item_states-next by (global usage_page_of items)
          (visible items k) k x r.below refl;
      older = λ n lt. ap (item_states by (global usage_page_of items)) (ap (up_to items n) all
          ∙ up_to-more items n (visible items k) (k, x) lt);
      rests = record {
        low = subst (λ (l : List Indexed). AreLow items (level items (suc k)) l) (sym all)
            (low-more items (level items (suc k)) (visible items k) (k, x)
            (low-weaker items (level items k) (level items (suc k)) (visible items k) le r.low) le);
        below = subst (λ (l : List Indexed). AreBelow (suc k) l) (sym all)
            (below-more k (visible items k) (k, x) r.below refl);
        balanced = balanced;
      };
    }

-- a step: what is in force, what is kept, and that it rests
pub record Stepped (by : UsagesBy) (items : List ItemType) (k : ℕ) (f : ItemState)
    (saved : List ItemState) : Type 0 where
  pub item_states_next : item_state by items (suc k) ≡ f
  pub stack_next : stack by items (suc k) ≡ saved
  pub rests_next : Rests items (suc k)

-- an item that is neither Push nor Pop
pub plain-step : (by : UsagesBy) (items front rest : List ItemType) (x : ItemType) → items ≡ front ++ x ∷ rest
    → Rests items (length front) → is_push x ≡ false → is_pop x ≡ false
    → Stepped by items (length front) (next_item_state (item_state by items (length front)) x)
    (stack by items (length front))
plain-step by items front rest x e r no_push no_pop =
    let k = length front in
    let pushes = counted is_push false items front rest x e no_push in
    let pops = counted is_pop false items front rest x e no_pop in
    let same : level items (suc k) ≡ level items k = omega (arith, pushes, pops) in
    let up = risen by items front rest x e r (omega (arith, same))
    (omega (arith, pushes, pops, r.balanced)) in
    record {
      item_states_next = up.goes_on;
      stack_next = ap (λ n. map (item_state_at by items (suc k)) (count_up 0 n)) same
          ∙ map-count_up (item_state_at by items (suc k)) (item_state_at by items k) 0 (level items k)
          (λ i lt. up.older i (omega (arith, lt)));
      rests_next = up.rests;
    }

-- a Push
pub push-step : (by : UsagesBy) (items front rest : List ItemType) (x : ItemType) → items ≡ front ++ x ∷ rest
    → Rests items (length front) → is_push x ≡ true → is_pop x ≡ false
    → next_item_state (item_state by items (length front)) x ≡ item_state by items (length front)
    → Stepped by items (length front) (next_item_state (item_state by items (length front)) x)
    (stack by items (length front) ++ item_state by items (length front) ∷ [])
push-step by items front rest x e r push no_pop unchanged =
    let k = length front in
    let pushes = counted is_push true items front rest x e push in
    let pops = counted is_pop false items front rest x e no_pop in
    let higher : level items (suc k) ≡ suc (level items k) =
    omega (arith, pushes, pops, r.balanced) in
    let up = risen by items front rest x e r (omega (arith, higher))
    (omega (arith, pushes, pops, r.balanced)) in
    let all = risen-visible items front rest x e r (omega (arith, higher)) in
    let own : item_state_at by items (suc k) (level items k) ≡ item_state by items k =
    ap (item_states by (global usage_page_of items)) (ap (up_to items (level items k)) all
    ∙ low-all items (level items k) (visible items k ++ (k, x) ∷ [])
    (low-more items (level items k) (visible items k) (k, x) r.low (omega arith)) ∙ sym all)
    ∙ up.goes_on ∙ unchanged in
    record {
      item_states_next = up.goes_on;
      stack_next = ap (λ n. map (item_state_at by items (suc k)) (count_up 0 n)) higher
          ∙ ap (map (item_state_at by items (suc k))) (count_up-next 0 (level items k))
          ∙ map-append (item_state_at by items (suc k)) (count_up 0 (level items k))
          ((0 + level items k) ∷ [])
          ∙ ap (λ l. l ++ item_state_at by items (suc k) (0 + level items k) ∷ [])
          (map-count_up (item_state_at by items (suc k)) (item_state_at by items k) 0 (level items k)
          (λ i lt. up.older i (omega (arith, lt))))
          ∙ ap (λ n. stack by items k ++ item_state_at by items (suc k) n ∷ []) (zero-add (level items k))
          ∙ ap (λ (f : ItemState). stack by items k ++ f ∷ []) own;
      rests_next = up.rests;
    }

-- a Pop, where a Push is open
pub pop-step : (by : UsagesBy) (items front rest : List ItemType) (x : ItemType) → items ≡ front ++ x ∷ rest
    → Rests items (length front) → is_push x ≡ false → is_pop x ≡ true
    → 0 < level items (length front)
    → (f : ItemState)
    → Stepped by items (length front) (last_item_state f (stack by items (length front)))
    (take (length (stack by items (length front)) - 1) (stack by items (length front)))
pop-step by items front rest x e r no_push pop deep f =
    let k = length front in
    let pushes = counted is_push false items front rest x e no_push in
    let pops = counted is_pop true items front rest x e pop in
    let lower : level items (suc k) ≡ level items k - 1 = omega (arith, pushes, pops, r.balanced) in
    let more : level items k ≡ suc (level items (suc k)) = omega (arith, lower, deep) in
    let hidden : nat_le (level items k) (level items (suc k)) ≡ false =
    grind (arith, common_steps) in
    let all : visible items (suc k) ≡ up_to items (level items (suc k)) (visible items k) =
    visible-next items front rest x e
    ∙ ap (λ b. up_to items (level items (suc k)) (visible items k) ++ cond b ((k, x) ∷ []) [])
    hidden
    ∙ append-nil (up_to items (level items (suc k)) (visible items k)) in
    let ended : stack by items k ≡ map (item_state_at by items k) (count_up 0 (level items (suc k)))
    ++ item_state_at by
    items k (level items (suc k)) ∷ [] =
    ap (λ n. map (item_state_at by items k) (count_up 0 n)) more
    ∙ ap (map (item_state_at by items k)) (count_up-next 0 (level items (suc k)))
    ∙ map-append (item_state_at by items k) (count_up 0 (level items (suc k)))
    ((0 + level items (suc k)) ∷ [])
    ∙ ap (λ n. map (item_state_at by items k) (count_up 0 (level items (suc k)))
    ++ item_state_at by items k n ∷ [])
    (zero-add (level items (suc k))) in
    let fewer : length (stack by items k) - 1 ≡ level items (suc k) =
    omega (arith, length-stack by items k, more) in
    record {
      item_states_next = ap (item_states by (global usage_page_of items)) all
          ∙ sym (ap (last_item_state f) ended
          ∙ last_item_state-end f (item_state_at by items k (level items (suc k)))
          (map (item_state_at by items k) (count_up 0 (level items (suc k)))));
      stack_next = map-count_up (item_state_at by items (suc k)) (item_state_at by items k) 0
          (level items (suc k))
          (λ i lt. ap (item_states by (global usage_page_of items)) (ap (up_to items i) all
          ∙ up_to-twice items i (level items (suc k)) (visible items k) (omega (arith, lt))))
          ∙ sym (ap (λ n. take n (stack by items k)) fewer
          ∙ take-map (item_state_at by items k) (level items (suc k)) (count_up 0 (level items k))
          ∙ ap (map (item_state_at by items k)) (take-count_up (level items (suc k)) 0 (level items k)
          (omega (arith, more))));
      rests_next = record {
        low = subst (λ (l : List Indexed). AreLow items (level items (suc k)) l) (sym all)
            (low-filter items (level items (suc k)) (visible items k));
        below = subst (λ (l : List Indexed). AreBelow (suc k) l) (sym all)
            (below-later k (up_to items (level items (suc k)) (visible items k))
            (below-filter k (λ (p : Indexed). nat_le (level items p.0) (level items (suc k)))
            (visible items k) r.below));
        balanced = omega (arith, pushes, pops, r.balanced, deep);
      };
    }
