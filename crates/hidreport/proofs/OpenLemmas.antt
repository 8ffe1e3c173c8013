-- Open collections go on item by item.
use Rattle.std.proofs.Common.{◌≡◌, ℕ, zero, suc, ◌+◌, ◌-◌, ◌<◌, ◌≤◌, Bool, true, false, cond, ◌&&◌}
use Rattle.std.proofs.Common.{nat_lt, List, [], ◌∷◌, ◌++◌, length, take, map, filter, count_by}
use Rattle.std.proofs.Common.{refl, sym, ap, ◌∙◌, append-nil, arith, zero-add}
use Rattle.std.proofs.lemmas.Grind.{common_steps}
use Rattle.std.proofs.lemmas.List.{map-append, take-map}
use Rattle.std.proofs.lemmas.List.Elements.{filter-append}
use Rattle.hidreport_items.specs.declared.item.ItemType.{ItemType}
use Rattle.hidreport.specs.Kinds.{Indexed, is_collection, is_end_collection}
use Rattle.hidreport.specs.OpenCollections.{depth, is_open, stays_deep, open_at}
use Rattle.hidreport.specs.Visibility.{before}
use Rattle.hidreport.proofs.ItemStateLemmas.{before-next, counted, AreBelow}
use Rattle.hidreport.proofs.IndexedLemmas.{count_up, length-count_up, count_up-next, take-count_up}
use Rattle.hidreport.proofs.IndexedLemmas.{take-nil, take-all, filter-both, filter-same-below}
use Rattle.hidreport.proofs.IndexedLemmas.{and_assoc, stays-further, stays-new, subst-below}

head_of : (a b : ℕ) (xs ys : List ℕ) → a ∷ xs ≡ b ∷ ys → a ≡ b
head_of a b xs ys h = cc

tail_of : (a b : ℕ) (xs ys : List ℕ) → a ∷ xs ≡ b ∷ ys → xs ≡ ys
tail_of a b xs ys h = cc

below-by : (b : Bool) (d : Indexed → ℕ) (t a : ℕ) (p : Indexed) (ps : List Indexed) → d p ≡ a
    → nat_lt a t ≡ b
    → filter (λ q. nat_lt (d q) t) ps ≡ take (t - (a + 1)) ps
    → filter (λ q. nat_lt (d q) t) (p ∷ ps) ≡ take (t - a) (p ∷ ps)
below-by true d t a p ps here e rest =
    let more : t - a ≡ suc (t - (a + 1)) =
    let lt : a < t = grind (arith, common_steps) in omega arith in
    ap (λ n. cond (nat_lt n t) (p ∷ filter (λ q. nat_lt (d q) t) ps)
    (filter (λ q. nat_lt (d q) t) ps)) here
    ∙ ap (λ b. cond b (p ∷ filter (λ q. nat_lt (d q) t) ps) (filter (λ q. nat_lt (d q) t) ps)) e
    ∙ ap (λ l. p ∷ l) rest ∙ ap (λ n. take n (p ∷ ps)) (sym more)
below-by false d t a p ps here e rest =
    let none : t - a ≡ 0 = let le : t ≤ a = grind (arith, common_steps) in omega arith in
    let none_later : t - (a + 1) ≡ 0 = omega (arith, none) in
    ap (λ n. cond (nat_lt n t) (p ∷ filter (λ q. nat_lt (d q) t) ps)
    (filter (λ q. nat_lt (d q) t) ps)) here
    ∙ ap (λ b. cond b (p ∷ filter (λ q. nat_lt (d q) t) ps) (filter (λ q. nat_lt (d q) t) ps)) e
    ∙ rest ∙ ap (λ n. take n ps) none_later ∙ ap (λ n. take n (p ∷ ps)) (sym none)

-- where numbers count up from a, those below t are the first of them
below-first : (d : Indexed → ℕ) (t a n : ℕ) (ps : List Indexed) → map d ps ≡ count_up a n
    → filter (λ p. nat_lt (d p) t) ps ≡ take (t - a) ps
below-first d t a n [] h = sym (take-nil (t - a))
below-first d t a zero (p ∷ ps) h = cc
below-first d t a (suc n) (p ∷ ps) h =
    below-by (nat_lt a t) d t a p ps (head_of (d p) a (map d ps) (count_up (a + 1) n) h) refl
    (below-first d t (a + 1) n ps (tail_of (d p) a (map d ps) (count_up (a + 1) n) h))

-- whether a collection is open one place further
is_open-next : (items : List ItemType) (j k : ℕ) → j < k
    → is_open items j (suc k) ≡ (is_open items j k && nat_lt (depth items j) (depth items (suc k)))
is_open-next items j k lt =
    stays-further (stays_deep items (depth items j) j)
    (λ n. nat_lt (depth items j) (depth items n)) j k (λ m. refl) lt

is_open-new : (items : List ItemType) (k : ℕ)
    → is_open items k (suc k) ≡ nat_lt (depth items k) (depth items (suc k))
is_open-new items k =
    stays-new (stays_deep items (depth items k) k) (λ n. nat_lt (depth items k) (depth items n)) k
    refl (λ m. refl)

-- no two open collections have the same depth, and every depth up to that of the place has one; no
-- more were closed than opened
pub record Stands (items : List ItemType) (k : ℕ) : Type 0 where
  pub depths : map (λ (p : Indexed). depth items p.0) (open_at items k) ≡ count_up 0 (depth items k)
  pub balanced : count_by is_end_collection (take k items) ≤ count_by is_collection (take k items)

pub stands-nothing : (items : List ItemType) → Stands items 0
stands-nothing items = record { depths = refl; balanced = omega arith }

-- as many are open as the depth says
pub open-length : (items : List ItemType) (k : ℕ) → Stands items k
    → length (open_at items k) ≡ depth items k
open-length items k s =
    let size : length (map (λ (p : Indexed). depth items p.0) (open_at items k)) ≡ length
    (open_at items k) = grind (arith, common_steps) in
    sym size ∙ ap length s.depths ∙ length-count_up 0 (depth items k)

-- the open collections one item further
open-next : (items front rest : List ItemType) (x : ItemType) → items ≡ front ++ x ∷ rest
    → Stands items (length front)
    → open_at items (suc (length front)) ≡ take (depth items (suc (length front)))
    (open_at items (length front))
    ++ cond (is_collection x
    && nat_lt (depth items (length front)) (depth items (suc (length front))))
    ((length front, x) ∷ []) []
open-next items front rest x e s =
    let k = length front in
    let below : AreBelow k (before items k) = subst-below k items front (x ∷ rest) refl e in
    let now : Indexed → Bool = λ p. is_collection p.1 && is_open items p.0 k in
    let next : Indexed → Bool = λ p. is_collection p.1 && is_open items p.0 (suc k) in
    let deep : Indexed → Bool = λ p. nat_lt (depth items p.0) (depth items (suc k)) in
    ap (filter next) (before-next items front rest x e)
    ∙ filter-append next (before items k) ((k, x) ∷ [])
    ∙ ap (λ l. l ++ filter next ((k, x) ∷ []))
    (filter-same-below k next (λ p. now p && deep p)
    (λ p lt. ap (λ b. is_collection p.1 && b) (is_open-next items p.0 k lt)
    ∙ sym (and_assoc (is_collection p.1) (is_open items p.0 k) (deep p))) (before items k)
    below)
    ∙ ap (λ l. l ++ filter next ((k, x) ∷ [])) (filter-both now deep (before items k))
    ∙ ap (λ l. l ++ filter next ((k, x) ∷ []))
    (below-first (λ p. depth items p.0) (depth items (suc k)) 0 (depth items k)
    (open_at items k) s.depths
    ∙ ap (λ n. take n (open_at items k))
    (let e : depth items (suc k) - 0 ≡ depth items (suc k) = omega arith in e))
    ∙ ap (λ b. take (depth items (suc k)) (open_at items k) ++ cond (is_collection x && b)
    ((k, x) ∷ []) []) (is_open-new items k)

-- an item that neither opens nor closes a collection
pub plain-next : (items front rest : List ItemType) (x : ItemType) → items ≡ front ++ x ∷ rest
    → Stands items (length front)
    → is_collection x ≡ false → is_end_collection x ≡ false
    → (open_at items (suc (length front)) ≡ open_at items (length front)) × Stands items
    (suc (length front))
plain-next items front rest x e s no_collection no_end =
    let k = length front in
    let begins = counted is_collection false items front rest x e no_collection in
    let ends = counted is_end_collection false items front rest x e no_end in
    let same : depth items (suc k) ≡ depth items k = omega (arith, begins, ends) in
    let all : open_at items (suc k) ≡ open_at items k =
    open-next items front rest x e s
    ∙ ap (λ b. take (depth items (suc k)) (open_at items k) ++ cond
    (b && nat_lt (depth items k) (depth items (suc k))) ((k, x) ∷ []) []) no_collection
    ∙ append-nil (take (depth items (suc k)) (open_at items k))
    ∙ take-all (depth items (suc k)) (open_at items k) (omega (arith, same, open-length items k s))
    in (
      all,
      record {
        depths = ap (map (λ (p : Indexed). depth items p.0)) all ∙ s.depths
            ∙ ap (count_up 0) (sym same);
        balanced = omega (arith, begins, ends, s.balanced);
      },
    )

-- a Collection
pub opened-next : (items front rest : List ItemType) (x : ItemType) → items ≡ front ++ x ∷ rest
    → Stands items (length front)
    → is_collection x ≡ true → is_end_collection x ≡ false
    → (open_at items (suc (length front)) ≡ open_at items (length front) ++ (length front, x) ∷ [])
    × Stands items (suc (length front))
opened-next items front rest x e s opens no_end =
    let k = length front in
    let begins = counted is_collection true items front rest x e opens in
    let ends = counted is_end_collection false items front rest x e no_end in
    let deeper : depth items (suc k) ≡ suc (depth items k) =
    omega (arith, begins, ends, s.balanced) in
    let below : nat_lt (depth items k) (depth items (suc k)) ≡ true = grind (arith, common_steps) in
    let all : open_at items (suc k) ≡ open_at items k ++ (k, x) ∷ [] =
    open-next items front rest x e s
    ∙ ap (λ b. take (depth items (suc k)) (open_at items k) ++ cond
    (b && nat_lt (depth items k) (depth items (suc k))) ((k, x) ∷ []) []) opens
    ∙ ap (λ b. take (depth items (suc k)) (open_at items k) ++ cond b ((k, x) ∷ []) []) below
    ∙ ap (λ l. l ++ (k, x) ∷ []) (take-all (depth items (suc k)) (open_at items k)
    (omega (arith, deeper, open-length items k s))) in (
      all,
      record {
        depths = ap (map (λ (p : Indexed). depth items p.0)) all
            ∙ map-append (λ (p : Indexed). depth items p.0) (open_at items k) ((k, x) ∷ [])
            ∙ ap (λ l. l ++ depth items k ∷ []) s.depths
            ∙ sym (count_up-next 0 (depth items k)
            ∙ ap (λ n. count_up 0 (depth items k) ++ n ∷ []) (zero-add (depth items k)))
            ∙ ap (count_up 0) (sym deeper);
        balanced = omega (arith, begins, ends, s.balanced);
      },
    )

-- an EndCollection, where a collection is open
pub closed-next : (items front rest : List ItemType) (x : ItemType) → items ≡ front ++ x ∷ rest
    → Stands items (length front)
    → is_collection x ≡ false → is_end_collection x ≡ true → 0 < depth items (length front)
    → (open_at items (suc (length front)) ≡ take (length (open_at items (length front)) - 1)
    (open_at items (length front))) × Stands items (suc (length front))
closed-next items front rest x e s no_collection closes deep =
    let k = length front in
    let begins = counted is_collection false items front rest x e no_collection in
    let ends = counted is_end_collection true items front rest x e closes in
    let higher : depth items (suc k) ≡ depth items k - 1 =
    omega (arith, begins, ends, s.balanced) in
    let fewer : depth items (suc k) ≡ length (open_at items k) - 1 =
    omega (arith, higher, open-length items k s) in
    let all : open_at items (suc k) ≡ take (depth items (suc k)) (open_at items k) =
    open-next items front rest x e s
    ∙ ap (λ b. take (depth items (suc k)) (open_at items k) ++ cond
    (b && nat_lt (depth items k) (depth items (suc k))) ((k, x) ∷ []) []) no_collection
    ∙ append-nil (take (depth items (suc k)) (open_at items k)) in (
      all ∙ ap (λ n. take n (open_at items k)) fewer,
      record {
        depths = ap (map (λ (p : Indexed). depth items p.0)) all
            ∙ sym (take-map (λ (p : Indexed). depth items p.0) (depth items (suc k))
            (open_at items k))
            ∙ ap (take (depth items (suc k))) s.depths
            ∙ take-count_up (depth items (suc k)) 0 (depth items k) (omega (arith, higher));
        balanced = omega (arith, begins, ends, s.balanced, deep);
      },
    )
