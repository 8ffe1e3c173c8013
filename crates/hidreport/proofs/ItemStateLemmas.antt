-- What is in force goes on item by item, in the order of visible items.
use Rattle.std.proofs.Common.{◌≡◌, ℕ, suc, ◌+◌, ◌<◌, ◌≤◌, Bool, true, false, cond, not, ◌&&◌, ◌||◌}
use Rattle.std.proofs.Common.{nat_lt, List, [], ◌∷◌, ◌++◌, length, take, Option, None, Some}
use Rattle.std.proofs.Common.{option_to_list, filter, filter_map, count_by, refl, sym, ap, ◌∙◌}
use Rattle.std.proofs.Common.{append_assoc, arith, add-zero, zero-add}
use Rattle.std.specs.List.{enumerate_from, list_any}
use Rattle.std.proofs.Math.Seq.{take-append_seam}
use Rattle.std.proofs.lemmas.Grind.{common_steps}
use Rattle.std.proofs.lemmas.List.Elements.{filter-append, filter_map-append}
use Rattle.std.proofs.lemmas.List.Folds.{list_any-append}
use Rattle.std.proofs.lemmas.List.Sums.{sum_by-append}
use Rattle.hidreport_items.specs.declared.item.ItemType.{ItemType}
use Rattle.hidreport_items.specs.declared.item.ItemType.TheVariants as item
use Rattle.hidreport.specs.ItemState.{ItemState, last_value, unended_locals, first_of, paged_local}
use Rattle.hidreport.specs.Kinds.{Indexed, is_main, local_of, usage_page_of, logical_minimum_of}
use Rattle.hidreport.specs.Kinds.{logical_maximum_of, physical_minimum_of, physical_maximum_of}
use Rattle.hidreport.specs.Kinds.{unit_exponent_of, unit_of, report_size_of, report_id_of}
use Rattle.hidreport.specs.Kinds.{report_count_of}
use Rattle.hidreport.specs.Parser.Machine.{next_item_state}
use Rattle.hidreport.specs.Visibility.{before}
use Rattle.hidreport.specs.declared.parser.paged_local.PagedLocal.{PagedLocal}
use Rattle.hidreport.specs.declared.parser.usages_by.UsagesBy.{UsagesBy}

pub enumerate_from-append : {A : Type 0} (n : ℕ) (xs ys : List A)
    → enumerate_from n (xs ++ ys) ≡ enumerate_from n xs ++ enumerate_from (n + length xs) ys
enumerate_from-append n [] ys = ap (λ m. enumerate_from m ys) (sym (add-zero n))
enumerate_from-append n (x ∷ xs) ys =
    ap (λ l. (n, x) ∷ l) (enumerate_from-append (n + 1) xs ys
    ∙ ap (λ m. enumerate_from (n + 1) xs ++ enumerate_from m ys)
    (let e : n + 1 + length xs ≡ n + suc (length xs) = omega arith in e))

-- the items before the one behind a front
pub before-front : (items front rest : List ItemType) → items ≡ front ++ rest
    → before items (length front) ≡ enumerate_from 0 front
before-front items front rest e =
    ap (enumerate_from 0) (ap (take (length front)) e ∙ take-append_seam front rest)

-- and one item further
pub before-next : (items front rest : List ItemType) (x : ItemType) → items ≡ front ++ x ∷ rest
    → before items (suc (length front)) ≡ before items (length front) ++ (length front, x) ∷ []
before-next items front rest x e =
    let longer : items ≡ (front ++ x ∷ []) ++ rest = e ∙ sym (append_assoc front (x ∷ []) rest) in
    let size : length (front ++ x ∷ []) ≡ suc (length front) = grind (arith, common_steps) in
    ap (before items) (sym size) ∙ before-front items (front ++ x ∷ []) rest longer
    ∙ enumerate_from-append 0 front (x ∷ [])
    ∙ ap (λ m. enumerate_from 0 front ++ (m, x) ∷ []) (zero-add (length front))
    ∙ ap (λ l. l ++ (length front, x) ∷ []) (sym (before-front items front (x ∷ rest) e))

filter-same : {A : Type 0} (p q : A → Bool) → ((x : A) → p x ≡ q x) → (xs : List A)
    → filter p xs ≡ filter q xs
filter-same p q h [] = refl
filter-same p q h (x ∷ xs) = ap (λ b. cond b (x ∷ filter p xs) (filter p xs)) (h x)
    ∙ ap (λ l. cond (q x) (x ∷ l) l) (filter-same p q h xs)

-- how many pass a test, one item further
pub count-next : (p : ItemType → Bool) (items front rest : List ItemType) (x : ItemType)
    → items ≡ front ++ x ∷ rest
    → count_by p (take (suc (length front)) items) ≡ count_by p (take (length front) items) + cond
    (p x) 1 0
count-next p items front rest x e =
    let size : length (front ++ x ∷ []) ≡ suc (length front) = grind (arith, common_steps) in
    let longer : items ≡ (front ++ x ∷ []) ++ rest = e ∙ sym (append_assoc front (x ∷ []) rest) in
    let next : take (suc (length front)) items ≡ front ++ x ∷ [] =
    ap (λ n. take n items) (sym size) ∙ ap (take (length (front ++ x ∷ []))) longer
    ∙ take-append_seam (front ++ x ∷ []) rest in
    let now : take (length front) items ≡ front = ap (take (length front)) e
    ∙ take-append_seam front (x ∷ rest) in
    let one : count_by p (x ∷ []) ≡ cond (p x) 1 0 = grind (arith, common_steps) in
    ap (count_by p) next ∙ sum_by-append (λ y. cond (p y) 1 0) front (x ∷ [])
    ∙ ap (λ n. count_by p front + n) one ∙ ap (λ l. count_by p l + cond (p x) 1 0) (sym now)

-- how many items pass a test, one item further
pub counted : (test : ItemType → Bool) (b : Bool) (items front rest : List ItemType) (x : ItemType)
    → items ≡ front ++ x ∷ rest → test x ≡ b
    → count_by test (take (suc (length front)) items)
    ≡ count_by test (take (length front) items) + cond b 1 0
counted test b items front rest x e is = count-next test items front rest x e
    ∙ ap (λ b. count_by test (take (length front) items) + cond b 1 0) is

-- the last item's value counts
pub first_of-none : {A : Type 0} (o : Option A) → first_of o None ≡ o
first_of-none None = refl
first_of-none (Some x) = refl

first_of-assoc : {A : Type 0} (a b c : Option A)
    → first_of (first_of a b) c ≡ first_of a (first_of b c)
first_of-assoc None b c = refl
first_of-assoc (Some x) b c = refl

last_value-next : {A : Type 0} (tag : ItemType → Option A) (ps : List Indexed) (p : Indexed)
    → last_value tag (ps ++ p ∷ []) ≡ first_of (tag p.1) (last_value tag ps)
last_value-next tag [] p = sym (first_of-none (tag p.1))
last_value-next tag (q ∷ ps) p = ap (λ o. first_of o (tag q.1)) (last_value-next tag ps p)
    ∙ first_of-assoc (tag p.1) (last_value tag ps) (tag q.1)

-- all places of the list are below k
abbrev pub AreBelow : ℕ → List Indexed → Type 0
AreBelow k [] = Unit {0}
AreBelow k (p ∷ ps) = (p.0 < k) × AreBelow k ps

pub enumerated-below : (n m : ℕ) (xs : List ItemType) → n + length xs ≤ m
    → AreBelow m (enumerate_from n xs)
enumerated-below n m [] h = tt
enumerated-below n m (x ∷ xs) h = (omega arith, enumerated-below (n + 1) m xs (omega arith))

-- a main item stands behind p
abbrev pub is_ended : List Indexed → Indexed → Bool
is_ended ps p = list_any (λ (q : Indexed). is_main q.1 && nat_lt p.0 q.0) ps

and_false : (b : Bool) → (b && false) ≡ false
and_false true = refl
and_false false = refl

not_behind : (k : ℕ) (x : ItemType) (ps : List Indexed) → AreBelow k ps → is_ended ps (k, x) ≡ false
not_behind k x [] h = refl
not_behind k x (q ∷ ps) h =
    let here : nat_lt k q.0 ≡ false = grind (arith, common_steps) in
    ap (λ b. (is_main q.1 && b) || is_ended ps (k, x)) here
    ∙ ap (λ b. b || is_ended ps (k, x)) (and_false (is_main q.1)) ∙ not_behind k x ps h.1

pub or_false : (b : Bool) → (b || false) ≡ b
or_false true = refl
or_false false = refl

-- the locals behind one more item that is no main item
is_ended-plain : (ps : List Indexed) (k : ℕ) (x : ItemType) (p : Indexed) → is_main x ≡ false
    → is_ended (ps ++ (k, x) ∷ []) p ≡ is_ended ps p
is_ended-plain ps k x p plain =
    list_any-append (λ (q : Indexed). is_main q.1 && nat_lt p.0 q.0) ps ((k, x) ∷ [])
    ∙ ap (λ b. is_ended ps p || ((b && nat_lt p.0 k) || false)) plain ∙ or_false (is_ended ps p)

-- the items that no main item of the list stands behind
abbrev pub unended : List Indexed → List Indexed → List Indexed
unended qs ps = filter (λ (p : Indexed). not (is_ended qs p)) ps

one_local : (o : Option PagedLocal)
    → filter_map (λ (q : Option PagedLocal). q) (o ∷ []) ≡ option_to_list o
one_local None = refl
one_local (Some y) = refl

-- a local item with its page
abbrev paged : (ℕ → Option ℕ) → Indexed → Option PagedLocal
paged page p = paged_local (page p.0) p.1

unended_locals-plain : (page : ℕ → Option ℕ) (ps : List Indexed) (k : ℕ) (x : ItemType)
    → AreBelow k ps → is_main x ≡ false
    → unended_locals page (ps ++ (k, x) ∷ [])
    ≡ unended_locals page ps ++ option_to_list (paged_local (page k) x)
unended_locals-plain page ps k x below plain =
    let qs = ps ++ (k, x) ∷ [] in
    let same : unended qs ps ≡ unended ps ps =
    filter-same (λ (p : Indexed). not (is_ended qs p))
    (λ (p : Indexed). not (is_ended ps p)) (λ p. ap not (is_ended-plain ps k x p plain)) ps
    in
    let last : unended qs ((k, x) ∷ []) ≡ (k, x) ∷ [] =
    ap (λ b. cond (not b) ((k, x) ∷ []) [])
    (is_ended-plain ps k x (k, x) plain ∙ not_behind k x ps below) in
    ap (filter_map (paged page))
    (filter-append (λ (p : Indexed). not (is_ended qs p)) ps ((k, x) ∷ [])
    ∙ ap (λ l. l ++ unended qs ((k, x) ∷ [])) same ∙ ap (λ l. unended ps ps ++ l) last)
    ∙ filter_map-append (paged page) (unended ps ps) ((k, x) ∷ [])
    ∙ ap (λ l. unended_locals page ps ++ l) (one_local (paged_local (page k) x))

or_true : (b : Bool) → (b || true) ≡ true
or_true true = refl
or_true false = refl

-- no local outlives a main item
ended-all : (qs ps : List Indexed) (k : ℕ) (x : ItemType) → AreBelow k ps → is_main x ≡ true
    → unended (qs ++ (k, x) ∷ []) ps ≡ []
ended-all qs [] k x below main = refl
ended-all qs (p ∷ ps) k x below main =
    let here : nat_lt p.0 k ≡ true = grind (arith, common_steps) in
    let ended : is_ended (qs ++ (k, x) ∷ []) p ≡ true =
    list_any-append (λ (q : Indexed). is_main q.1 && nat_lt p.0 q.0) qs ((k, x) ∷ [])
    ∙ ap (λ b. is_ended qs p || ((b && nat_lt p.0 k) || false)) main
    ∙ ap (λ b. is_ended qs p || (b || false)) here ∙ or_true (is_ended qs p) in
    ap (λ b. cond (not b) (p ∷ unended (qs ++ (k, x) ∷ []) ps) (unended (qs ++ (k, x) ∷ []) ps))
    ended ∙ ended-all qs ps k x below.1 main

main_is_no_local : (x : ItemType) → is_main x ≡ true → local_of x ≡ None
main_is_no_local (item.Main y) h = refl
main_is_no_local (item.Global y) h = cc
main_is_no_local (item.Local y) h = cc
main_is_no_local item.Long h = cc
main_is_no_local item.Reserved h = cc

last_no_local : (page : ℕ → Option ℕ) (b : Bool) (k : ℕ) (x : ItemType) → local_of x ≡ None
    → filter_map (paged page) (cond b ((k, x) ∷ []) []) ≡ []
last_no_local page true k x none = rw none refl
last_no_local page false k x none = refl

unended_locals-main : (page : ℕ → Option ℕ) (ps : List Indexed) (k : ℕ) (x : ItemType)
    → AreBelow k ps → is_main x ≡ true → unended_locals page (ps ++ (k, x) ∷ []) ≡ []
unended_locals-main page ps k x below main =
    let qs = ps ++ (k, x) ∷ [] in
    ap (filter_map (paged page))
    (filter-append (λ (p : Indexed). not (is_ended qs p)) ps ((k, x) ∷ [])
    ∙ ap (λ l. l ++ unended qs ((k, x) ∷ [])) (ended-all ps ps k x below main))
    ∙ last_no_local page (not (is_ended qs (k, x))) k x (main_is_no_local x main)

pub unended_locals-next : (page : ℕ → Option ℕ) (b : Bool) (ps : List Indexed) (k : ℕ)
    (x : ItemType) → AreBelow k ps → is_main x ≡ b
    → unended_locals page (ps ++ (k, x) ∷ [])
    ≡ (cond b [] (unended_locals page ps ++ option_to_list (paged_local (page k) x)))
unended_locals-next page true ps k x below main = unended_locals-main page ps k x below main
unended_locals-next page false ps k x below main = unended_locals-plain page ps k x below main

-- what is in force behind these visible items
abbrev pub item_states : UsagesBy → (ℕ → Option ℕ) → List Indexed → ItemState
item_states by page ps = record {
  usage_page = last_value usage_page_of ps;
  logical_minimum = last_value logical_minimum_of ps;
  logical_maximum = last_value logical_maximum_of ps;
  physical_minimum = last_value physical_minimum_of ps;
  physical_maximum = last_value physical_maximum_of ps;
  unit_exponent = last_value unit_exponent_of ps;
  unit = last_value unit_of ps;
  report_size = last_value report_size_of ps;
  report_id = last_value report_id_of ps;
  report_count = last_value report_count_of ps;
  locals = unended_locals page ps;
  usages_by = by;
}

pub item_states-next : (by : UsagesBy) (page : ℕ → Option ℕ) (ps : List Indexed) (k : ℕ)
    (x : ItemType) → AreBelow k ps → page k ≡ last_value usage_page_of ps
    → item_states by page (ps ++ (k, x) ∷ []) ≡ next_item_state (item_states by page ps) x
item_states-next by page ps k x below here =
    let p : Indexed = (k, x) in
    let page_next = last_value-next usage_page_of ps p in
    let low = last_value-next logical_minimum_of ps p in
    let high = last_value-next logical_maximum_of ps p in
    let plow = last_value-next physical_minimum_of ps p in
    let phigh = last_value-next physical_maximum_of ps p in
    let exponent = last_value-next unit_exponent_of ps p in
    let unit = last_value-next unit_of ps p in
    let size = last_value-next report_size_of ps p in
    let id = last_value-next report_id_of ps p in
    let count = last_value-next report_count_of ps p in
    let locals = unended_locals-next page (is_main x) ps k x below refl
    ∙ ap (λ o. cond (is_main x) [] (unended_locals page ps ++ option_to_list (paged_local o x)))
    here in
    cc
