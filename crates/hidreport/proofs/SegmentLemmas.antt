-- A segment without main items is as if it weren't there.
use Rattle.std.proofs.Common.{◌≡◌, ℕ, suc, ◌+◌, ◌-◌, ◌<◌, ◌≤◌, Bool, true, false, cond, nat_lt}
use Rattle.std.proofs.Common.{List, [], ◌∷◌, ◌++◌, length, take, map, count_by, Option}
use Rattle.std.proofs.Common.{None, Some, Result, Ok, Err, refl, sym, ap, ◌∙◌}
use Rattle.std.proofs.Common.{subst, append-nil, append_assoc, arith}
use Rattle.std.specs.List.{list_any}
use Rattle.std.proofs.Math.Seq.{take-append-add}
use Rattle.std.proofs.lemmas.Grind.{common_steps}
use Rattle.hidreport_items.specs.declared.global.GlobalItem.TheVariants as global
use Rattle.hidreport_items.specs.declared.item.ItemType.{ItemType}
use Rattle.hidreport_items.specs.declared.item.ItemType.TheVariants as item
use Rattle.hidreport.specs.MeaningFault.{MeaningFault}
use Rattle.hidreport.specs.ItemState.{ItemState}
use Rattle.hidreport.specs.Kinds.{is_main, is_push, is_pop}
use Rattle.hidreport.specs.Parser.Machine.{StateRecord, after_pop, pushed_copy, fault_in, step}
use Rattle.hidreport.specs.Parser.Machine.{go_on}
use Rattle.hidreport.specs.Parser.Machine.{last_item_state, next_item_state, next_state}
use Rattle.hidreport.specs.Parser.Machine.{first_state}
use Rattle.hidreport.specs.Parser.Machine.{unless_fault}
use Rattle.hidreport.specs.Parser.Budget.{is_past, left_behind, stop_in, walk_within, weight_in}
use Rattle.hidreport_items.specs.Spelling.{item_of}
use Rattle.hidreport_lists.specs.Entry.{Entry}
use Rattle.hidreport_lists.specs.Itemising.{itemise}
use Rattle.hidreport.specs.Budget.{meaning_within_by, parse_items_within}
use Rattle.hidreport.specs.Meaning.{InForce, meaning_by, parse_items, at_offset}
use Rattle.hidreport_fields.specs.Records.{DescriptorRecord}
use Rattle.hidreport.specs.Segments.{IsMatched, with_segment, moved_fault}
use Rattle.hidreport.specs.declared.parser.push_keeps.PushKeeps.{PushKeeps}
use Rattle.hidreport.proofs.DataLemmas.{quiet, step-push, step-pop, last_item_state-end}
use Rattle.hidreport.proofs.DataLemmas.{all-but-last}
use Rattle.hidreport.proofs.ReportLemmas.{or_cases}
use Rattle.hidreport.specs.Laws.{Spares, parse_any}
use Rattle.hidreport.specs.Options.{meaning_as, meaning_limited, parse_limited, reading_of}
use Rattle.hidreport.specs.declared.parse_options.ParseOptions.{ParseOptions}
use Rattle.hidreport.proofs.BudgetWalkLemmas.{meaning-walk}
use Rattle.hidreport.proofs.ParseLemmas.{goes-on, nothing-spent, nothing-within}
use Rattle.hidreport.proofs.PushReadings.{Returns, returns-back, returns-next, returns-own}
use Rattle.hidreport.proofs.PushReadings.{spares-next}

abbrev pub Answer : Type 0
Answer = Result DescriptorRecord (ℕ × MeaningFault)

-- what an item leads to, and what is left behind it
abbrev goes : Option ℕ → StateRecord → ItemType → Result StateRecord MeaningFault
goes left h x = unless_fault (stop_in left h x) (next_state h x)

abbrev spent : Option ℕ → StateRecord → ItemType → Option ℕ
spent left h x = left_behind left (weight_in h x)

-- an item that weighs nothing and has no fault
step-ok : (left : Option ℕ) (h next : StateRecord) (k : ℕ) (x : ItemType) (xs : List ItemType)
    → step h x ≡ Ok next → weight_in h x ≡ 0
    → walk_within left h k (x ∷ xs) ≡ walk_within left next (k + 1) xs
step-ok left h next k x xs e light =
    ap (λ r. go_on r k (λ n. walk_within (spent left h x) n (k + 1) xs))
    (goes-on left h next x (fault_in h x) refl e
    (ap (is_past left) light ∙ nothing-within left))
    ∙ ap (λ l. walk_within l next (k + 1) xs) (ap (left_behind left) light ∙ nothing-spent left)

moved-by : (r : Result StateRecord MeaningFault) (left : Option ℕ) (h : StateRecord) (at n k : ℕ)
    (x : ItemType) (xs : List ItemType) → goes left h x ≡ r → at ≤ k
    → ((next : StateRecord) → moved_fault at n (walk_within (spent left h x) next (k + 1) xs)
    ≡ walk_within (spent left h x) next (k + 1 + n) xs)
    → moved_fault at n (walk_within left h k (x ∷ xs)) ≡ walk_within left h (k + n) (x ∷ xs)
moved-by (Ok next) left h at n k x xs e le rest =
    let more = spent left h x in
    ap (λ r. moved_fault at n (go_on r k (λ m. walk_within more m (k + 1) xs))) e ∙ rest next
    ∙ ap (λ p. walk_within more next p xs) (let p : k + 1 + n ≡ k + n + 1 = omega arith in p)
    ∙ sym (ap (λ r. go_on r (k + n) (λ m. walk_within more m (k + n + 1) xs)) e)
moved-by (Err f) left h at n k x xs e le rest =
    let behind : nat_lt k at ≡ false = grind (arith, common_steps) in
    let more = spent left h x in
    ap (λ r. moved_fault at n (go_on r k (λ m. walk_within more m (k + 1) xs))) e
    ∙ ap (λ b. Err (cond b k (k + n), f)) behind
    ∙ sym (ap (λ r. go_on r (k + n) (λ m. walk_within more m (k + n + 1) xs)) e)

-- faults behind the place move with their items
moved-behind : (left : Option ℕ) (h : StateRecord) (at n k : ℕ) (xs : List ItemType) → at ≤ k
    → moved_fault at n (walk_within left h k xs) ≡ walk_within left h (k + n) xs
moved-behind left h at n k [] le = refl
moved-behind left h at n k (x ∷ xs) le =
    moved-by (goes left h x) left h at n k x xs refl le
    (λ next. moved-behind (spent left h x) next at n (k + 1) xs (omega (arith, le)))

front-by : (r : Result StateRecord MeaningFault) (left : Option ℕ) (h : StateRecord) (n k : ℕ)
    (x : ItemType) (xs more rest : List ItemType) → goes left h x ≡ r
    → ((next : StateRecord) → goes left h x ≡ Ok next
    → walk_within (spent left h x) next (k + 1) (xs ++ more) ≡ moved_fault (k + 1 + length xs) n
    (walk_within (spent left h x) next (k + 1) (xs ++ rest)))
    → walk_within left h k (x ∷ (xs ++ more)) ≡ moved_fault (k + suc (length xs)) n
    (walk_within left h k (x ∷ (xs ++ rest)))
front-by (Ok next) left h n k x xs more rest e later =
    let l = spent left h x in
    ap (λ r. go_on r k (λ m. walk_within l m (k + 1) (xs ++ more))) e ∙ later next e
    ∙ ap (λ p. moved_fault p n (walk_within l next (k + 1) (xs ++ rest)))
    (let p : k + 1 + length xs ≡ k + suc (length xs) = omega arith in p)
    ∙ ap (moved_fault (k + suc (length xs)) n)
    (sym (ap (λ r. go_on r k (λ m. walk_within l m (k + 1) (xs ++ rest))) e))
front-by (Err f) left h n k x xs more rest e later =
    let before : nat_lt k (k + suc (length xs)) ≡ true = grind (arith, common_steps) in
    let l = spent left h x in
    ap (λ r. go_on r k (λ m. walk_within l m (k + 1) (xs ++ more))) e
    ∙ sym (ap (λ r. moved_fault (k + suc (length xs)) n
    (go_on r k (λ m. walk_within l m (k + 1) (xs ++ rest)))) e
    ∙ ap (λ b. Err (cond b k (k + n), f)) before)

-- what a Push keeps is the same behind every item
push_keeps-by : (o : Option MeaningFault) (h next : StateRecord) (x : ItemType)
    → unless_fault o (next_state h x) ≡ Ok next → next.push_keeps ≡ h.push_keeps
push_keeps-by None h next x e = let same : next_state h x
    ≡ next = cc in ap (λ (g : StateRecord). g.push_keeps)
    (sym same)
push_keeps-by (Some fault) h next x e = cc

-- what changes nothing behind a front changes nothing behind more
front-stack : (push_keeps : PushKeeps) (front more rest : List ItemType) (n : ℕ)
    → ((left : Option ℕ) (h : StateRecord) (k : ℕ) → h.push_keeps ≡ push_keeps
    → walk_within left h k more ≡ walk_within left h (k + n) rest)
    → (left : Option ℕ) (h : StateRecord) (k : ℕ) → h.push_keeps ≡ push_keeps
    → walk_within left h k (front ++ more)
    ≡ moved_fault (k + length front) n (walk_within left h k (front ++ rest))
front-stack push_keeps [] more rest n same left h k is =
    same left h k is ∙ sym (moved-behind left h (k + 0) n k rest (omega arith))
front-stack push_keeps (x ∷ xs) more rest n same left h k is =
    front-by (goes left h x) left h n k x xs more rest refl
    (λ next e. front-stack push_keeps xs more rest n same (spent left h x) next (k + 1)
    (push_keeps-by (stop_in left h x) h next x e ∙ is))

-- what is held inside a segment: other values in force, and more kept
abbrev pub inside : StateRecord → ItemState → List ItemState → StateRecord
inside h f ts = record h {
  item_state = f;
  stack = (h.stack ++ pushed_copy h.push_keeps h.item_state ∷ []) ++ ts;
}

-- what holds of the items up to the segment's Pop, with so many Pushes open inside it
pub record Closes (push_keeps : PushKeeps) (n : ℕ) (xs : List ItemType) : Type 0 where
  pub spares : Spares push_keeps xs
  pub idle : list_any is_main xs ≡ false
  pub within : (m : ℕ) → count_by is_pop (take m xs) ≤ n + count_by is_push (take m xs)
  pub closed : count_by is_pop xs ≡ n + count_by is_push xs

abbrev pub one_if : Bool → ℕ
one_if b = cond b 1 0

count-cons : (p : ItemType → Bool) (x : ItemType) (xs : List ItemType)
    → count_by p (x ∷ xs) ≡ cond (p x) 1 0 + count_by p xs
count-cons p x xs = grind (arith, common_steps)

plain-inside : (h : StateRecord) (x : ItemType) → is_main x ≡ false → is_push x ≡ false
    → is_pop x ≡ false
    → step h x ≡ Ok (record h { item_state = next_item_state h.item_state x })
plain-inside h (item.Main y) a b c = cc
plain-inside h (item.Global global.Push) a b c = cc
plain-inside h (item.Global global.Pop) a b c = cc
plain-inside h (item.Global g) a b c = quiet h
    (next_item_state h.item_state (item.Global g)) h.stack
plain-inside h (item.Local y) a b c = quiet h (next_item_state h.item_state (item.Local y)) h.stack
plain-inside h item.Long a b c = quiet h (next_item_state h.item_state item.Long) h.stack
plain-inside h item.Reserved a b c = quiet h (next_item_state h.item_state item.Reserved) h.stack

is-push : (x : ItemType) → is_push x ≡ true → x ≡ item.Global global.Push
is-push (item.Global global.Push) e = refl
is-push x e = cc

is-pop : (x : ItemType) → is_pop x ≡ true → x ≡ item.Global global.Pop
is-pop (item.Global global.Pop) e = refl
is-pop x e = cc

-- the conditions on the rest, behind one item
closes-next : (push_keeps : PushKeeps) (n m : ℕ) (x : ItemType) (xs : List ItemType)
    → Closes push_keeps n (x ∷ xs) → m + cond (is_pop x) 1 0 ≡ n + cond (is_push x) 1 0
    → Closes push_keeps m xs
closes-next push_keeps n m x xs c e = record {
  spares = spares-next push_keeps x xs c.spares;
  idle = (or_cases (is_main x) (list_any is_main xs) c.idle).1;
  within = λ i. omega (
    arith,
    c.within (suc i),
    count-cons is_pop x (take i xs),
    count-cons is_push
        x (take i xs),
    e,
  );
  closed = omega (arith, c.closed, count-cons is_pop x xs, count-cons is_push x xs, e);
}

none-left : (ts : List ItemState) → length ts ≡ 0 → ts ≡ []
none-left [] e = refl
none-left (t ∷ ts) e = absurd (omega (arith, e))

take-stack : (base ts : List ItemState) → 0 < length ts
    → take (length (base ++ ts) - 1) (base ++ ts) ≡ base ++ take (length ts - 1) ts
take-stack base ts some =
    let size : length (base ++ ts) ≡ length base + length ts = grind (arith, common_steps) in
    ap (λ n. take n (base ++ ts))
    (let e : length (base ++ ts) - 1 ≡ length base + (length ts - 1) = omega
    (arith, size, some) in e) ∙ take-append-add base ts (length ts - 1)

length-less : (ts : List ItemState) → length (take (length ts - 1) ts) ≡ length ts - 1
length-less ts = grind (arith, common_steps)

-- no item but a main item weighs
light : (h : StateRecord) (x : ItemType) → is_main x ≡ false → weight_in h x ≡ 0
light h (item.Main y) e = cc
light h (item.Global g) e = refl
light h (item.Local y) e = refl
light h item.Long e = refl
light h item.Reserved e = refl

no-main : (x : ItemType) (xs : List ItemType) → list_any is_main (x ∷ xs) ≡ false
    → is_main x ≡ false
no-main x xs e = (or_cases (is_main x) (list_any is_main xs) e).0

abbrev pub InsideGoesOn : Option ℕ → StateRecord → ℕ → List ItemType → List ItemType → Type 0
InsideGoesOn left h n xs rest = (f : ItemState) (ts : List ItemState) (k : ℕ) → length ts ≡ n
    → Closes h.push_keeps n xs → Returns h.push_keeps f h.item_state
    → walk_within left (inside h f ts) k (xs ++ (item.Global global.Pop ∷ rest)) ≡ walk_within left h (k + length xs + 1)
    rest

inside-end : (left : Option ℕ) (h : StateRecord) (f : ItemState) (ts : List ItemState) (k n : ℕ)
    (rest : List ItemType)
    → length ts ≡ n → Closes h.push_keeps n [] → Returns h.push_keeps f h.item_state
    → walk_within left (inside h f ts) k (item.Global global.Pop ∷ rest) ≡ walk_within left h (k + 0 + 1) rest
inside-end left h f ts k n rest size c back =
    let none : ts ≡ [] = none-left ts (omega (arith, size, c.closed)) in
    let own = pushed_copy h.push_keeps h.item_state in
    let base = h.stack ++ own ∷ [] in
    let alone : inside h f ts ≡ record h { item_state = f; stack = base } =
    ap (λ (l : List ItemState). record h { item_state = f; stack = l })
    (ap (λ l. base ++ l) none ∙ append-nil base) in
    let some : 0 < length base =
    let s : length base ≡ suc (length h.stack) =
    grind (arith, common_steps) in omega (arith, s) in
    let popped : step (record h { item_state = f; stack = base }) (item.Global global.Pop) ≡ Ok h =
    step-pop (record h { item_state = f; stack = base }) some
    ∙ ap (λ (g : ItemState). Ok (record h
    { item_state = after_pop h.push_keeps f g; stack = take (length base - 1) base }))
    (last_item_state-end f own h.stack)
    ∙ ap (λ (g : ItemState). Ok (record h { item_state = g; stack = take (length base - 1) base }))
    back
    ∙ ap (λ (l : List ItemState). Ok (record h { stack = l })) (all-but-last own h.stack) in
    ap (λ (g : StateRecord). walk_within left g k (item.Global global.Pop ∷ rest)) alone
    ∙ step-ok left (record h { item_state = f; stack = base }) h k (item.Global global.Pop) rest
    popped refl
    ∙ ap (λ p. walk_within left h p rest) (let p : k + 1 ≡ k + 0 + 1 = omega arith in p)

inside-by : (a b : Bool) (left : Option ℕ) (h : StateRecord) (f : ItemState) (ts : List ItemState) (k n : ℕ)
    (x : ItemType)
    (xs rest : List ItemType) → is_push x ≡ a → is_pop x ≡ b → length ts ≡ n
    → Closes h.push_keeps n (x ∷ xs) → Returns h.push_keeps f h.item_state
    → ((m : ℕ) → InsideGoesOn left h m xs rest)
    → walk_within left (inside h f ts) k (x ∷ (xs ++ (item.Global global.Pop ∷ rest))) ≡ walk_within left h
    (k + suc (length xs) + 1) rest
inside-by true b left h f ts k n x xs rest push pop size c back later =
    let own = pushed_copy h.push_keeps h.item_state in
    let base = h.stack ++ own ∷ [] in
    let no_pop : is_pop x ≡ false = ap is_pop (is-push x push) in
    let stepped : step (inside h f ts) x ≡ Ok (inside h f (ts ++ pushed_copy h.push_keeps f ∷ [])) =
    ap (step (inside h f ts)) (is-push x push) ∙ step-push (inside h f ts)
    ∙ ap (λ (l : List ItemState). Ok (record h { item_state = f; stack = l }))
    (append_assoc base ts (pushed_copy h.push_keeps f ∷ [])) in
    let longer : length (ts ++ pushed_copy h.push_keeps f ∷ []) ≡ suc n =
    let s : length (ts ++ pushed_copy h.push_keeps f ∷ []) ≡ suc (length ts) =
    grind (arith, common_steps) in omega (arith, s, size) in
    let next : Closes h.push_keeps (suc n) xs =
    closes-next h.push_keeps n (suc n) x xs c (omega (arith, ap one_if push, ap one_if no_pop))
    in
    step-ok left (inside h f ts) (inside h f (ts ++ pushed_copy h.push_keeps f ∷ [])) k x
    (xs ++ (item.Global global.Pop ∷ rest)) stepped (light (inside h f ts) x (no-main x xs c.idle))
    ∙ later (suc n) f (ts ++ pushed_copy h.push_keeps f ∷ []) (k + 1) longer next back
    ∙ ap (λ p. walk_within left h p rest)
    (let p : k + 1 + length xs + 1 ≡ k + suc (length xs) + 1 = omega arith in p)
inside-by false true left h f ts k n x xs rest push pop size c back later =
    let own = pushed_copy h.push_keeps h.item_state in
    let base = h.stack ++ own ∷ [] in
    let open_inside : 0 < n = omega (
      arith,
      c.within 1,
      count-cons is_pop x (take 0 xs),
      count-cons is_push x (take 0 xs),
      ap one_if push,
      ap one_if pop,
    ) in
    let some : 0 < length (base ++ ts) =
    let s : length (base ++ ts) ≡ length base + length ts =
    grind (arith, common_steps) in omega (arith, s, size, open_inside) in
    let g = after_pop h.push_keeps f (last_item_state f (base ++ ts)) in
    let fewer = take (length ts - 1) ts in
    let stepped : step (inside h f ts) x ≡ Ok (inside h g fewer) =
    ap (step (inside h f ts)) (is-pop x pop) ∙ step-pop (inside h f ts) some
    ∙ ap (λ (l : List ItemState). Ok (record h { item_state = g; stack = l }))
    (take-stack base ts (omega (arith, size, open_inside))) in
    let shorter : length fewer ≡ n - 1 = omega (arith, length-less ts, size) in
    let next : Closes h.push_keeps (n - 1) xs =
    closes-next h.push_keeps n (n - 1) x xs c
    (omega (arith, ap one_if push, ap one_if pop, open_inside)) in
    step-ok left (inside h f ts) (inside h g fewer) k x (xs ++ (item.Global global.Pop ∷ rest))
    stepped (light (inside h f ts) x (no-main x xs c.idle))
    ∙ later (n - 1) g fewer (k + 1) shorter next
    (returns-back h.push_keeps f h.item_state (last_item_state f (base ++ ts)) back)
    ∙ ap (λ p. walk_within left h p rest)
    (let p : k + 1 + length xs + 1 ≡ k + suc (length xs) + 1 = omega arith in p)
inside-by false false left h f ts k n x xs rest push pop size c back later =
    let plain : is_main x ≡ false = (or_cases (is_main x) (list_any is_main xs) c.idle).0 in
    let next : Closes h.push_keeps n xs =
    closes-next h.push_keeps n n x xs c (omega (arith, ap one_if push, ap one_if pop)) in
    step-ok left (inside h f ts) (inside h (next_item_state f x) ts) k x
    (xs ++ (item.Global global.Pop ∷ rest)) (plain-inside (inside h f ts) x plain push pop)
    (light (inside h f ts) x plain)
    ∙ later n (next_item_state f x) ts (k + 1) size next
    (returns-next h.push_keeps f h.item_state x xs plain c.spares back)
    ∙ ap (λ p. walk_within left h p rest)
    (let p : k + 1 + length xs + 1 ≡ k + suc (length xs) + 1 = omega arith in p)

inside-on : (left : Option ℕ) (h : StateRecord) (xs rest : List ItemType) (n : ℕ) → InsideGoesOn left h n xs rest
inside-on left h [] rest n f ts k size c back = inside-end left h f ts k n rest size c back
inside-on left h (x ∷ xs) rest n f ts k size c back =
    inside-by (is_push x) (is_pop x) left h f ts k n x xs rest refl refl size c back
    (λ m. inside-on left h xs rest m)

-- a segment changes nothing
segment-stack : (xs rest : List ItemType) → IsMatched xs → (left : Option ℕ) (h : StateRecord)
    (k : ℕ)
    → Spares h.push_keeps xs
    → walk_within left h k (item.Global global.Push ∷ (xs ++ (item.Global global.Pop ∷ rest))) ≡ walk_within left h
    (k + (length xs + 2)) rest
segment-stack xs rest m left h k spares =
    let own = pushed_copy h.push_keeps h.item_state in
    let base = h.stack ++ own ∷ [] in
    let stepped : step h (item.Global global.Push) ≡ Ok (inside h h.item_state []) =
    step-push h ∙ ap (λ (l : List ItemState). Ok (record h { stack = l }))
    (sym (append-nil base)) in
    let c : Closes h.push_keeps 0 xs =
    record {
      spares = spares;
      idle = m.idle;
      within = λ i. omega (arith, m.within i);
      closed = omega (arith, m.closed);
    } in
    step-ok left h (inside h h.item_state []) k (item.Global global.Push)
    (xs ++ (item.Global global.Pop ∷ rest)) stepped refl
    ∙ inside-on left h xs rest 0 h.item_state [] (k + 1) refl c (returns-own h.push_keeps h.item_state)
    ∙ ap (λ p. walk_within left h p rest) (let p : k + 1 + length xs + 1 ≡ k + (length xs + 2) = omega arith in
    p)

-- the meaning is that of the items around it
pub meaning-struck : (options : ParseOptions) (front xs rest : List ItemType) → IsMatched xs
    → Spares options.push_keeps xs
    → meaning_as options (with_segment front xs rest)
    ≡ moved_fault (length front) (length xs + 2) (meaning_as options (front ++ rest))
meaning-struck options front xs rest m spares =
    let held = first_state options in
    let left = options.limit in
    meaning-walk options (with_segment front xs rest)
    ∙ front-stack options.push_keeps front
    (item.Global global.Push ∷ (xs ++ (item.Global global.Pop ∷ rest))) rest (length xs + 2)
    (λ l h k e. segment-stack xs rest m l h k (subst (λ r. Spares r xs) (sym e) spares)) left held
    0 refl
    ∙ ap (λ p. moved_fault p (length xs + 2) (walk_within left held 0 (front ++ rest)))
    (let p : 0 + length front ≡ length front = omega arith in p)
    ∙ ap (moved_fault (length front) (length xs + 2)) (sym (meaning-walk options (front ++ rest)))

struck-by : (reading : InForce) (limit : Option ℕ) (bytes : List ℕ) (entries : List Entry)
    (items : List ItemType) → itemise item_of bytes ≡ Ok entries
    → map (λ (e : Entry). e.item) entries ≡ items
    → parse_limited reading limit bytes ≡ at_offset entries (meaning_limited reading limit items)
struck-by reading limit [] entries items e is = cc
struck-by reading None (b ∷ bs) entries items e is =
    ap (parse_items reading) e
    ∙ ap (λ (l : List ItemType). at_offset entries (meaning_by reading l)) is
struck-by reading (Some limit) (b ∷ bs) entries items e is =
    ap (parse_items_within reading limit) e
    ∙ ap (λ (l : List ItemType). at_offset entries (meaning_within_by reading limit l)) is

-- the same of a descriptor's bytes
pub parse-struck : (options : ParseOptions) (bytes : List ℕ) (entries : List Entry)
    (front xs rest : List ItemType) → itemise item_of bytes ≡ Ok entries → IsMatched xs
    → Spares options.push_keeps xs
    → map (λ (e : Entry). e.item) entries ≡ with_segment front xs rest
    → parse_any options bytes ≡ at_offset entries
    (moved_fault (length front) (length xs + 2) (meaning_as options (front ++ rest)))
parse-struck options bytes entries front xs rest e m spares is =
    struck-by (reading_of options) options.limit bytes entries (with_segment front xs rest) e is
    ∙ ap (at_offset entries) (meaning-struck options front xs rest m spares)
