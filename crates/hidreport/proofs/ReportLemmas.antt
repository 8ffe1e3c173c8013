-- Reports go on item by item.
use Rattle.std.proofs.Common.{◌≡◌, ℕ, ◌+◌, Bool, true, false, cond, ◌||◌, List, [], ◌∷◌, ◌++◌, map}
use Rattle.std.proofs.Common.{Option, None, Some, filter, refl, sym, ap, ◌∙◌, subst, append-nil}
use Rattle.std.proofs.Common.{add-zero, arith}
use Rattle.std.specs.Prelude.{flat_map, sum_by}
use Rattle.std.specs.List.{list_any}
use Rattle.std.proofs.lemmas.Grind.{common_steps, flat_map-append}
use Rattle.std.proofs.lemmas.List.{map-append}
use Rattle.std.proofs.lemmas.List.Elements.{filter-append}
use Rattle.std.proofs.lemmas.List.Sums.{sum_by-append}
use Rattle.hidreport.specs.Kinds.{Indexed}
use Rattle.hidreport.specs.Parser.Machine.{report_made, reports_made, size_in, added_to}
use Rattle.hidreport_fields.specs.ReportIds.{same_key}
use Rattle.hidreport.specs.Meaning.{firsts_after}
use Rattle.hidreport_fields.specs.ReportIds.{id_bits}
use Rattle.hidreport_fields.specs.Records.{ReportOf}
use Rattle.hidreport.proofs.ItemStateLemmas.{or_false}

-- keys that compare alike are one
pub same_key-equal : (a b : Option ℕ) → same_key a b ≡ true → a ≡ b
same_key-equal None None h = refl
same_key-equal (Some a) (Some b) h = ap Some (grind (arith, common_steps))
same_key-equal None (Some b) h = cc
same_key-equal (Some a) None h = cc

pub same_key-refl : (a : Option ℕ) → same_key a a ≡ true
same_key-refl None = refl
same_key-refl (Some a) = grind (arith, common_steps)

same_key-sym : (a b : Option ℕ) → same_key a b ≡ same_key b a
same_key-sym None None = refl
same_key-sym (Some a) (Some b) = grind (arith, common_steps)
same_key-sym None (Some b) = refl
same_key-sym (Some a) None = refl

-- the key is among these
abbrev pub is_among : Option ℕ → List (Option ℕ) → Bool
is_among x xs = list_any (same_key x) xs

not_both : {A : Type 0} (b : Bool) → b ≡ true → b ≡ false → A
not_both b p q = cc

pub or_cases : (a b : Bool) → (a || b) ≡ false → (a ≡ false) × (b ≡ false)
or_cases true b h = cc
or_cases false b h = (refl, h)

or_right : (a b : Bool) → b ≡ true → (a || b) ≡ true
or_right true b h = refl
or_right false b h = h

avoids-new : (b : Bool) (y x : Option ℕ) (seen xs : List (Option ℕ)) → same_key y x ≡ b
    → is_among x seen ≡ false → is_among y seen ≡ true
    → is_among y (firsts_after (x ∷ seen) xs) ≡ false
    → (b || is_among y (firsts_after (x ∷ seen) xs)) ≡ false
avoids-new true y x seen xs s e h ih =
    not_both (is_among x seen) (subst (λ z. is_among z seen ≡ true) (same_key-equal y x s) h) e
avoids-new false y x seen xs s e h ih = ih

avoids-by : (b : Bool) (y x : Option ℕ) (seen xs : List (Option ℕ)) → is_among x seen ≡ b
    → is_among y seen ≡ true
    → is_among y (firsts_after seen xs) ≡ false → is_among y (firsts_after (x ∷ seen) xs) ≡ false
    → is_among y (cond b (firsts_after seen xs) (x ∷ firsts_after (x ∷ seen) xs)) ≡ false
avoids-by true y x seen xs e h old new = old
avoids-by false y x seen xs e h old new = avoids-new (same_key y x) y x seen xs refl e h new

-- a key that was seen isn't listed again
avoids : (y : Option ℕ) (seen xs : List (Option ℕ)) → is_among y seen ≡ true
    → is_among y (firsts_after seen xs) ≡ false
avoids y seen [] h = refl
avoids y seen (x ∷ xs) h =
    avoids-by (is_among x seen) y x seen xs refl h (avoids y seen xs h)
    (avoids y (x ∷ seen) xs (or_right (same_key y x) (is_among y seen) h))

-- each key is listed once
abbrev pub Distinct : List (Option ℕ) → Type 0
Distinct [] = Unit {0}
Distinct (x ∷ xs) = (is_among x xs ≡ false) × Distinct xs

distinct-by : (b : Bool) (x : Option ℕ) (seen xs : List (Option ℕ))
    → Distinct (firsts_after seen xs) → Distinct (firsts_after (x ∷ seen) xs)
    → Distinct (cond b (firsts_after seen xs) (x ∷ firsts_after (x ∷ seen) xs))
distinct-by true x seen xs old new = old
distinct-by false x seen xs old new =
    (avoids x (x ∷ seen) xs (ap (λ b. b || is_among x seen) (same_key-refl x)), new)

firsts-distinct : (seen xs : List (Option ℕ)) → Distinct (firsts_after seen xs)
firsts-distinct seen [] = tt
firsts-distinct seen (x ∷ xs) =
    distinct-by (is_among x seen) x seen xs (firsts-distinct seen xs)
    (firsts-distinct (x ∷ seen) xs)

-- a key that wasn't seen is listed where it is there
listed-new : (b : Bool) (y x : Option ℕ) (seen xs : List (Option ℕ)) → same_key y x ≡ b
    → is_among y seen ≡ false
    → (is_among y (x ∷ seen) ≡ false → is_among y (firsts_after (x ∷ seen) xs) ≡ is_among y xs)
    → (b || is_among y (firsts_after (x ∷ seen) xs)) ≡ (b || is_among y xs)
listed-new true y x seen xs s n new = refl
listed-new false y x seen xs s n new = new (ap (λ b. b || is_among y seen) s ∙ n)

listed-seen : (b : Bool) (y x : Option ℕ) (seen xs : List (Option ℕ)) → same_key y x ≡ b
    → is_among y seen ≡ false → is_among x seen ≡ true
    → is_among y (firsts_after seen xs) ≡ is_among y xs
    → is_among y (firsts_after seen xs) ≡ (b || is_among y xs)
listed-seen true y x seen xs s n e old =
    not_both (is_among x seen) e (subst (λ z. is_among z seen ≡ false) (same_key-equal y x s) n)
listed-seen false y x seen xs s n e old = old

listed-by : (b : Bool) (y x : Option ℕ) (seen xs : List (Option ℕ)) → is_among x seen ≡ b
    → is_among y seen ≡ false
    → is_among y (firsts_after seen xs) ≡ is_among y xs
    → (is_among y (x ∷ seen) ≡ false → is_among y (firsts_after (x ∷ seen) xs) ≡ is_among y xs)
    → is_among y (cond b (firsts_after seen xs) (x ∷ firsts_after (x ∷ seen) xs))
    ≡ (same_key y x || is_among y xs)
listed-by true y x seen xs e n old new = listed-seen (same_key y x) y x seen xs refl n e old
listed-by false y x seen xs e n old new = listed-new (same_key y x) y x seen xs refl n new

listed : (y : Option ℕ) (seen xs : List (Option ℕ)) → is_among y seen ≡ false
    → is_among y (firsts_after seen xs) ≡ is_among y xs
listed y seen [] n = refl
listed y seen (x ∷ xs) n = listed-by (is_among x seen) y x seen xs refl n (listed y seen xs n)
    (listed y (x ∷ seen) xs)

or_swap : (a b c : Bool) → ((a || b) || c) ≡ (b || (a || c))
or_swap true true c = refl
or_swap true false c = refl
or_swap false true c = refl
or_swap false false c = refl

or_known : (a b c : Bool) → (a ≡ true → b ≡ true) → (b || c) ≡ (b || (a || c))
or_known true true c h = refl
or_known true false c h = not_both false (h refl) refl
or_known false b c h = refl

firsts-next-by : (b : Bool) (y x : Option ℕ) (seen xs : List (Option ℕ)) → is_among x seen ≡ b
    → firsts_after seen (xs ++ y ∷ []) ≡ firsts_after seen xs ++ cond
    (is_among y seen || is_among y xs) [] (y ∷ [])
    → firsts_after (x ∷ seen) (xs ++ y ∷ []) ≡ firsts_after (x ∷ seen) xs ++ cond
    (is_among y (x ∷ seen) || is_among y xs) [] (y ∷ [])
    → cond b (firsts_after seen (xs ++ y ∷ [])) (x ∷ firsts_after (x ∷ seen) (xs ++ y ∷ []))
    ≡ cond b (firsts_after seen xs) (x ∷ firsts_after (x ∷ seen) xs) ++ cond
    (is_among y seen || is_among y (x ∷ xs)) [] (y ∷ [])
firsts-next-by true y x seen xs e old new =
    old ∙ ap (λ d. firsts_after seen xs ++ cond d [] (y ∷ []))
    (or_known (same_key y x) (is_among y seen) (is_among y xs)
    (λ s. subst (λ z. is_among z seen ≡ true) (sym (same_key-equal y x s)) e))
firsts-next-by false y x seen xs e old new =
    ap (λ l. x ∷ l) new
    ∙ ap (λ d. x ∷ (firsts_after (x ∷ seen) xs ++ cond d [] (y ∷ [])))
    (or_swap (same_key y x) (is_among y seen) (is_among y xs))

firsts-next : (y : Option ℕ) (seen xs : List (Option ℕ))
    → firsts_after seen (xs ++ y ∷ []) ≡ firsts_after seen xs ++ cond
    (is_among y seen || is_among y xs) [] (y ∷ [])
firsts-next y seen [] = ap (λ d. cond d [] (y ∷ [])) (sym (or_false (is_among y seen)))
firsts-next y seen (x ∷ xs) = firsts-next-by (is_among x seen) y x seen xs refl
    (firsts-next y seen xs) (firsts-next y (x ∷ seen) xs)

-- the items that add to the report with this id
abbrev pub adding : (Indexed → Option ℕ) → Option ℕ → List Indexed → List Indexed
adding key id ms = filter (λ p. same_key (key p) id) ms

sum_by-one : (bits : Indexed → ℕ) (m : Indexed) → sum_by bits (m ∷ []) ≡ bits m
sum_by-one bits m = grind (arith, common_steps)

-- an item of the report's key extends it
report-extended : {A : Type 0} (key : Indexed → Option ℕ) (bits : Indexed → ℕ)
    (fields : Indexed → List A) (ms : List Indexed) (m : Indexed) (id : Option ℕ)
    → same_key (key m) id ≡ true
    → report_made key bits fields (ms ++ m ∷ []) id
    ≡ record {
      id = id;
      size = (report_made key bits fields ms id).size + bits m;
      fields = (report_made key bits fields ms id).fields ++ fields m;
    }
report-extended key bits fields ms m id same =
    let all : adding key id (ms ++ m ∷ []) ≡ adding key id ms ++ m ∷ [] =
    filter-append (λ p. same_key (key p) id) ms (m ∷ [])
    ∙ ap (λ b. adding key id ms ++ cond b (m ∷ []) []) same in
    let size : id_bits id + sum_by bits (adding key id (ms ++ m ∷ []))
    ≡ (id_bits id + sum_by bits (adding key id ms)) + bits m =
    ap (λ l. id_bits id + sum_by bits l) all
    ∙ ap (λ n. id_bits id + n) (sum_by-append bits (adding key id ms) (m ∷ []))
    ∙ ap (λ n. id_bits id + (sum_by bits (adding key id ms) + n)) (sum_by-one bits m)
    ∙ (let e : id_bits id + (sum_by bits (adding key id ms) + bits m)
    ≡ id_bits id + sum_by bits (adding key id ms) + bits m = omega arith in e) in
    let parts : flat_map fields (adding key id (ms ++ m ∷ [])) ≡ flat_map fields (adding key id ms)
    ++ fields m =
    ap (flat_map fields) all ∙ flat_map-append fields (adding key id ms) (m ∷ [])
    ∙ ap (λ l. flat_map fields (adding key id ms) ++ l) (append-nil (fields m)) in
    ap (λ n. record { id = id; size = n; fields = flat_map fields (adding key id (ms ++ m ∷ [])) })
    size
    ∙ ap (λ l. record {
      id = id;
      size = (id_bits id + sum_by bits (adding key id ms)) + bits m;
      fields = l;
    }) parts

-- another item leaves it
report-other : {A : Type 0} (key : Indexed → Option ℕ) (bits : Indexed → ℕ) (fields : Indexed → List A)
    (ms : List Indexed) (m : Indexed) (id : Option ℕ)
    → same_key (key m) id ≡ false
    → report_made key bits fields (ms ++ m ∷ []) id ≡ report_made key bits fields ms id
report-other key bits fields ms m id other =
    let all : adding key id (ms ++ m ∷ []) ≡ adding key id ms =
    filter-append (λ p. same_key (key p) id) ms (m ∷ [])
    ∙ ap (λ b. adding key id ms ++ cond b (m ∷ []) []) other ∙ append-nil (adding key id ms) in
    ap (λ l. record { id = id; size = id_bits id + sum_by bits l; fields = flat_map fields l }) all

-- no item adds to a report that isn't there
adding-none : (key : Indexed → Option ℕ) (id : Option ℕ) (ms : List Indexed)
    → is_among id (map key ms) ≡ false → adding key id ms ≡ []
adding-none key id [] n = refl
adding-none key id (m ∷ ms) n =
    let both = or_cases (same_key id (key m)) (is_among id (map key ms)) n in
    ap (λ b. cond b (m ∷ adding key id ms) (adding key id ms)) (same_key-sym (key m) id ∙ both.0)
    ∙ adding-none key id ms both.1

-- a report with more bits and fields
abbrev extended : {A : Type 0} → ReportOf A → Option ℕ → ℕ → List A → ReportOf A
extended r k bits fields = record { id = k; size = r.size + bits; fields = r.fields ++ fields }

-- where the id isn't among these keys their reports stay, and the new one stands behind them
absent : {A : Type 0} (key : Indexed → Option ℕ) (bits : Indexed → ℕ) (fields : Indexed → List A)
    (ms : List Indexed) (m : Indexed) (ks : List (Option ℕ))
    → is_among (key m) ks ≡ false
    → map (report_made key bits fields (ms ++ m ∷ [])) ks ++ record
    { id = key m; size = id_bits (key m) + bits m; fields = fields m } ∷ []
    ≡ added_to (key m) (bits m) (fields m) (map (report_made key bits fields ms) ks)
absent key bits fields ms m [] n = refl
absent {A} key bits fields ms m (k ∷ ks) n =
    let both = or_cases (same_key (key m) k) (is_among (key m) ks) n in
    let here = report-other key bits fields ms m k both.0 in
    let rest = absent key bits fields ms m ks both.1 in
    ap (λ (r : ReportOf A). r ∷ (map (report_made key bits fields (ms ++ m ∷ [])) ks ++ record
    { id = key m; size = id_bits (key m) + bits m; fields = fields m } ∷ [])) here
    ∙ ap (λ l. report_made key bits fields ms k ∷ l) rest
    ∙ ap (λ b. cond b (extended (report_made key bits fields ms k) k (bits m) (fields m)
    ∷ map (report_made key bits fields ms) ks) (report_made key bits fields ms k ∷ added_to (key m) (bits m) (fields m)
    (map (report_made key bits fields ms) ks)))
    (sym (same_key-sym k (key m) ∙ both.0))

-- reports of other keys stay
others : {A : Type 0} (key : Indexed → Option ℕ) (bits : Indexed → ℕ) (fields : Indexed → List A)
    (ms : List Indexed) (m : Indexed) (ks : List (Option ℕ))
    → is_among (key m) ks ≡ false
    → map (report_made key bits fields (ms ++ m ∷ [])) ks ≡ map (report_made key bits fields ms) ks
others key bits fields ms m [] n = refl
others {A} key bits fields ms m (k ∷ ks) n =
    let both = or_cases (same_key (key m) k) (is_among (key m) ks) n in
    ap (λ (r : ReportOf A). r ∷ map (report_made key bits fields (ms ++ m ∷ [])) ks)
    (report-other key bits fields ms m k both.0)
    ∙ ap (λ l. report_made key bits fields ms k ∷ l) (others key bits fields ms m ks both.1)

present-by : {A : Type 0} (b : Bool) (key : Indexed → Option ℕ) (bits : Indexed → ℕ)
    (fields : Indexed → List A) (ms : List Indexed) (m : Indexed) (k : Option ℕ)
    (ks : List (Option ℕ))
    → same_key (key m) k ≡ b → Distinct (k ∷ ks) → (b || is_among (key m) ks) ≡ true
    → (is_among (key m) ks ≡ true
    → map (report_made key bits fields (ms ++ m ∷ [])) ks ≡ added_to (key m) (bits m) (fields m)
    (map (report_made key bits fields ms) ks))
    → map (report_made key bits fields (ms ++ m ∷ [])) (k ∷ ks) ≡ added_to (key m) (bits m) (fields m)
    (map (report_made key bits fields ms) (k ∷ ks))
present-by {A} true key bits fields ms m k ks s d n rest =
    let same : key m ≡ k = same_key-equal (key m) k s in
    let none : is_among (key m) ks ≡ false = subst (λ z. is_among z ks ≡ false) (sym same) d.0 in
    ap (λ (r : ReportOf A). r ∷ map (report_made key bits fields (ms ++ m ∷ [])) ks)
    (report-extended key bits fields ms m k s)
    ∙ ap (λ l. extended (report_made key bits fields ms k) k (bits m) (fields m) ∷ l)
    (others key bits fields ms m ks none)
    ∙ ap (λ b. cond b (extended (report_made key bits fields ms k) k (bits m) (fields m)
    ∷ map (report_made key bits fields ms) ks) (report_made key bits fields ms k ∷ added_to (key m) (bits m) (fields m)
    (map (report_made key bits fields ms) ks)))
    (sym (same_key-sym k (key m) ∙ s))
present-by {A} false key bits fields ms m k ks s d n rest =
    ap (λ (r : ReportOf A). r ∷ map (report_made key bits fields (ms ++ m ∷ [])) ks)
    (report-other key bits fields ms m k s)
    ∙ ap (λ l. report_made key bits fields ms k ∷ l) (rest n)
    ∙ ap (λ b. cond b (extended (report_made key bits fields ms k) k (bits m) (fields m)
    ∷ map (report_made key bits fields ms) ks) (report_made key bits fields ms k ∷ added_to (key m) (bits m) (fields m)
    (map (report_made key bits fields ms) ks)))
    (sym (same_key-sym k (key m) ∙ s))

-- where it is among them, just its report is extended
present : {A : Type 0} (key : Indexed → Option ℕ) (bits : Indexed → ℕ) (fields : Indexed → List A)
    (ms : List Indexed) (m : Indexed) (ks : List (Option ℕ))
    → Distinct ks → is_among (key m) ks ≡ true
    → map (report_made key bits fields (ms ++ m ∷ [])) ks ≡ added_to (key m) (bits m) (fields m)
    (map (report_made key bits fields ms) ks)
present key bits fields ms m [] d n = cc
present key bits fields ms m (k ∷ ks) d n =
    present-by (same_key (key m) k) key bits fields ms m k ks refl d n
    (present key bits fields ms m ks d.1)

reports-next-by : {A : Type 0} (b : Bool) (key : Indexed → Option ℕ) (bits : Indexed → ℕ)
    (fields : Indexed → List A) (ms : List Indexed) (m : Indexed)
    → is_among (key m) (map key ms) ≡ b
    → map (report_made key bits fields (ms ++ m ∷ []))
    (firsts_after [] (map key ms) ++ cond b [] (key m ∷ [])) ≡ added_to (key m) (bits m)
    (fields m) (reports_made key bits fields ms)
reports-next-by true key bits fields ms m e =
    let ks = firsts_after [] (map key ms) in
    ap (map (report_made key bits fields (ms ++ m ∷ []))) (append-nil ks)
    ∙ present key bits fields ms m ks (firsts-distinct [] (map key ms))
    (listed (key m) [] (map key ms) refl ∙ e)
reports-next-by {A} false key bits fields ms m e =
    let ks = firsts_after [] (map key ms) in
    let none : adding key (key m) ms ≡ [] = adding-none key (key m) ms e in
    let new : report_made key bits fields (ms ++ m ∷ []) (key m) ≡ record
    { id = key m; size = id_bits (key m) + bits m; fields = fields m } =
    report-extended key bits fields ms m (key m) (same_key-refl (key m))
    ∙ ap (λ l. record {
      id = key m;
      size = (id_bits (key m) + sum_by bits l) + bits m;
      fields = flat_map fields l ++ fields m;
    }) none
    ∙ ap (λ n. record { id = key m; size = n + bits m; fields = fields m })
    (add-zero (id_bits (key m))) in
    map-append (report_made key bits fields (ms ++ m ∷ [])) ks (key m ∷ [])
    ∙ ap (λ (r : ReportOf A). map (report_made key bits fields (ms ++ m ∷ [])) ks ++ r ∷ []) new
    ∙ absent key bits fields ms m ks (listed (key m) [] (map key ms) refl ∙ e)

-- the reports behind one more item that makes fields
pub reports-next : {A : Type 0} (key : Indexed → Option ℕ) (bits : Indexed → ℕ)
    (fields : Indexed → List A) (ms : List Indexed) (m : Indexed)
    → reports_made key bits fields (ms ++ m ∷ []) ≡ added_to (key m) (bits m) (fields m)
    (reports_made key bits fields ms)
reports-next key bits fields ms m =
    ap (map (report_made key bits fields (ms ++ m ∷ [])))
    (ap (firsts_after []) (map-append key ms (m ∷ [])) ∙ firsts-next (key m) [] (map key ms))
    ∙ reports-next-by (is_among (key m) (map key ms)) key bits fields ms m refl

size-at : {A : Type 0} (b : Bool) (key : Indexed → Option ℕ) (bits : Indexed → ℕ)
    (fields : Indexed → List A) (ms : List Indexed) (id k : Option ℕ)
    (ks : List (Option ℕ))
    → same_key id k ≡ b → ((b || is_among id ks) ≡ false → adding key id ms ≡ [])
    → ((is_among id ks ≡ false → adding key id ms ≡ [])
    → size_in id (map (report_made key bits fields ms) ks)
    ≡ (report_made key bits fields ms id).size)
    → size_in id (map (report_made key bits fields ms) (k ∷ ks))
    ≡ (report_made key bits fields ms id).size
size-at true key bits fields ms id k ks s none rest =
    ap (λ b. cond b (report_made key bits fields ms k).size
    (size_in id (map (report_made key bits fields ms) ks))) (same_key-sym k id ∙ s)
    ∙ ap (λ z. (report_made key bits fields ms z).size) (sym (same_key-equal id k s))
size-at false key bits fields ms id k ks s none rest =
    ap (λ b. cond b (report_made key bits fields ms k).size
    (size_in id (map (report_made key bits fields ms) ks))) (same_key-sym k id ∙ s) ∙ rest none

size-by : {A : Type 0} (key : Indexed → Option ℕ) (bits : Indexed → ℕ) (fields : Indexed → List A)
    (ms : List Indexed) (id : Option ℕ) (ks : List (Option ℕ))
    → (is_among id ks ≡ false → adding key id ms ≡ [])
    → size_in id (map (report_made key bits fields ms) ks)
    ≡ (report_made key bits fields ms id).size
size-by key bits fields ms id [] none =
    sym (ap (λ l. id_bits id + sum_by bits l) (none refl) ∙ add-zero (id_bits id))
size-by key bits fields ms id (k ∷ ks) none =
    size-at (same_key id k) key bits fields ms id k ks refl none (size-by key bits fields ms id ks)

-- where the report with this id ends so far
pub size-in_reports : {A : Type 0} (key : Indexed → Option ℕ) (bits : Indexed → ℕ)
    (fields : Indexed → List A) (ms : List Indexed) (id : Option ℕ)
    → size_in id (reports_made key bits fields ms) ≡ (report_made key bits fields ms id).size
size-in_reports key bits fields ms id =
    size-by key bits fields ms id (firsts_after [] (map key ms))
    (λ n. adding-none key id ms (sym (listed id [] (map key ms) refl) ∙ n))
