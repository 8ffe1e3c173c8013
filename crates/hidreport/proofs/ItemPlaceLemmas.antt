-- Where the items stand that make fields: by the walk, by the definition, and by their numbers.
use Rattle.std.proofs.Common.{◌≡◌, ◌≢◌, ◌∙◌, ◌+◌, ◌<◌, ◌≤◌, ◌==◌, ℕ, zero, suc, Bool, true, false, cond}
use Rattle.std.proofs.Common.{List, [], ◌∷◌, ◌++◌, Option, None, Some, Result, Ok, Err, add-one, ap}
use Rattle.std.proofs.Common.{append-nil, append_assoc, arith, filter, get_or, length, map, refl}
use Rattle.std.proofs.Common.{option_to_list, subst, sym}
use Rattle.std.specs.Prelude.{◌&&◌, find, is_some, option_map}
use Rattle.std.specs.List.{enumerate_from}
use Rattle.std.specs.List.Sorted.{IsBinarySearchResult, IsNonDecreasingBy, IsPartitionPoint}
use Rattle.std.proofs.Common.{Greater, Less, nat_lt}
use Rattle.std.specs.Ordering.{nat_cmp, ordering_index}
use Rattle.std.proofs.lemmas.Bool.Decides.{nat_tests}
use Rattle.std.proofs.lemmas.Cmp.{ranked}
use Rattle.std.proofs.lemmas.Grind.{common_steps}
use Rattle.std.proofs.lemmas.List.Sorted.{IsNonDecreasingBy-from_default}
use Rattle.hidreport_items.specs.Answer.{GrammarFault}
use Rattle.hidreport_items.specs.Flags.{Flags}
use Rattle.hidreport_items.specs.Spelling.{item_of}
use Rattle.hidreport_lists.specs.Entry.{Entry}
use Rattle.hidreport_lists.specs.Itemising.{itemise, items_from}
use Rattle.hidreport_lists.proofs.ItemLemmas.{with_front}
use Rattle.hidreport.specs.Fields.{fields_before, fields_made}
use Rattle.hidreport.specs.Groups.{OutlineRecord}
use Rattle.hidreport.specs.ItemPlaces.{Ascend, entries_or_none, group_place, group_places}
use Rattle.hidreport.specs.ItemPlaces.{makes_fields, place_of, places_in}
use Rattle.hidreport.specs.ItemState.{ItemState}
use Rattle.hidreport.specs.Kinds.{Direction, Indexed, data_of}
use Rattle.hidreport.specs.Making.{extent}
use Rattle.hidreport.specs.Meaning.{at_offset, offset_at}
use Rattle.hidreport.specs.MeaningFault.{MeaningFault}
use Rattle.hidreport.specs.Options.{past_longest, reading_of}
use Rattle.hidreport.specs.Outline.{answer_with, groups_in, items_or_none, outline_as}
use Rattle.hidreport.specs.Parser.Budget.{in_groups, is_past, left_behind, past_fault, stop_in}
use Rattle.hidreport.specs.Parser.Budget.{walk_bytes_to, walk_items_to, walk_to, weight_in}
use Rattle.hidreport.specs.Parser.ItemPlaces.{makes_in, place_in, placed, places_from}
use Rattle.hidreport.specs.Parser.Machine.{StateRecord, fault_in, first_state, go_on, next_state}
use Rattle.hidreport.specs.Parser.Machine.{step, unless_fault}
use Rattle.hidreport.specs.declared.parse_options.ParseOptions.{ParseOptions}
use Rattle.hidreport.specs.declared.parser.extent.Extent.{Extent}
use Rattle.hidreport.specs.declared.parser.push_keeps.PushKeeps.{PushKeeps}
use Rattle.hidreport.specs.declared.parser.usages_by.UsagesBy.{UsagesBy}
use Rattle.hidreport.specs.declared.report.item_place.GroupPlace.{GroupPlace}
use Rattle.hidreport.specs.declared.report.item_place.ItemPlace.{ItemPlace}
use Rattle.hidreport.proofs.KeptItemsLemmas.{offset-behind}
use Rattle.hidreport.proofs.LongestLemmas.{as-limited}
use Rattle.hidreport.proofs.OutlineWalkLemmas.{groups-as, unstopped}
use Rattle.hidreport.proofs.ParseLemmas.{items_of}
use Rattle.hidreport.proofs.PushReadings.{kept_stack, reading-follows}
use Rattle.hidreport.proofs.TilingLemmas.{both-some}
use Rattle.hidreport.proofs.WalkLemmas.{Follows, Holds, holds-next, holds-nothing}

-- one item further

stepped-by : (o : Option MeaningFault) (made next : StateRecord) → unless_fault o made ≡ Ok next
    → made ≡ next
stepped-by None made next e = let same : made ≡ next = cc in same
stepped-by (Some f) made next e = cc

placed-next : (before : List GroupPlace) (h : StateRecord) (k : ℕ) (e : Entry)
    (r : Result (List Entry) (ℕ × GrammarFault))
    → placed before h k (with_front (e ∷ []) r)
    ≡ placed (before ++ option_to_list (place_in h (record { index = k; offset = e.offset }) e.item))
    (next_state h e.item) (k + 1) r
placed-next before h k e (Ok entries) = ap Ok (sym (append_assoc before
    (option_to_list (place_in h (record { index = k; offset = e.offset }) e.item))
    (places_from (next_state h e.item) (k + 1) entries)))
placed-next before h k e (Err fault) = refl

pub placed-on : (before : List GroupPlace) (h next : StateRecord) (k : ℕ) (e : Entry)
    (r : Result (List Entry) (ℕ × GrammarFault)) → step h e.item ≡ Ok next
    → placed before h k (with_front (e ∷ []) r)
    ≡ placed (before ++ option_to_list (place_in h (record { index = k; offset = e.offset }) e.item))
    next (k + 1) r
placed-on before h next k e r stepped = placed-next before h k e r
    ∙ ap (λ s. placed (before
    ++ option_to_list (place_in h (record { index = k; offset = e.offset }) e.item)) s (k + 1) r)
    (stepped-by (fault_in h e.item) (next_state h e.item) next stepped)

-- none behind the last, and all of bytes

pub placed-end : (before : List GroupPlace) (h : StateRecord) (k offset : ℕ) (rest : List ℕ)
    → length rest ≡ 0 → placed before h k (items_from item_of offset 0 rest) ≡ Ok before
placed-end before h k offset [] none = ap Ok (append-nil before)
placed-end before h k offset (b ∷ bs) none = absurd (omega (arith, none))

pub placed-all : (options : ParseOptions) (bytes : List ℕ) → bytes ≢ []
    → placed [] (first_state options) 0 (items_from item_of 0 0 bytes)
    ≡ placed [] (first_state options) 0 (itemise item_of bytes)
placed-all options [] some = absurd (some refl)
placed-all options (b ∷ bs) some = refl

-- the walk's places are the definition's

goes-by : (o : Option MeaningFault) (next : StateRecord) (k : ℕ)
    (rest : StateRecord → Result OutlineRecord (ℕ × MeaningFault)) (v : OutlineRecord)
    → go_on (unless_fault o next) k rest ≡ Ok v → (o ≡ None) × (rest next ≡ Ok v)
goes-by None next k rest v e = (refl, e)
goes-by (Some f) next k rest v e = cc

listed-by : (b : Bool) (p q : GroupPlace) (ps : List GroupPlace) → p ≡ q
    → option_to_list (cond b (Some p) None) ++ ps ≡ cond b (q ∷ ps) ps
listed-by true p q ps e = ap (λ x. x ∷ ps) e
listed-by false p q ps e = refl

mapped-by : (f : Indexed → GroupPlace) (b : Bool) (p : Indexed) (ps : List Indexed)
    → map f (cond b (p ∷ ps) ps) ≡ cond b (f p ∷ map f ps) (map f ps)
mapped-by f true p ps = refl
mapped-by f false p ps = refl

-- the places of these of all items, the first with this index
abbrev places_behind : (ℕ → ItemState) → List Entry → ℕ → List Entry → List GroupPlace
places_behind item_state all k rest = map (group_place item_state (items_of all) all)
    (filter (makes_fields item_state) (enumerate_from k (items_of rest)))

items-append : (xs ys : List Entry) → items_of (xs ++ ys) ≡ items_of xs ++ items_of ys
items-append xs ys = simp common_steps

places-at : (push_keeps : PushKeeps) (by : UsagesBy) (item_state : ℕ → ItemState)
    (stack : ℕ → List ItemState) (all front rest : List Entry) (h : StateRecord) (left : Option ℕ)
    (v : OutlineRecord) → Follows push_keeps by item_state stack (items_of all)
    → h.push_keeps ≡ push_keeps → all ≡ front ++ rest
    → Holds item_state stack (items_of all) (length front) h
    → walk_to in_groups left h (length front) (items_of rest) ≡ Ok v
    → places_from h (length front) rest ≡ places_behind item_state all (length front) rest
places-at push_keeps by item_state stack all front [] h left v follows reads e held walked = refl
places-at push_keeps by item_state stack all front (x ∷ xs) h left v follows reads e held walked =
    let k = length front in
    let items = items_of all in
    let less = left_behind left (weight_in h x.item) in
    let next = next_state h x.item in
    let goes = goes-by (stop_in left h x.item) next k
    (λ n. walk_to in_groups less n (k + 1) (items_of xs)) v walked in
    let faultless = unstopped (fault_in h x.item)
    (past_fault (is_past left (weight_in h x.item))) goes.0 in
    let more : all ≡ (front ++ x ∷ []) ++ xs = e ∙ sym (append_assoc front (x ∷ []) xs) in
    let size : length (front ++ x ∷ []) ≡ suc k = grind (arith, common_steps) in
    let size_one : length (front ++ x ∷ []) ≡ k + 1 = size ∙ sym (add-one k) in
    let item_count : length (items_of front) ≡ k = grind (arith, common_steps) in
    let split : items ≡ items_of front ++ (x.item ∷ items_of xs) =
    ap items_of e ∙ items-append front (x ∷ xs) in
    let next_holds : Holds item_state stack items (suc k) next =
    subst (λ n. Holds item_state stack items (suc n) next) item_count
    (holds-next push_keeps by item_state stack items (items_of front) (items_of xs) h x.item follows
    reads split (subst (λ n. Holds item_state stack items n h) (sym item_count) held) faultless) in
    let later : places_from next (k + 1) xs ≡ places_behind item_state all (k + 1) xs =
    subst (λ n. places_from next n xs ≡ places_behind item_state all n xs) size_one
    (places-at push_keeps by item_state stack all (front ++ x ∷ []) xs next less v follows reads
    more (subst (λ n. Holds item_state stack items n next) (sym size) next_holds)
    (subst (λ n. walk_to in_groups less next n (items_of xs) ≡ Ok v) (sym size_one) goes.1)) in
    let own : GroupPlace =
    record { number = h.fields; place = record { index = k; offset = x.offset } } in
    let found : GroupPlace = group_place item_state items all (k, x.item) in
    let numbered : own ≡ record {
      number = fields_before item_state items k;
      place = record { index = k; offset = x.offset };
    } = ap (λ (n : ℕ). record { number = n; place = record { index = k; offset = x.offset } })
    held.numbered in
    let at : x.offset ≡ offset_at all k = sym (ap (λ l. offset_at l k) e ∙ offset-behind front xs x) in
    let same : own ≡ found = numbered ∙ ap (λ (n : ℕ). record {
      number = fields_before item_state items k;
      place = record { index = k; offset = n };
    }) at in
    let rest = enumerate_from (k + 1) (items_of xs) in
    let f = group_place item_state items all in
    let makes : makes_in h x.item ≡ makes_fields item_state (k, x.item) =
    ap (λ s. is_some (data_of x.item) && is_some (extent s)) held.item_states in
    ap (λ l. option_to_list (cond (makes_in h x.item) (Some own) None) ++ l) later
    ∙ listed-by (makes_in h x.item) own found (places_behind item_state all (k + 1) xs) same
    ∙ ap (λ b. cond b (found ∷ places_behind item_state all (k + 1) xs)
    (places_behind item_state all (k + 1) xs)) makes
    ∙ sym (mapped-by f (makes_fields item_state (k, x.item)) (k, x.item)
    (filter (makes_fields item_state) rest))

unplaced : (entries : List Entry) (r : Result OutlineRecord (ℕ × MeaningFault)) (v : OutlineRecord)
    → at_offset entries r ≡ Ok v → r ≡ Ok v
unplaced entries (Ok o) v e = let same : o ≡ v = cc in ap Ok same
unplaced entries (Err f) v e = cc

items-places : (options : ParseOptions) (r : Result (List Entry) (ℕ × GrammarFault))
    (v : OutlineRecord) (ps : List GroupPlace)
    → walk_items_to in_groups options.limit (first_state options) r ≡ Ok v
    → placed [] (first_state options) 0 r ≡ Ok ps
    → ps ≡ group_places (reading_of options (items_or_none r)) (items_or_none r) (entries_or_none r)
items-places options (Err f) v ps walked is = cc
items-places options (Ok entries) v ps walked is =
    let items = items_of entries in
    let push_keeps = options.push_keeps in
    let by = options.usages in
    let follows = reading-follows push_keeps by items in
    let same : places_from (first_state options) 0 entries ≡ ps = cc in
    sym same ∙ places-at push_keeps by (reading_of options items) (kept_stack push_keeps by items)
    entries [] entries (first_state options) options.limit v follows refl refl
    (holds-nothing push_keeps by (reading_of options items) (kept_stack push_keeps by items) items
    follows)
    (unplaced entries (walk_to in_groups options.limit (first_state options) 0 items) v walked)

pub walked-places : (options : ParseOptions) (bytes : List ℕ) (v : OutlineRecord)
    (ps : List GroupPlace) → walk_bytes_to in_groups options bytes ≡ Ok v
    → placed [] (first_state options) 0 (itemise item_of bytes) ≡ Ok ps
    → ps ≡ places_in options bytes
walked-places options [] v ps walked is = cc
walked-places options (b ∷ bs) v ps walked is =
    items-places options (itemise item_of (b ∷ bs)) v ps walked is

-- their numbers ascend

raised : (from more : ℕ) (ps : List GroupPlace) → Ascend more ps → from ≤ more → Ascend from ps
raised from more [] up le = tt
raised from more (p ∷ ps) up le = (omega (arith, up.0, le), up.1)

count-by : (constant variable : Bool) (n : ℕ) → 0 < n → 0 < cond constant 1 (cond variable n 1)
count-by true variable n some = omega arith
count-by false true n some = some
count-by false false n some = omega arith

made-by : (o : Option (Direction × Flags)) (e : Option Extent)
    → ((x : Extent) → e ≡ Some x → 0 < x.count) → is_some o && is_some e ≡ true
    → 0 < fields_made o e
made-by None e some is = cc
made-by (Some x) None some is = cc
made-by (Some x) (Some e) some is = count-by x.1.constant x.1.variable e.count (some e refl)

ascend-by : (b : Bool) (n next : ℕ) (place : ItemPlace) (ps : List GroupPlace)
    → (b ≡ true → n < next) → n ≤ next → Ascend next ps
    → Ascend n (option_to_list (cond b (Some (record { number = n; place = place })) None) ++ ps)
ascend-by true n next place ps more le up =
    (omega arith, raised (n + 1) next ps up (omega (arith, more refl)))
ascend-by false n next place ps more le up = raised n next ps up le

ascend-from : (h : StateRecord) (k : ℕ) (es : List Entry) → Ascend h.fields (places_from h k es)
ascend-from h k [] = tt
ascend-from h k (e ∷ es) =
    let made = fields_made (data_of e.item) (extent h.item_state) in
    ascend-by (makes_in h e.item) h.fields (h.fields + made)
    (record { index = k; offset = e.offset }) (places_from (next_state h e.item) (k + 1) es)
    (λ is. let some : 0 < made = made-by (data_of e.item) (extent h.item_state)
    (λ x set. (both-some h.item_state.report_size h.item_state.report_count x set).1) is in
    omega (arith, some)) (omega arith) (ascend-from (next_state h e.item) (k + 1) es)

pub placed-ascend : (options : ParseOptions) (r : Result (List Entry) (ℕ × GrammarFault))
    (ps : List GroupPlace) → placed [] (first_state options) 0 r ≡ Ok ps → Ascend 0 ps
placed-ascend options (Err f) ps is = cc
placed-ascend options (Ok entries) ps is =
    let same : places_from (first_state options) 0 entries ≡ ps = cc in
    subst (Ascend 0) same (ascend-from (first_state options) 0 entries)

-- a search among them

abbrev pub nowhere : GroupPlace
nowhere = record { number = 0; place = record { index = 0; offset = 0 } }

from-at : (from : ℕ) (ps : List GroupPlace) (i : ℕ) (d : GroupPlace) → Ascend from ps
    → i < length ps → from ≤ (get_or ps i d).number
from-at from [] i d up lt = absurd (omega (arith, lt))
from-at from (p ∷ ps) zero d up lt = up.0
from-at from (p ∷ ps) (suc i) d up lt =
    omega (arith, from-at (p.number + 1) ps i d up.1 (omega (arith, lt)), up.0)

rises : (from : ℕ) (ps : List GroupPlace) (i j : ℕ) (d : GroupPlace) → Ascend from ps → i ≤ j
    → j < length ps → (get_or ps i d).number ≤ (get_or ps j d).number
rises from [] i j d up le lt = absurd (omega (arith, lt))
rises from (p ∷ ps) zero zero d up le lt = omega arith
rises from (p ∷ ps) zero (suc j) d up le lt =
    omega (arith, from-at (p.number + 1) ps j d up.1 (omega (arith, lt)))
rises from (p ∷ ps) (suc i) zero d up le lt = absurd (omega (arith, le))
rises from (p ∷ ps) (suc i) (suc j) d up le lt =
    rises (p.number + 1) ps i j d up.1 (omega (arith, le)) (omega (arith, lt))

found-at : (from : ℕ) (ps : List GroupPlace) (n i : ℕ) (d : GroupPlace) → Ascend from ps
    → i < length ps → (get_or ps i d).number ≡ n
    → find (λ p. p.number == n) ps ≡ Some (get_or ps i d)
found-at from [] n i d up lt e = absurd (omega (arith, lt))
found-at from (p ∷ ps) n zero d up lt e =
    let is : (p.number == n) ≡ true = grind (arith, nat_tests) in
    ap (λ b. cond b (Some p) (find (λ q. q.number == n) ps)) is
found-at from (p ∷ ps) n (suc i) d up lt e =
    let later : p.number + 1 ≤ (get_or ps i d).number =
    from-at (p.number + 1) ps i d up.1 (omega (arith, lt)) in
    let isnt : (p.number == n) ≡ false = grind (arith, nat_tests) in
    ap (λ b. cond b (Some p) (find (λ q. q.number == n) ps)) isnt
    ∙ found-at (p.number + 1) ps n i d up.1 (omega (arith, lt)) e

absent : (ps : List GroupPlace) (n : ℕ) (d : GroupPlace)
    → ((k : ℕ) → k < length ps → (get_or ps k d).number ≢ n)
    → find (λ p. p.number == n) ps ≡ None
absent [] n d none = refl
absent (p ∷ ps) n d none =
    let first : p.number ≢ n = none 0 (omega arith) in
    let isnt : (p.number == n) ≡ false = grind (arith, nat_tests) in
    ap (λ b. cond b (Some p) (find (λ q. q.number == n) ps)) isnt
    ∙ absent ps n d (λ k lt. none (suc k) (omega (arith, lt)))

orders-rise : (ps : List GroupPlace) (n : ℕ) → Ascend 0 ps
    → IsNonDecreasingBy (λ p. ordering_index (nat_cmp p.number n)) ps
orders-rise ps n up = IsNonDecreasingBy-from_default
    (λ p. ordering_index (nat_cmp p.number n)) ps nowhere (λ i j le lt.
    let up_to : (get_or ps i nowhere).number ≤ (get_or ps j nowhere).number =
    rises 0 ps i j nowhere up le lt in grind (arith, nat_tests))

pub found-place : (ps : List GroupPlace) (n i : ℕ) → Ascend 0 ps → i < length ps
    → IsBinarySearchResult (λ p. nat_cmp p.number n) ps (Ok i)
    → place_of ps n ≡ Some (get_or ps i nowhere).place
found-place ps n i up lt is = ap (option_map (λ (p : GroupPlace). p.place))
    (found-at 0 ps n i nowhere up lt (ranked _ n _ (sym (is nowhere))))

unlike : (ps : List GroupPlace) (n i k : ℕ)
    → IsPartitionPoint (λ p. nat_cmp p.number n ≡ Less) (λ p. nat_cmp p.number n ≡ Greater) ps i
    → k < length ps → (get_or ps k nowhere).number ≢ n
unlike ps n i k parts lt same = by (nat_lt k i) refl where
  by : (b : Bool) → nat_lt k i ≡ b → ⊥
  by true e =
      let before : k < i = grind (arith, nat_tests) in
      let low : (get_or ps k nowhere).number < n =
      ranked _ n _ (sym (parts.0 k nowhere (omega arith) before)) in
      omega (arith, low, same)
  by false e =
      let behind : i ≤ k = grind (arith, nat_tests) in
      let high : n < (get_or ps k nowhere).number =
      ranked _ n _ (sym (parts.1 k nowhere behind lt)) in
      omega (arith, high, same)

pub no-place : (ps : List GroupPlace) (n i : ℕ) → Ascend 0 ps
    → IsBinarySearchResult (λ p. nat_cmp p.number n) ps (Err i) → place_of ps n ≡ None
no-place ps n i up parted = ap (option_map (λ (p : GroupPlace). p.place))
    (absent ps n nowhere (λ k lt. unlike ps n i k (parted (orders-rise ps n up)) lt))

-- the walk's groups are the outline's, of bytes that aren't too many
pub walked-outline : (options : ParseOptions) (bytes : List ℕ)
    → None ≡ past_longest options.longest (length bytes)
    → walk_bytes_to in_groups options bytes ≡ outline_as options bytes
walked-outline options bytes fits = groups-as options bytes
    ∙ ap (answer_with (groups_in options bytes)) (sym (as-limited options bytes fits))
