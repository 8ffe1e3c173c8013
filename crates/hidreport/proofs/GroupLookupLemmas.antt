-- The first of fields in groups that passes a test, and the one with a number.
use Rattle.std.proofs.Common.{◌≡◌, ◌∙◌, ◌+◌, ◌-◌, ◌<◌, ◌≤◌, ℕ, zero, suc, Bool, true, false, cond, List, [], ◌∷◌, ◌++◌}
use Rattle.std.proofs.Common.{Option, None, Some, ap, append-nil, arith, drop, get_or, length, refl, slice_get}
use Rattle.std.proofs.Common.{sym, take}
use Rattle.std.proofs.Common.{◌*◌}
use Rattle.std.specs.Option.{option_or}
use Rattle.std.specs.Prelude.{◌==◌, find, if◌then◌else◌}
use Rattle.std.proofs.lemmas.Bool.Decides.{nat_tests}
use Rattle.std.proofs.lemmas.Grind.{common_steps, flat_map-append}
use Rattle.std.proofs.lemmas.List.{take-append-drop}
use Rattle.std.proofs.lemmas.List.Folds.{find-append}
use Rattle.hidreport_fields.specs.Lookup.{field_with}
use Rattle.hidreport_fields.specs.ItemParts.{field_count}
use Rattle.hidreport_fields.specs.Records.{ArrayRecord, ConstantRecord, FieldRecord, VariableRecord}
use Rattle.hidreport_fields.specs.Records.{place_of}
use Rattle.hidreport.specs.Fields.{beginning_at, each_from, make_place, usage_at}
use Rattle.hidreport.specs.Groups.{GroupRecord, fields_of_groups, group_fields}

-- the first of a list that passes, by those before an index and the one there

none-by : {A : Type 0} (y : A) (b : Bool) (o next : Option A) → cond b (Some y) o ≡ None
    → (o ≡ None → next ≡ None) → cond b (Some y) next ≡ None
none-by y true o next none rest = let no : Some y ≡ None = none in cc
none-by y false o next none rest = rest none

found-by : {A : Type 0} (y x : A) (b : Bool) (o next : Option A) → cond b (Some y) o ≡ None
    → (o ≡ None → next ≡ Some x) → cond b (Some y) next ≡ Some x
found-by y x true o next none rest = let no : Some y ≡ None = none in cc
found-by y x false o next none rest = rest none

pub found-there : {A : Type 0} (p : A → Bool) (xs : List A) (i : ℕ) (x : A)
    → slice_get xs i ≡ Some x → find p (take i xs) ≡ None → p x ≡ true → find p xs ≡ Some x
found-there p [] i x at before passes = let no : None ≡ Some x = at in cc
found-there p (y ∷ ys) zero x at before passes =
    let same : y ≡ x = cc in
    let own : p y ≡ true = ap p same ∙ passes in
    ap (λ b. cond b (Some y) (find p ys)) own ∙ ap Some same
found-there p (y ∷ ys) (suc i) x at before passes =
    found-by y x (p y) (find p (take i ys)) (find p ys) before
    (λ none. found-there p ys i x at none passes)

pub none-there : {A : Type 0} (p : A → Bool) (xs : List A) (i : ℕ) (x : A)
    → slice_get xs i ≡ Some x → find p (take i xs) ≡ None → p x ≡ false
    → find p (take (suc i) xs) ≡ None
none-there p [] i x at before passes = let no : None ≡ Some x = at in cc
none-there p (y ∷ ys) zero x at before passes =
    let same : y ≡ x = cc in
    let own : p y ≡ false = ap p same ∙ passes in
    ap (λ b. cond b (Some y) None) own
none-there p (y ∷ ys) (suc i) x at before passes =
    none-by y (p y) (find p (take i ys)) (find p (take (suc i) ys)) before
    (λ none. none-there p ys i x at none passes)

pub none-past : {A : Type 0} (p : A → Bool) (xs : List A) (i : ℕ) → slice_get xs i ≡ None
    → find p (take i xs) ≡ None → find p (take (suc i) xs) ≡ None
none-past p [] i at before = refl
none-past p (y ∷ ys) zero at before = let no : Some y ≡ None = at in cc
none-past p (y ∷ ys) (suc i) at before =
    none-by y (p y) (find p (take i ys)) (find p (take (suc i) ys)) before
    (λ none. none-past p ys i at none)

-- where the index is past all
pub none-all : {A : Type 0} (p : A → Bool) (xs : List A) (i : ℕ) → length xs ≤ i
    → find p (take i xs) ≡ None → find p xs ≡ None
none-all p [] i le before = refl
none-all p (y ∷ ys) zero le before = absurd (omega (arith, le))
none-all p (y ∷ ys) (suc i) le before =
    none-by y (p y) (find p (take i ys)) (find p ys) before
    (λ none. none-all p ys i (omega (arith, le)) none)

-- the same over groups

pub groups-next : (gs : List GroupRecord) (i : ℕ) (g : GroupRecord) → i < length gs
    → g ≡ get_or gs i g → fields_of_groups (take (i + 1) gs)
    ≡ fields_of_groups (take i gs) ++ group_fields g
groups-next gs i g lt e =
    let next : take (i + 1) gs ≡ take i gs ++ g ∷ [] = grind (arith, common_steps) in
    ap fields_of_groups next ∙ flat_map-append group_fields (take i gs) (g ∷ [])
    ∙ ap (λ l. fields_of_groups (take i gs) ++ l) (append-nil (group_fields g))

pub none-next : (p : FieldRecord → Bool) (gs : List GroupRecord) (i : ℕ) (g : GroupRecord)
    → i < length gs → g ≡ get_or gs i g → find p (fields_of_groups (take i gs)) ≡ None
    → find p (group_fields g) ≡ None → find p (fields_of_groups (take (i + 1) gs)) ≡ None
none-next p gs i g lt e before none =
    ap (find p) (groups-next gs i g lt e)
    ∙ find-append p (fields_of_groups (take i gs)) (group_fields g)
    ∙ ap (λ o. option_or o (find p (group_fields g))) before ∙ none

pub found-next : (p : FieldRecord → Bool) (gs : List GroupRecord) (i : ℕ) (g : GroupRecord)
    (f : FieldRecord) → i < length gs → g ≡ get_or gs i g
    → find p (fields_of_groups (take i gs)) ≡ None → find p (group_fields g) ≡ Some f
    → find p (fields_of_groups gs) ≡ Some f
found-next p gs i g f lt e before found =
    let front = fields_of_groups (take (i + 1) gs) in
    let rest = fields_of_groups (drop (i + 1) gs) in
    let own : find p front ≡ Some f =
    ap (find p) (groups-next gs i g lt e)
    ∙ find-append p (fields_of_groups (take i gs)) (group_fields g)
    ∙ ap (λ o. option_or o (find p (group_fields g))) before ∙ found in
    ap (λ l. find p (fields_of_groups l)) (sym (take-append-drop (i + 1) gs))
    ∙ ap (find p) (flat_map-append group_fields (take (i + 1) gs) (drop (i + 1) gs))
    ∙ find-append p front rest ∙ ap (λ o. option_or o (find p rest)) own

-- fields that are numbered one after the other

abbrev has_number : ℕ → FieldRecord → Bool
has_number number f = (place_of f).id == number

numbers-by : (x : FieldRecord) (xs : List FieldRecord) (number b at : ℕ) (t : Bool)
    → has_number number x ≡ t → (place_of x).id ≡ b → b ≤ number → at ≡ number - b
    → (b < number → find (has_number number) xs ≡ slice_get xs (at - 1))
    → cond t (Some x) (find (has_number number) xs) ≡ slice_get (x ∷ xs) at
numbers-by x xs number b at true e own le is rest =
    let here : (place_of x).id ≡ number = grind (arith, nat_tests) in
    let none : 0 ≡ at = omega (arith, own, here, is) in
    ap (slice_get (x ∷ xs)) none
numbers-by x xs number b at false e own le is rest =
    let other : b < number = grind (arith, nat_tests) in
    let next : suc (at - 1) ≡ at = omega (arith, other, is) in
    rest other ∙ ap (slice_get (x ∷ xs)) next

numbers-from : (f : ℕ → FieldRecord) (b number : ℕ) → ((k : ℕ) → (place_of (f k)).id ≡ b + k)
    → (c n : ℕ) → b + c ≤ number
    → find (has_number number) (each_from f c n) ≡ slice_get (each_from f c n) (number - (b + c))
numbers-from f b number is c zero le = refl
numbers-from f b number is c (suc n) le =
    let rest : b + c < number → find (has_number number) (each_from f (c + 1) n)
    ≡ slice_get (each_from f (c + 1) n) (number - (b + c) - 1) = λ lt.
    numbers-from f b number is (c + 1) n (omega (arith, lt))
    ∙ ap (slice_get (each_from f (c + 1) n))
    (let e : number - (b + (c + 1)) ≡ number - (b + c) - 1 = omega (arith, lt) in e) in
    numbers-by (f c) (each_from f (c + 1) n) number (b + c) (number - (b + c))
    (has_number number (f c)) refl (is c) le refl rest

numbers-past : (f : ℕ → FieldRecord) (b number : ℕ) → ((k : ℕ) → (place_of (f k)).id ≡ b + k)
    → (c n : ℕ) → number < b + c → find (has_number number) (each_from f c n) ≡ None
numbers-past f b number is c zero lt = refl
numbers-past f b number is c (suc n) lt =
    let own = is c in
    let other : has_number number (f c) ≡ false = grind (arith, nat_tests) in
    ap (λ t. cond t (Some (f c)) (find (has_number number) (each_from f (c + 1) n))) other
    ∙ numbers-past f b number is (c + 1) n (omega (arith, lt))

one-number : (x : FieldRecord) (b number : ℕ) → (place_of x).id ≡ b → b ≤ number
    → find (has_number number) (x ∷ []) ≡ slice_get (x ∷ []) (number - b)
one-number x b number is le =
    numbers-by x [] number b (number - b) (has_number number x) refl is le refl (λ lt. refl)

one-past : (x : FieldRecord) (b number : ℕ) → (place_of x).id ≡ b → number < b
    → find (has_number number) (x ∷ []) ≡ None
one-past x b number is lt =
    let other : has_number number x ≡ false = grind (arith, nat_tests) in
    ap (λ t. cond t (Some x) None) other

-- of a group
by-flags : (P : List FieldRecord → Type 0) (constant variable : Bool) (xs ys zs : List FieldRecord)
    → P xs → P ys → P zs
    → P (if constant then xs else (if variable then ys else zs))
by-flags P true variable xs ys zs padding several single = padding
by-flags P false true xs ys zs padding several single = several
by-flags P false false xs ys zs padding several single = single

-- the field of padding, those of a variable item, and an array
abbrev padding_of : GroupRecord → FieldRecord
padding_of g = ConstantRecord (make_place g.beginning (g.extent.size * g.extent.count))

abbrev several_of : GroupRecord → ℕ → FieldRecord
several_of g c = VariableRecord (make_place (beginning_at g.beginning g.extent c) g.extent.size)
    (usage_at g.usages.usages c) g.shared

abbrev array_of : GroupRecord → FieldRecord
array_of g = ArrayRecord (make_place g.beginning (g.extent.size * g.extent.count)) g.usages.usages
    g.usages.is_range g.extent.count g.shared

pub numbered-at : (g : GroupRecord) (number : ℕ) → g.beginning.number ≤ number
    → field_with number (group_fields g) ≡ slice_get (group_fields g) (number - g.beginning.number)
numbered-at g number le =
    let b = g.beginning.number in
    let from : b + 0 ≡ b = omega arith in
    let all = each_from (several_of g) 0 g.extent.count in
    by-flags (λ l. find (has_number number) l ≡ slice_get l (number - b)) g.flags.constant
    g.flags.variable (padding_of g ∷ []) all (array_of g ∷ [])
    (one-number (padding_of g) b number refl le)
    (numbers-from (several_of g) b number (λ k. refl) 0 g.extent.count (omega (arith, le))
    ∙ ap (λ n. slice_get all (number - n)) from)
    (one-number (array_of g) b number refl le)

pub numbered-past : (g : GroupRecord) (number : ℕ) → number < g.beginning.number
    → field_with number (group_fields g) ≡ None
numbered-past g number lt =
    let b = g.beginning.number in
    by-flags (λ l. find (has_number number) l ≡ None) g.flags.constant g.flags.variable
    (padding_of g ∷ []) (each_from (several_of g) 0 g.extent.count) (array_of g ∷ [])
    (one-past (padding_of g) b number refl lt)
    (numbers-past (several_of g) b number (λ k. refl) 0 g.extent.count (omega (arith, lt)))
    (one-past (array_of g) b number refl lt)

-- a group has no more fields than it counts
several-length : (f : ℕ → FieldRecord) (c n : ℕ) → length (each_from f c n) ≡ n
several-length f c zero = refl
several-length f c (suc n) = let rest = several-length f (c + 1) n in omega (arith, rest)

length-by : (constant variable : Bool) (x y : FieldRecord) (xs : List FieldRecord) (n : ℕ)
    → length xs ≡ n → length (if constant then x ∷ [] else (if variable then xs else y ∷ []))
    ≡ (if constant then 1 else (if variable then n else 1))
length-by true variable x y xs n all = refl
length-by false true x y xs n all = all
length-by false false x y xs n all = refl

pub fields-counted : (g : GroupRecord)
    → length (group_fields g) ≡ field_count g.flags g.extent.count
fields-counted g =
    length-by g.flags.constant g.flags.variable (padding_of g) (array_of g)
    (each_from (several_of g) 0 g.extent.count) g.extent.count
    (several-length (several_of g) 0 g.extent.count)
