-- What the local items that are held by kind say of all of them.
use Rattle.std.proofs.Common.{◌≡◌, ℕ, zero, suc, ◌+◌, ◌-◌, ◌<◌, min, List, [], ◌∷◌, ◌++◌, length, map, take}
use Rattle.std.proofs.Common.{Option, None, Some, append-nil, option_to_list, Ok, Err, refl, ap, sym, ◌∙◌, get_or, slice_get, arith}
use Rattle.std.specs.List.{cons_option}
use Rattle.std.proofs.lemmas.Grind.{common_steps}
use Rattle.std.proofs.Math.Seq.{take-append_seam}
use Rattle.std.proofs.lemmas.List.Elements.{filter_map-append}
use Rattle.std.proofs.lemmas.List.Sums.{sum_by-cons}
use Rattle.std.specs.Prelude.{Bool, cond, count_by, filter_map, is_some}
use Rattle.hidreport_items.specs.declared.local.LocalItem.{LocalItem}
use Rattle.hidreport_items.specs.declared.local.LocalItem.TheVariants as local
use Rattle.hidreport.specs.Fields.{usage_at}
use Rattle.std.proofs.lemmas.List.{map-append}
use Rattle.hidreport.specs.ItemState.{first_of, local_items}
use Rattle.hidreport.specs.declared.parser.paged_local.PagedLocal.{PagedLocal}
use Rattle.hidreport.specs.MeaningFault.{MissingUsagePage}
use Rattle.hidreport.specs.Parser.Locals.{lacks_page, local_usage, usage_under, without_last}
use Rattle.hidreport.specs.Usages.{before_usages, last_local, single_usages}
use Rattle.hidreport_fields.specs.UsageRange.{make_usage}
use Rattle.hidreport.specs.declared.parser.local_usages.LocalUsage.{LocalUsage}

-- the last of those with a tag
abbrev pub last_of : List ℕ → Option ℕ
last_of ns = slice_get ns (length ns - 1)

first_or_none : (o : Option ℕ) → o ≡ first_of o None
first_or_none None = refl
first_or_none (Some n) = refl

last-more : (n m : ℕ) (ns : List ℕ) → last_of (n ∷ m ∷ ns) ≡ last_of (m ∷ ns)
last-more n m ns = ap (λ k. slice_get (n ∷ m ∷ ns) k)
    (let e : suc (suc (length ns)) - 1 ≡ suc (suc (length ns) - 1) = omega arith in e)

last-some : (m : ℕ) (ns : List ℕ) (o : Option ℕ)
    → last_of (m ∷ ns) ≡ first_of (last_of (m ∷ ns)) o
last-some m [] o = refl
last-some m (k ∷ ns) o =
    last-more m k ns ∙ last-some k ns o ∙ ap (λ r. first_of r o) (sym (last-more m k ns))

last-cons : (o : Option ℕ) (ns : List ℕ) → last_of (cons_option o ns) ≡ first_of (last_of ns) o
last-cons None ns = first_or_none (last_of ns)
last-cons (Some n) [] = refl
last-cons (Some n) (m ∷ ns) = last-more n m ns ∙ last-some m ns (Some n)

pub last_local-last : (tag : LocalItem → Option ℕ) (xs : List LocalItem)
    → last_of (filter_map tag xs) ≡ last_local tag xs
last_local-last tag [] = refl
last_local-last tag (x ∷ xs) =
    last-cons (tag x) (filter_map tag xs) ∙ ap (λ o. first_of o (tag x)) (last_local-last tag xs)

-- the same of a list by another name
pub last_local-in : (tag : LocalItem → Option ℕ) {items locals : List PagedLocal} → items ≡ locals
    → last_of (filter_map tag (local_items items)) ≡ last_local tag (local_items locals)
last_local-in tag {items = items} is =
    last_local-last tag (local_items items) ∙ ap (λ ls. last_local tag (local_items ls)) is

-- the single usages with a page in force
pub single-on : (page : ℕ) (xs : List LocalItem)
    → single_usages (Some page) xs ≡ Ok (map (usage_under page) (filter_map local_usage xs))
single-on page [] = refl
single-on page (local.Usage own id ∷ xs) = ap (before_usages (make_usage own id)) (single-on page xs)
single-on page (local.UsageId id ∷ xs) = ap (before_usages (make_usage page id)) (single-on page xs)
single-on page (x ∷ xs) = single-on page xs

-- how many have no page: of one more, too
abbrev lacking : List LocalItem → ℕ
lacking xs = count_by lacks_page (filter_map local_usage xs)

lacking-own : (own id : ℕ) (xs : List LocalItem) → lacking (local.Usage own id ∷ xs) ≡ lacking xs
lacking-own own id xs =
    let more = sum_by-cons (λ u. cond (lacks_page u) 1 0) (record { page = Some own; id = id })
    (filter_map local_usage xs) in omega (arith, more)

lacking-id : (id : ℕ) (xs : List LocalItem) → lacking (local.UsageId id ∷ xs) ≡ 1 + lacking xs
lacking-id id xs =
    sum_by-cons (λ u. cond (lacks_page u) 1 0) (record { page = None; id = id })
    (filter_map local_usage xs)

-- without a page in force each has its own, or some hasn't
pub single-own : (page : ℕ) (xs : List LocalItem)
    → count_by lacks_page (filter_map local_usage xs) ≡ 0
    → single_usages None xs ≡ Ok (map (usage_under page) (filter_map local_usage xs))
single-own page [] none = refl
single-own page (local.Usage own id ∷ xs) none =
    ap (before_usages (make_usage own id)) (single-own page xs (sym (lacking-own own id xs) ∙ none))
single-own page (local.UsageId id ∷ xs) none =
    absurd (omega (arith, none, lacking-id id xs))
single-own page (x ∷ xs) none = single-own page xs none

pub single-lacks : (xs : List LocalItem) → 0 < count_by lacks_page (filter_map local_usage xs)
    → single_usages None xs ≡ Err MissingUsagePage
single-lacks [] some = absurd (omega (arith, some))
single-lacks (local.Usage own id ∷ xs) some =
    ap (before_usages (make_usage own id))
    (single-lacks xs (omega (arith, some, lacking-own own id xs)))
single-lacks (local.UsageId id ∷ xs) some = refl
single-lacks (x ∷ xs) some = single-lacks xs some

-- usage c of single ones, or the last one
pub usage_at-single : (page : ℕ) (us : List LocalUsage) (c n : ℕ) (d : LocalUsage) → 0 < length us
    → n ≡ min c (length us - 1)
    → usage_under page (get_or us n d) ≡ usage_at (map (usage_under page) us) c
usage_at-single page [] c n d some e = absurd (omega arith)
usage_at-single page (u ∷ []) c n d some e =
    let first : n ≡ 0 = omega arith in ap (λ k. usage_under page (get_or (u ∷ []) k d)) first
usage_at-single page (u ∷ v ∷ us) zero n d some e =
    let first : n ≡ 0 = omega arith in ap (λ k. usage_under page (get_or (u ∷ v ∷ us) k d)) first
usage_at-single page (u ∷ v ∷ us) (suc c) n d some e =
    let later : n ≡ suc (min c (length (v ∷ us) - 1)) = omega arith in
    let more : 0 < length (v ∷ us) = omega arith in
    ap (λ k. usage_under page (get_or (u ∷ v ∷ us) k d)) later
    ∙ usage_at-single page (v ∷ us) c (min c (length (v ∷ us) - 1)) d more refl

-- what is held of a kind, behind one local item more
cons-none : {B : Type 0} (o : Option B) → cons_option o [] ≡ option_to_list o
cons-none None = refl
cons-none (Some y) = refl

items-more : (xs : List PagedLocal) (x : PagedLocal)
    → local_items (xs ++ x ∷ []) ≡ local_items xs ++ x.item ∷ []
items-more xs x = map-append (λ (l : PagedLocal). l.item) xs (x ∷ [])

filter_map-more : {B : Type 0} (f : LocalItem → Option B) (xs : List PagedLocal) (x : PagedLocal)
    → filter_map f (local_items (xs ++ x ∷ []))
    ≡ filter_map f (local_items xs) ++ option_to_list (f x.item)
filter_map-more f xs x =
    ap (filter_map f) (items-more xs x) ∙ filter_map-append f (local_items xs) (x.item ∷ [])
    ∙ ap (λ l. filter_map f (local_items xs) ++ l) (cons-none (f x.item))

pub kind-added : {B : Type 0} (f : LocalItem → Option B) (old new : List PagedLocal)
    (x : PagedLocal) (was is : List B) → new ≡ old ++ x ∷ []
    → was ≡ filter_map f (local_items old) → is ≡ was ++ option_to_list (f x.item)
    → is ≡ filter_map f (local_items new)
kind-added f old new x was is more held added =
    added ∙ ap (λ l. l ++ option_to_list (f x.item)) held ∙ sym (filter_map-more f old x)
    ∙ ap (λ ls. filter_map f (local_items ls)) (sym more)

-- and behind one less
all-but : {B : Type 0} (front : List B) (o : Option B)
    → without_last (is_some o) (front ++ option_to_list o) ≡ front
all-but front None = append-nil front
all-but front (Some y) =
    let size : length (front ++ y ∷ []) ≡ suc (length front) = grind (arith, common_steps) in
    ap (λ n. take n (front ++ y ∷ []))
    (let e : length (front ++ y ∷ []) - 1 ≡ length front = omega (arith, size) in e)
    ∙ take-append_seam front (y ∷ [])

pub kind-popped : {B : Type 0} (f : LocalItem → Option B) (old new : List PagedLocal)
    (x : PagedLocal) (was is : List B) (is_so : Bool) → old ≡ new ++ x ∷ []
    → was ≡ filter_map f (local_items old) → is_so ≡ is_some (f x.item)
    → is ≡ without_last is_so was → is ≡ filter_map f (local_items new)
kind-popped f old new x was is is_so less held one popped =
    popped ∙ ap (λ b. without_last b was) one
    ∙ ap (without_last (is_some (f x.item)))
    (held ∙ ap (λ ls. filter_map f (local_items ls)) less ∙ filter_map-more f new x)
    ∙ all-but (filter_map f (local_items new)) (f x.item)
