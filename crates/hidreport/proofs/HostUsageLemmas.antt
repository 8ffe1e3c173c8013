-- Usages as hosts read them: what a lone maximum gives, and what is no usage changes nothing.
use Rattle.std.proofs.Common.{◌≡◌, ℕ, zero, suc, ◌+◌, ◌-◌, ◌*◌, ◌%◌, ◌<◌, ◌≤◌, Bool, true, false, cond}
use Rattle.std.proofs.Common.{◌&&◌, ◌||◌, List, [], ◌∷◌, ◌++◌, length, filter, Option, None, Some, unwrap_or}
use Rattle.std.proofs.Common.{IfSome, drop, subst, get_or, min, take, option_to_list, flat_map, refl, sym, ap, ◌∙◌, append-nil, arith, length-append}
use Rattle.std.specs.Prelude.{◌==◌, ◌/◌}
use Rattle.std.proofs.lemmas.Bool.Decides.{nat_tests}
use Rattle.hidreport_items.specs.Kept.{is_kept}
use Rattle.hidreport_items.specs.declared.item.ItemType.TheVariants as item
use Rattle.hidreport_items.specs.declared.local.LocalItem.{LocalItem}
use Rattle.hidreport_items.specs.declared.local.LocalItem.TheVariants as local
use Rattle.hidreport.specs.Fields.{usage_at}
use Rattle.std.specs.Prelude.{nat_lt, not, slice_set}
use Rattle.std.specs.List.{list_any}
use Rattle.hidreport.specs.Fields.{each_from}
use Rattle.hidreport.specs.HostUsages.{completed, first_set, is_lone, lies_on, is_on_one_page, moved_to}
use Rattle.hidreport.specs.HostUsages.{minimum_behind, opens_set, span_of, spans, span_usage, usages_from}
use Rattle.hidreport.specs.HostUsages.{span_usages}
use Rattle.hidreport.specs.ItemState.{local_items}
use Rattle.hidreport_fields.specs.Tiling.{IsRangeOf}
use Rattle.hidreport.specs.Parser.Layout.{variable_of, variable_with}
use Rattle.hidreport_fields.specs.Records.{FieldRecord}
use Rattle.hidreport.specs.Usages.{UsageList, host_usages, usages_of_spans}
use Rattle.hidreport_fields.specs.UsageRange.{make_usage, range_from}
use Rattle.hidreport.specs.declared.parser.layout.Layout.{Layout}
use Rattle.hidreport_fields.specs.declared.field.usage.Usage.{Usage}
use Rattle.hidreport.specs.declared.parser.paged_local.PagedLocal.{PagedLocal}
use Rattle.hidreport.specs.declared.parser.usage_span.UsageSpan.{UsageSpan}

-- the page of a span's first usage
abbrev pub first_page : UsageSpan → ℕ
first_page s = cond s.is_short s.page (s.first / 65536)

-- short usages are a range on their page
short-range : (s : UsageSpan) (n more : ℕ) → s.is_short ≡ true
    → usages_from s n more ≡ range_from s.page n more
short-range s n zero short = refl
short-range s n (suc more) short =
    ap (λ b. make_usage (cond b s.page (n / 65536)) (n % 65536) ∷ usages_from s (n + 1) more) short
    ∙ ap (λ l. make_usage s.page (n % 65536) ∷ l) (short-range s (n + 1) more short)

-- so are others on one page
own-range : (s : UsageSpan) (page n more : ℕ) → s.is_short ≡ false
    → page * 65536 ≤ n → n + more ≤ page * 65536 + 65536
    → usages_from s n more ≡ range_from page n more
own-range s page n zero own low high = refl
own-range s page n (suc more) own low high =
    let here : n / 65536 ≡ page = omega arith in
    ap (λ b. make_usage (cond b s.page (n / 65536)) (n % 65536) ∷ usages_from s (n + 1) more) own
    ∙ ap (λ p. make_usage p (n % 65536) ∷ usages_from s (n + 1) more) here
    ∙ ap (λ l. make_usage page (n % 65536) ∷ l)
    (own-range s page (n + 1) more own (omega (arith, low)) (omega (arith, high)))

-- the usages of a span on one page
page-by : (b : Bool) (s : UsageSpan) → s.is_short ≡ b
    → (b || (s.first / 65536 == s.last / 65536)) ≡ true
    → span_usages s ≡ range_from (cond b s.page (s.first / 65536)) s.first (s.last + 1 - s.first)
page-by true s short one = short-range s s.first (s.last + 1 - s.first) short
page-by false s own one =
    let same : s.first / 65536 ≡ s.last / 65536 = grind (arith, nat_tests) in
    own-range s (s.first / 65536) s.first (s.last + 1 - s.first) own (omega arith)
    (omega (arith, same))

pub page-range : (s : UsageSpan) → is_on_one_page s ≡ true
    → span_usages s ≡ range_from (first_page s) s.first (s.last + 1 - s.first)
page-range s one =
    page-by s.is_short s refl one
    ∙ ap (λ p. range_from p s.first (s.last + 1 - s.first)) refl

and-both : (a b : Bool) → (a && b) ≡ true → (a ≡ true) × (b ≡ true)
and-both true true e = (refl, refl)
and-both true false e = cc
and-both false b e = cc

one-usages : (s : UsageSpan) → flat_map span_usages (s ∷ []) ≡ span_usages s
one-usages s = append-nil (span_usages s)

pub lone-so : (s : UsageSpan) → s.is_range ≡ true → is_on_one_page s ≡ true → is_lone (s ∷ []) ≡ true
lone-so s range one = ap (λ b. b && is_on_one_page s) range ∙ one

-- a lone maximum gives a range
pub lone-range : (s : UsageSpan) → is_lone (s ∷ []) ≡ true
    → flat_map span_usages (s ∷ []) ≡ range_from (first_page s) s.first (s.last + 1 - s.first)
lone-range s lone =
    one-usages s ∙ page-range s (and-both s.is_range (is_on_one_page s) lone).1

pub spans-ranged : (ss : List UsageSpan) → is_lone ss ≡ true → IsRangeOf (flat_map span_usages ss)
spans-ranged [] lone = cc
spans-ranged (s ∷ []) lone = record {
  page = first_page s;
  low = s.first;
  count = s.last + 1 - s.first;
  is = lone-range s lone;
}
spans-ranged (s ∷ t ∷ ss) lone = cc

-- reserved local items name no usages and open no set

abbrev pub is_kept_local : LocalItem → Bool
is_kept_local x = is_kept (item.Local x)

abbrev pub is_kept_paged : PagedLocal → Bool
is_kept_paged l = is_kept_local l.item

abbrev paged : Option ℕ → LocalItem → PagedLocal
paged page x = record { page = page; item = x }

abbrev Same : Bool → ℕ → List PagedLocal → Type 0
Same b low ls = spans low (first_set b (filter is_kept_paged ls)) ≡ spans low (first_set b ls)

cut : (c : Bool) (low : ℕ) (l : PagedLocal) (xs ys : List PagedLocal)
    → spans (minimum_behind low l.item) xs ≡ spans (minimum_behind low l.item) ys
    → spans low (cond c [] (l ∷ xs)) ≡ spans low (cond c [] (l ∷ ys))
cut true low l xs ys e = refl
cut false low l xs ys e =
    ap (λ ss. option_to_list (span_of (unwrap_or l.page 0) low l.item) ++ ss) e

one-thin : (b : Bool) (low : ℕ) (page : Option ℕ) (x : LocalItem) (ls : List PagedLocal)
    → ((c : Bool) (m : ℕ) → Same c m ls) → Same b low (paged page x ∷ ls)
one-thin true low page (local.Reserved n) ls rest = rest true low
one-thin false low page (local.Reserved n) ls rest = rest false low
one-thin b low page x ls rest =
    let c = b || opens_set x in
    cut (b && opens_set x) low (paged page x) (first_set c (filter is_kept_paged ls))
    (first_set c ls) (rest c (minimum_behind low x))

set-thin : (b : Bool) (low : ℕ) (ls : List PagedLocal) → Same b low ls
set-thin b low [] = refl
set-thin b low (l ∷ ls) = one-thin b low l.page l.item ls (λ c m. set-thin c m ls)

pub hosts-thin : (page : Option ℕ) (ls : List PagedLocal)
    → host_usages page (filter is_kept_paged ls) ≡ host_usages page ls
hosts-thin page ls =
    ap (λ ss. usages_of_spans (completed (unwrap_or page 0) ss)) (set-thin false 0 ls)

items-by : (b : Bool) (page : Option ℕ) (x : LocalItem) (xs : List PagedLocal)
    → local_items (cond b (paged page x ∷ xs) xs) ≡ cond b (x ∷ local_items xs) (local_items xs)
items-by true page x xs = refl
items-by false page x xs = refl

-- the local items alone, without reserved ones
pub items-thin : (ls : List PagedLocal)
    → local_items (filter is_kept_paged ls) ≡ filter is_kept_local (local_items ls)
items-thin [] = refl
items-thin (l ∷ ls) =
    items-by (is_kept_local l.item) l.page l.item (filter is_kept_paged ls)
    ∙ ap (λ xs. cond (is_kept_local l.item) (l.item ∷ xs) xs) (items-thin ls)

-- the usages of a span, counted

pub length-usages : (s : UsageSpan) (n more : ℕ) → length (usages_from s n more) ≡ more
length-usages s n zero = refl
length-usages s n (suc more) = let e = length-usages s (n + 1) more in omega arith

pub usages-next : (s : UsageSpan) (n more : ℕ)
    → usages_from s n (suc more) ≡ usages_from s n more ++ span_usage s (n + more) ∷ []
usages-next s n zero =
    ap (λ k. span_usage s k ∷ []) (let e : n ≡ n + 0 = omega arith in e)
usages-next s n (suc more) =
    ap (λ l. span_usage s n ∷ l) (usages-next s (n + 1) more)
    ∙ ap (λ k. span_usage s n ∷ (usages_from s (n + 1) more ++ span_usage s k ∷ []))
    (let e : n + 1 + more ≡ n + suc more = omega arith in e)

pub take-usages : (s : UsageSpan) (n k more : ℕ) → k ≤ more
    → take k (usages_from s n more) ≡ usages_from s n k
take-usages s n zero more le = refl
take-usages s n (suc k) zero le = absurd (omega arith)
take-usages s n (suc k) (suc more) le =
    ap (λ l. span_usage s n ∷ l) (take-usages s (n + 1) k more (omega (arith, le)))

-- usage c of a list, or the last one; where there is none this one
abbrev pub usage_or : Usage → List Usage → ℕ → Usage
usage_or d [] c = d
usage_or d (u ∷ us) c = usage_at (u ∷ us) c

-- one of the first of two lists
or-front : (d : Usage) (us vs : List Usage) (c : ℕ) → c < length us
    → usage_or d (us ++ vs) c ≡ usage_at us c
or-front d [] vs c lt = absurd (omega arith)
or-front d (u ∷ []) [] c lt = refl
or-front d (u ∷ []) (v ∷ vs) zero lt = refl
or-front d (u ∷ []) (v ∷ vs) (suc c) lt = absurd (omega (arith, lt))
or-front d (u ∷ w ∷ us) vs zero lt = refl
or-front d (u ∷ w ∷ us) vs (suc c) lt = or-front d (w ∷ us) vs c (omega (arith, lt))

-- the last of a list, or else this one
abbrev pub last_or : Usage → List Usage → Usage
last_or d [] = d
last_or d (u ∷ us) = last_or u us

or-behind : (d : Usage) (us vs : List Usage) (c : ℕ) → length us ≤ c
    → usage_or d (us ++ vs) c ≡ usage_or (last_or d us) vs (c - length us)
or-behind d [] vs c le = ap (usage_or d vs) (let e : c ≡ c - 0 = omega arith in e)
or-behind d (u ∷ []) [] c le = refl
or-behind d (u ∷ []) (v ∷ vs) zero le = absurd (omega arith)
or-behind d (u ∷ []) (v ∷ vs) (suc c) le =
    ap (usage_at (v ∷ vs)) (let e : c ≡ suc c - 1 = omega arith in e)
or-behind d (u ∷ w ∷ us) vs zero le = absurd (omega arith)
or-behind d (u ∷ w ∷ us) vs (suc c) le =
    or-behind u (w ∷ us) vs c (omega (arith, le))
    ∙ ap (usage_or (last_or w us) vs)
    (let e : c - length (w ∷ us) ≡ suc c - length (u ∷ w ∷ us) = omega arith in e)

at-from : (s : UsageSpan) (n more c : ℕ) → c < more
    → usage_at (usages_from s n more) c ≡ span_usage s (n + c)
at-from s n zero c lt = absurd (omega arith)
at-from s n (suc zero) zero lt = ap (span_usage s) (let e : n ≡ n + 0 = omega arith in e)
at-from s n (suc zero) (suc c) lt = absurd (omega (arith, lt))
at-from s n (suc (suc more)) zero lt = ap (span_usage s) (let e : n ≡ n + 0 = omega arith in e)
at-from s n (suc (suc more)) (suc c) lt =
    at-from s (n + 1) (suc more) c (omega (arith, lt))
    ∙ ap (span_usage s) (let e : n + 1 + c ≡ n + suc c = omega arith in e)

last-from : (d : Usage) (s : UsageSpan) (n more : ℕ)
    → last_or d (usages_from s n (suc more)) ≡ span_usage s (n + more)
last-from d s n zero = ap (span_usage s) (let e : n ≡ n + 0 = omega arith in e)
last-from d s n (suc more) =
    last-from (span_usage s n) s (n + 1) more
    ∙ ap (span_usage s) (let e : n + 1 + more ≡ n + suc more = omega arith in e)

-- usage c of a span and of what stands behind it
pub or-span : (d : Usage) (s : UsageSpan) (vs : List Usage) (n c : ℕ) → n ≡ s.last + 1 - s.first
    → c < n → usage_or d (span_usages s ++ vs) c ≡ span_usage s (s.first + c)
or-span d s vs n c is lt =
    or-front d (span_usages s) vs c
    (omega (arith, length-usages s s.first (s.last + 1 - s.first), is, lt))
    ∙ at-from s s.first (s.last + 1 - s.first) c (omega (arith, is, lt))

last-by : (more : ℕ) (d : Usage) (s : UsageSpan) (m : ℕ) → more ≡ suc m
    → last_or d (usages_from s s.first more) ≡ span_usage s (s.first + (more - 1))
last-by more d s m e =
    ap (λ k. last_or d (usages_from s s.first k)) e ∙ last-from d s s.first m
    ∙ ap (span_usage s) (let p : s.first + m ≡ s.first + (more - 1) = omega (arith, e) in p)

pub or-further : (d last : Usage) (s : UsageSpan) (vs : List Usage) (n c : ℕ)
    → n ≡ s.last + 1 - s.first → n ≤ c
    → (0 < n → last ≡ span_usage s (s.first + (n - 1))) → (n ≡ 0 → last ≡ d)
    → usage_or d (span_usages s ++ vs) c ≡ usage_or last vs (c - n)
or-further d last s vs n c is le some none =
    let size = length-usages s s.first (s.last + 1 - s.first) in
    or-behind d (span_usages s) vs c (omega (arith, size, is, le))
    ∙ ap (λ k. usage_or (last_or d (span_usages s)) vs (c - k)) (size ∙ sym is)
    ∙ ap (λ u. usage_or u vs (c - n)) (by-size n (s.last + 1 - s.first) is some none)
  where
    by-size : (k more : ℕ) → k ≡ more → (0 < k → last ≡ span_usage s (s.first + (k - 1)))
        → (k ≡ 0 → last ≡ d) → last_or d (usages_from s s.first more) ≡ last
    by-size zero more e some none =
        ap (λ m. last_or d (usages_from s s.first m)) (sym e) ∙ sym (none refl)
    by-size (suc k) more e some none =
        last-by more d s k (sym e)
        ∙ ap (λ m. span_usage s (s.first + (m - 1))) (sym e) ∙ sym (some (omega arith))

abbrev no_usage : List Usage
no_usage = []

-- the first ones of two lists
pub take-split : (room : ℕ) (us vs : List Usage)
    → take room (us ++ vs)
    ≡ take (min (length us) room) us ++ take (room - min (length us) room) vs
take-split room [] vs =
    let none : min 0 room ≡ 0 = omega arith in
    let all : room - 0 ≡ room = omega arith in
    sym (ap (λ k. take k no_usage ++ take (room - k) vs) none ∙ ap (λ k. take k vs) all)
take-split zero (u ∷ us) vs =
    let none : min (length (u ∷ us)) 0 ≡ 0 = omega arith in
    ap (λ k. take k (u ∷ us) ++ take (0 - k) vs) (sym none)
take-split (suc room) (u ∷ us) vs =
    let one : min (length (u ∷ us)) (suc room) ≡ suc (min (length us) room) = omega arith in
    let rest : suc room - suc (min (length us) room) ≡ room - min (length us) room = omega arith in
    ap (λ l. u ∷ l) (take-split room us vs)
    ∙ ap (λ k. take (suc (min (length us) room)) (u ∷ us) ++ take k vs) (sym rest)
    ∙ ap (λ k. take k (u ∷ us) ++ take (suc room - k) vs) (sym one)

-- the first of a list, and the rest
pub only : (ss : List UsageSpan) (s : UsageSpan) → length ss ≡ 1 → s ≡ get_or ss 0 s
    → ss ≡ s ∷ []
only [] s size is = absurd (omega (arith, size))
only (t ∷ []) s size is = ap (λ x. x ∷ []) (sym is)
only (t ∷ u ∷ ss) s size is = absurd (omega (arith, size))

take-nothing : (k : ℕ) → take k (no_usage) ≡ []
take-nothing zero = refl
take-nothing (suc k) = refl

-- usage c of as many of the first ones
pub at-first : (n c : ℕ) (us : List Usage) → c < n → usage_at (take n us) c ≡ usage_at us c
at-first zero c us lt = absurd (omega arith)
at-first (suc n) c [] lt = refl
at-first (suc n) c (u ∷ []) lt = ap (λ l. usage_at (u ∷ l) c) (take-nothing n)
at-first (suc zero) zero (u ∷ v ∷ us) lt = refl
at-first (suc zero) (suc c) (u ∷ v ∷ us) lt = absurd (omega (arith, lt))
at-first (suc (suc n)) zero (u ∷ v ∷ us) lt = refl
at-first (suc (suc n)) (suc c) (u ∷ v ∷ us) lt = at-first (suc n) c (v ∷ us) (omega (arith, lt))

pub some-first : (n : ℕ) (us : List Usage) → 0 < n → 0 < length us → 0 < length (take n us)
some-first n [] pos some = absurd (omega (arith, some))
some-first zero (u ∷ us) pos some = absurd (omega (arith, pos))
some-first (suc n) (u ∷ us) pos some = omega arith

-- usage c is in a list of as many of the first ones, if there is one
pub found-listed : {V : Type 0} (items : V → List Usage) (o : Option V) (n c : ℕ)
    (us : List Usage) → c < n → 0 < length us → IfSome o (λ v. items v ≡ take n us)
    → IfSome o (λ v. (0 < length (items v)) × (usage_at (items v) c ≡ usage_at us c))
found-listed items None n c us lt some are = tt
found-listed items (Some v) n c us lt some are = (
  subst (λ (l : List Usage). 0 < length l) (sym are) (some-first n us (omega (arith, lt)) some),
  ap (λ (l : List Usage). usage_at l c) are ∙ at-first n c us lt,
)

-- the usages from a span on
pub rest-of : (ss : List UsageSpan) (i : ℕ) (s : UsageSpan) → i < length ss → s ≡ get_or ss i s
    → flat_map span_usages (drop i ss) ≡ span_usages s ++ flat_map span_usages (drop (i + 1) ss)
rest-of [] i s lt is = absurd (omega arith)
rest-of (t ∷ ss) zero s lt is = ap (λ x. span_usages x ++ flat_map span_usages ss) (sym is)
rest-of (t ∷ ss) (suc i) s lt is =
    rest-of ss i s (omega (arith, lt)) is
    ∙ ap (λ k. span_usages s ++ flat_map span_usages (drop k (t ∷ ss)))
    (let e : suc (i + 1) ≡ suc i + 1 = omega arith in e)

-- what a list of usages is that no range gave
abbrev pub listed : List Usage → UsageList
listed us = record { usages = us; is_range = false }

-- the fields of as many of the first usages
pub each-first : (l : Layout) (us : UsageList) (n c more : ℕ) → c + more ≤ n
    → each_from (variable_of l (listed (take n us.usages))) c more
    ≡ each_from (variable_of l us) c more
each-first l us n c zero le = refl
each-first l us n c (suc more) le =
    ap (λ (u : Usage). variable_with l u c
    ∷ each_from (variable_of l (listed (take n us.usages))) (c + 1) more)
    (at-first n c us.usages (omega (arith, le)))
    ∙ ap (λ (fs : List FieldRecord). variable_of l us c ∷ fs)
    (each-first l us n (c + 1) more (omega (arith, le)))

-- spans moved from the last on

on-moved : (page : ℕ) (s : UsageSpan) → lies_on page s ≡ true → moved_to page s ≡ s
on-moved page s on =
    let parts = and-both (s.is_short && s.page == page) (not (nat_lt s.last s.first)) on in
    let short = and-both s.is_short (s.page == page) parts.0 in
    let same : page ≡ s.page = sym (equal short.1) in
    ap (λ b. cond b (record s { page = page }) s) short.0 ∙ ap (λ p. record s { page = p }) same
  where
    equal : {a b : ℕ} → (a == b) ≡ true → a ≡ b
    equal e = grind (arith, nat_tests)

any-at : (page : ℕ) (ss : List UsageSpan) (i : ℕ) (s : UsageSpan) → i < length ss
    → s ≡ get_or ss i s → lies_on page s ≡ true → list_any (lies_on page) ss ≡ true
any-at page [] i s lt is on = absurd (omega arith)
any-at page (t ∷ ss) zero s lt is on =
    ap (λ b. b || list_any (lies_on page) ss) (ap (lies_on page) (sym is) ∙ on)
any-at page (t ∷ ss) (suc i) s lt is on =
    ap (λ b. lies_on page t || b) (any-at page ss i s (omega (arith, lt)) is on)
    ∙ or-true (lies_on page t)
  where
    or-true : (b : Bool) → (b || true) ≡ true
    or-true true = refl
    or-true false = refl

-- from a span that lies on the page on, all is as it is wanted
pub stays-on : (page : ℕ) (old : List UsageSpan) (i : ℕ) (s : UsageSpan) → i < length old
    → s ≡ get_or old i s → lies_on page s ≡ true
    → list_any (lies_on page) (drop (suc i) old) ≡ false
    → take (suc i) old ++ completed page (drop (suc i) old) ≡ completed page old
stays-on page [] i s lt is on none = absurd (omega arith)
stays-on page (t ∷ old) zero s lt is on none =
    let moved : moved_to page t ≡ t =
    ap (moved_to page) (sym is) ∙ on-moved page s on ∙ is in
    ap (λ (x : UsageSpan). x ∷ completed page old) (sym moved)
    ∙ sym (ap (λ b. cond b t (moved_to page t) ∷ completed page old) none)
stays-on page (t ∷ old) (suc i) s lt is on none =
    let some = any-at page old i s (omega (arith, lt)) is on in
    ap (λ (l : List UsageSpan). t ∷ l) (stays-on page old i s (omega (arith, lt)) is on none)
    ∙ sym (ap (λ b. cond b t (moved_to page t) ∷ completed page old) some)

-- one span further moved
pub moves-on : (page : ℕ) (old : List UsageSpan) (i : ℕ) (s m : UsageSpan) → i < length old
    → s ≡ get_or old i s → lies_on page s ≡ false → m ≡ moved_to page s
    → list_any (lies_on page) (drop (suc i) old) ≡ false
    → (slice_set (take (suc i) old ++ completed page (drop (suc i) old)) i m
    ≡ take i old ++ completed page (drop i old))
    × (list_any (lies_on page) (drop i old) ≡ false)
moves-on page [] i s m lt is off moved none = absurd (omega arith)
moves-on page (t ∷ old) zero s m lt is off moved none = (
  ap (λ (x : UsageSpan). x ∷ completed page old) (moved ∙ ap (moved_to page) is)
      ∙ sym (ap (λ b. cond b t (moved_to page t) ∷ completed page old) none),
  ap (λ b. b || list_any (lies_on page) old) (ap (lies_on page) (sym is) ∙ off) ∙ none,
)
moves-on page (t ∷ old) (suc i) s m lt is off moved none =
    let rest = moves-on page old i s m (omega (arith, lt)) is off moved none in
    (ap (λ (l : List UsageSpan). t ∷ l) rest.0, rest.1)

-- the span at an index of those that are as they were
pub front-at : (page : ℕ) (old : List UsageSpan) (i : ℕ) (d : UsageSpan) → i < length old
    → get_or (take (suc i) old ++ completed page (drop (suc i) old)) i d ≡ get_or old i d
front-at page [] i d lt = absurd (omega arith)
front-at page (t ∷ old) zero d lt = refl
front-at page (t ∷ old) (suc i) d lt = front-at page old i d (omega (arith, lt))

-- as many usages as before, and a span's
pub length-taken : (ss : List UsageSpan) (i : ℕ) (s : UsageSpan) → i < length ss
    → s ≡ get_or ss i s
    → length (flat_map span_usages (take (i + 1) ss))
    ≡ length (flat_map span_usages (take i ss)) + length (span_usages s)
length-taken [] i s lt is = absurd (omega arith)
length-taken (t ∷ ss) zero s lt is =
    let one : length (flat_map span_usages (t ∷ [])) ≡ length (span_usages t) =
    ap length (append-nil (span_usages t)) in
    let same : length (span_usages t) ≡ length (span_usages s) =
    ap (λ (x : UsageSpan). length (span_usages x)) (sym is) in
    one ∙ same ∙ (let e : length (span_usages s) ≡ 0 + length (span_usages s) = omega arith in e)
length-taken (t ∷ ss) (suc i) s lt is =
    let more : suc i + 1 ≡ suc (i + 1) = omega arith in
    let rest = length-taken ss i s (omega (arith, lt)) is in
    ap (λ k. length (flat_map span_usages (take k (t ∷ ss)))) more
    ∙ length-append (span_usages t) (flat_map span_usages (take (i + 1) ss))
    ∙ ap (λ k. length (span_usages t) + k) rest
    ∙ (let e : length (span_usages t) + (length (flat_map span_usages (take i ss))
    + length (span_usages s)) ≡ length (span_usages t) + length (flat_map span_usages (take i ss))
    + length (span_usages s) = omega arith in e)
    ∙ ap (λ k. k + length (span_usages s))
    (sym (length-append (span_usages t) (flat_map span_usages (take i ss))))
