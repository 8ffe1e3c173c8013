-- Single usages and a range on one page are the same for hosts and by the letter of the standard.
use Rattle.std.proofs.Common.{◌≡◌, ◌∙◌, ◌+◌, ◌-◌, ◌*◌, ◌/◌, ◌%◌, ◌<◌, ℕ, Bool, true, false, cond, List, [], ◌∷◌, ◌++◌}
use Rattle.std.proofs.Common.{Option, None, Some, Ok, ap, arith, flat_map, map, nat_lt, refl, sym, unwrap_or}
use Rattle.std.proofs.Common.{◌||◌}
use Rattle.std.specs.Prelude.{◌==◌}
use Rattle.std.specs.List.{list_any}
use Rattle.std.proofs.lemmas.Bool.Decides.{nat_tests}
use Rattle.hidreport_fields.specs.Tiling.{Each}
use Rattle.hidreport_fields.specs.UsageRange.{make_usage, range_from}
use Rattle.hidreport_fields.specs.declared.field.usage.Usage.{Usage}
use Rattle.hidreport_items.specs.declared.local.LocalItem.{LocalItem}
use Rattle.hidreport_items.specs.declared.local.LocalItem.TheVariants as local
use Rattle.hidreport.specs.HostLaws.{NamesOne, ReadAlike, on_page}
use Rattle.hidreport.specs.HostUsages.{completed, first_set, is_lone, lies_on, moved_to}
use Rattle.hidreport.specs.HostUsages.{own_span, span_to, span_usages, spans}
use Rattle.hidreport.specs.HostUsages.{usages_from}
use Rattle.hidreport.specs.ItemState.{first_of, local_items}
use Rattle.hidreport.specs.Usages.{UsageList, as_single, before_usages, host_usages, last_local}
use Rattle.hidreport.specs.Usages.{minimum_of, single_usages, standard_usages, usages_of_spans, usages_with}
use Rattle.hidreport.specs.declared.parser.paged_local.PagedLocal.{PagedLocal}
use Rattle.hidreport.specs.declared.parser.usage_span.UsageSpan.{UsageSpan}
use Rattle.hidreport.proofs.HostUsageLemmas.{lone-range, lone-so}

-- single usages where this is the page in force
abbrev NamesOneOn : ℕ → PagedLocal → Type 0
NamesOneOn page l = (l.page ≡ Some page) × NamesOne l.item

abbrev ReadAlikeOn : ℕ → List PagedLocal → Type 0
ReadAlikeOn page ls = standard_usages (Some page) (local_items ls) ≡ Ok (host_usages (Some page) ls)

-- the span of a single usage on a page
abbrev one_span : ℕ → LocalItem → UsageSpan
one_span page (local.Usage own id) = own_span own id
one_span page (local.UsageId id) = span_to page id id false
one_span page _ = own_span 0 0

abbrev spans_of : ℕ → List PagedLocal → List UsageSpan
spans_of page ls = map (λ (l : PagedLocal). one_span page l.item) ls

-- no set is opened
set-next : (page : Option ℕ) (x : LocalItem) (ls : List PagedLocal) → NamesOne x
    → first_set false ls ≡ ls
    → first_set false (record { page = page; item = x } ∷ ls) ≡ record { page = page; item = x } ∷ ls
set-next page (local.Usage own id) ls one rest = ap (λ l. record { page = page; item = local.Usage own id } ∷ l) rest
set-next page (local.UsageId id) ls one rest = ap (λ l. record { page = page; item = local.UsageId id } ∷ l) rest
set-next page x ls one rest = absurd one

no-set : (page : ℕ) (ls : List PagedLocal) → Each (NamesOneOn page) ls → first_set false ls ≡ ls
no-set page [] each = refl
no-set page (l ∷ ls) each = set-next l.page l.item ls each.0.1 (no-set page ls each.1)

-- each names a span
span-next : (page low : ℕ) (own : Option ℕ) (x : LocalItem) (ls : List PagedLocal) → NamesOne x
    → own ≡ Some page → spans low ls ≡ spans_of page ls
    → spans low (record { page = own; item = x } ∷ ls) ≡ one_span page x ∷ spans_of page ls
span-next page low own (local.Usage p id) ls one is rest = ap (λ ss. own_span p id ∷ ss) rest
span-next page low own (local.UsageId id) ls one is rest =
    ap (λ (o : Option ℕ). span_to (unwrap_or o 0) id id false ∷ spans low ls) is
    ∙ ap (λ ss. span_to page id id false ∷ ss) rest
span-next page low own x ls one is rest = absurd one

spans-are : (page low : ℕ) (ls : List PagedLocal) → Each (NamesOneOn page) ls
    → spans low ls ≡ spans_of page ls
spans-are page low [] each = refl
spans-are page low (l ∷ ls) each =
    span-next page low l.page l.item ls each.0.1 each.0.0 (spans-are page low ls each.1)

-- which is on its page already
abbrev span_by : ℕ → ℕ → ℕ → Bool → Bool → UsageSpan
span_by page low high is_short is_range = record {
  page = page;
  first = low;
  last = high;
  is_short = is_short;
  is_range = is_range;
}

moved-by : (lies short : Bool) (page low high : ℕ) (is_range : Bool)
    → cond lies (span_by page low high short is_range)
    (cond short (span_by page low high short is_range) (span_by page low high short is_range))
    ≡ span_by page low high short is_range
moved-by true short page low high is_range = refl
moved-by false true page low high is_range = refl
moved-by false false page low high is_range = refl

own-moved : (lies : Bool) (s : UsageSpan) → cond lies s s ≡ s
own-moved true s = refl
own-moved false s = refl

stays-one : (page : ℕ) (x : LocalItem) (lies : Bool) → NamesOne x
    → cond lies (one_span page x) (moved_to page (one_span page x)) ≡ one_span page x
stays-one page (local.Usage own id) lies one = own-moved lies (own_span own id)
stays-one page (local.UsageId id) lies one = moved-by lies (nat_lt id 65536) page id id false
stays-one page x lies one = absurd one

all-stay : (page : ℕ) (ls : List PagedLocal) → Each (NamesOneOn page) ls
    → completed page (spans_of page ls) ≡ spans_of page ls
all-stay page [] each = refl
all-stay page (l ∷ ls) each =
    ap (λ ss. cond (list_any (lies_on page) (spans_of page ls)) (one_span page l.item)
    (moved_to page (one_span page l.item)) ∷ ss) (all-stay page ls each.1)
    ∙ ap (λ s. s ∷ spans_of page ls)
    (stays-one page l.item (list_any (lies_on page) (spans_of page ls)) each.0.1)

-- its usage is that of the standard
one-usage : (s : UsageSpan) (n : ℕ) → usages_from s n (n + 1 - n) ≡ usages_from s n 1
one-usage s n = ap (usages_from s n) (let e : n + 1 - n ≡ 1 = omega arith in e)

short-by : (b : Bool) (page id n : ℕ) → b ≡ true
    → make_usage (cond b page (n / 65536)) id ≡ make_usage page id
short-by b page id n short = ap (λ (c : Bool). make_usage (cond c page (n / 65536)) id) short

usage-next : (page : ℕ) (x : LocalItem) (xs : List LocalItem) (us : List Usage) → NamesOne x
    → single_usages (Some page) xs ≡ Ok us
    → single_usages (Some page) (x ∷ xs) ≡ Ok (span_usages (one_span page x) ++ us)
usage-next page (local.Usage own id) xs us one rest =
    let n = own * 65536 + id in
    let at : n / 65536 ≡ own = omega (arith, one) in
    let low : n % 65536 ≡ id = omega (arith, one) in
    ap (before_usages (make_usage own id)) rest
    ∙ sym (ap (λ l. Ok (l ++ us)) (one-usage (own_span own id) n)
    ∙ ap (λ p. Ok (make_usage p (n % 65536) ∷ us)) at
    ∙ ap (λ i. Ok (make_usage own i ∷ us)) low)
usage-next page (local.UsageId id) xs us one rest =
    let low : id % 65536 ≡ id = omega (arith, one) in
    let short : nat_lt id 65536 ≡ true = grind (arith, nat_tests, one) in
    ap (before_usages (make_usage page id)) rest
    ∙ sym (ap (λ l. Ok (l ++ us)) (one-usage (span_to page id id false) id)
    ∙ ap (λ u. Ok (u ∷ us)) (short-by (nat_lt id 65536) page (id % 65536) id short)
    ∙ ap (λ i. Ok (make_usage page i ∷ us)) low)
usage-next page x xs us one rest = absurd one

singles-are : (page : ℕ) (ls : List PagedLocal) → Each (NamesOneOn page) ls
    → single_usages (Some page) (local_items ls) ≡ Ok (flat_map span_usages (spans_of page ls))
singles-are page [] each = refl
singles-are page (l ∷ ls) each =
    usage-next page l.item (local_items ls) (flat_map span_usages (spans_of page ls)) each.0.1
    (singles-are page ls each.1)

-- and there is no range
no-minimum : (x : LocalItem) → NamesOne x → minimum_of x ≡ None
no-minimum (local.Usage own id) one = refl
no-minimum (local.UsageId id) one = refl
no-minimum x one = absurd one

none-least : (page : ℕ) (ls : List PagedLocal) → Each (NamesOneOn page) ls
    → last_local minimum_of (local_items ls) ≡ None
none-least page [] each = refl
none-least page (l ∷ ls) each =
    ap (λ (o : Option ℕ). first_of o (minimum_of l.item)) (none-least page ls each.1)
    ∙ no-minimum l.item each.0.1

no-range : (page : ℕ) (x : LocalItem) → NamesOne x → is_lone (one_span page x ∷ []) ≡ false
no-range page (local.Usage own id) one = refl
no-range page (local.UsageId id) one = refl
no-range page x one = absurd one

none-lone : (page : ℕ) (ls : List PagedLocal) → Each (NamesOneOn page) ls
    → is_lone (spans_of page ls) ≡ false
none-lone page [] each = refl
none-lone page (l ∷ []) each = no-range page l.item each.0.1
none-lone page (l ∷ m ∷ ls) each = refl

singles-on : (page : ℕ) (ls : List PagedLocal) → Each (NamesOneOn page) ls → ReadAlikeOn page ls
singles-on page ls each =
    let xs = local_items ls in
    let us = flat_map span_usages (spans_of page ls) in
    let named : completed page (spans 0 (first_set false ls)) ≡ spans_of page ls =
    ap (λ l. completed page (spans 0 l)) (no-set page ls each)
    ∙ ap (completed page) (spans-are page 0 ls each) ∙ all-stay page ls each in
    ap (λ (o : Option ℕ). usages_with o (Some page) xs) (none-least page ls each)
    ∙ ap as_single (singles-are page ls each)
    ∙ sym (ap (λ ss. Ok (usages_of_spans ss)) named
    ∙ ap (λ (b : Bool). Ok (listed us b)) (none-lone page ls each)) where
      listed : List Usage → Bool → UsageList
      listed us is_range = record { usages = us; is_range = is_range }

-- where a page is in force at each
items-on : (page : ℕ) (xs : List LocalItem) → local_items (map (on_page page) xs) ≡ xs
items-on page [] = refl
items-on page (x ∷ xs) = ap (λ l. x ∷ l) (items-on page xs)

each-on : (page : ℕ) (xs : List LocalItem) → Each NamesOne xs
    → Each (NamesOneOn page) (map (on_page page) xs)
each-on page [] each = tt
each-on page (x ∷ xs) each = ((refl, each.0), each-on page xs each.1)

pub singles-agree : (page : ℕ) (xs : List LocalItem) → Each NamesOne xs → ReadAlike page xs
singles-agree page xs each =
    ap (standard_usages (Some page)) (sym (items-on page xs))
    ∙ singles-on page (map (on_page page) xs) (each-on page xs each)

-- a minimum and a maximum
pub range-agrees : (page low high : ℕ) → high < 65536
    → ReadAlike page (local.UsageMinimum low ∷ local.UsageMaximum high ∷ [])
range-agrees page low high few =
    let s = span_to page low high true in
    let short : nat_lt high 65536 ≡ true = grind (arith, nat_tests, few) in
    let stays : moved_to page s ≡ s = moved-by false (nat_lt high 65536) page low high true in
    let lone : is_lone (s ∷ []) ≡ true = lone-so s refl (ap (λ b. b || (low / 65536 == high / 65536)) short) in
    let own : range_from (cond (nat_lt high 65536) page (low / 65536)) low (high + 1 - low)
    ≡ range_from page low (high + 1 - low) =
    ap (λ (b : Bool). range_from (cond b page (low / 65536)) low (high + 1 - low)) short in
    sym (ap (λ t. Ok (usages_of_spans (t ∷ []))) stays
    ∙ ap (λ l. Ok (listed l (is_lone (s ∷ [])))) (lone-range s lone ∙ own)
    ∙ ap (λ (b : Bool). Ok (listed (range_from page low (high + 1 - low)) b)) lone) where
      listed : List Usage → Bool → UsageList
      listed us is_range = record { usages = us; is_range = is_range }
