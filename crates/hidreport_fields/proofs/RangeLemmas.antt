-- The range of a list of usages, by its first and its last.
use Rattle.std.proofs.Common.{◌≡◌, ℕ, zero, suc, ◌+◌, ◌-◌, ◌%◌, ◌<◌, ◌≤◌, Bool, true, false, cond}
use Rattle.std.proofs.Common.{◌&&◌, nat_le, List, [], ◌∷◌, Some, None, IsSome, length, get_or}
use Rattle.std.proofs.Common.{Contains, ◌↔◌, refl, ap, sym, ◌∙◌, arith}
use Rattle.std.specs.Prelude.{◌==◌, slice_get}
use Rattle.std.proofs.lemmas.Bool.Decides.{nat_tests}
use Rattle.hidreport_fields.specs.UsageRange.{make_usage, range_from}
use Rattle.hidreport_fields.specs.Records.{Attributes, ArrayRecord, FieldPlace}
use Rattle.hidreport_fields.specs.Tiling.{HasRange, IsRangeOf}
use Rattle.hidreport_fields.specs.UsageRange.{RangeRecord, HasExactly, last_usage, range_of, usage_within}
use Rattle.hidreport_fields.specs.declared.field.usage.Usage.{Usage}

-- the last of a list
slice_get-last : (x : Usage) (us : List Usage)
    → slice_get (x ∷ us) (length us) ≡ Some (last_usage x us)
slice_get-last x [] = refl
slice_get-last x (y ∷ us) = slice_get-last y us

-- a range by what reading the list's two ends gives
pub range_of-ends : (us : List Usage) (u v : Usage) → Some u ≡ slice_get us 0
    → Some v ≡ slice_get us (length us - 1)
    → range_of true us ≡ Some (record { first = u; last = v })
range_of-ends [] u v f l = cc
range_of-ends (x ∷ us) u v f l =
    let behind : length (x ∷ us) - 1 ≡ length us = omega arith in
    let e = ap (λ n. slice_get (x ∷ us) n) behind in
    let found = slice_get-last x us in
    let first : x ≡ u = cc in
    let last : last_usage x us ≡ v = cc in
    rw (last, first) refl

-- an id counts on within its 16 bits
id_counts : (low k : ℕ) → low % 65536 + k < 65536 → (low + k) % 65536 ≡ low % 65536 + k
id_counts low k small = omega arith

-- usage number k of a minimum and a maximum
range_from-at : (page low n k : ℕ) (d : Usage) → k < n
    → get_or (range_from page low n) k d ≡ make_usage page ((low + k) % 65536)
range_from-at page low zero k d h = absurd (omega arith)
range_from-at page low (suc n) zero d h =
    let e : low ≡ low + 0 = omega arith in ap (λ m. make_usage page (m % 65536)) e
range_from-at page low (suc n) (suc k) d h =
    let e : low + 1 + k ≡ low + suc k = omega arith in
    range_from-at page (low + 1) n k d (omega arith) ∙ ap (λ m. make_usage page (m % 65536)) e

pub length-range_from : (page low n : ℕ) → length (range_from page low n) ≡ n
length-range_from page low zero = refl
length-range_from page low (suc n) = let e = length-range_from page (low + 1) n in omega arith

-- the last of a list by its number
last_usage-at : (x : Usage) (us : List Usage) (d : Usage)
    → last_usage x us ≡ get_or (x ∷ us) (length us) d
last_usage-at x [] d = refl
last_usage-at x (y ∷ us) d = last_usage-at y us d

-- an answer under a test is there exactly where the test is true
is_some-test : {A : Type 0} (b : Bool) (x : A) → IsSome (cond b (Some x) None) → b ≡ true
is_some-test true x h = refl
is_some-test false x h = cc

test-is_some : {A : Type 0} (b : Bool) (x : A) → b ≡ true → IsSome (cond b (Some x) None)
test-is_some true x h = refl
test-is_some false x h = cc

-- what the test of a range says
test_within : (p q i j k : ℕ) → ((p == q) && (nat_le i k && nat_le k j)) ≡ true
    → (p ≡ q) × (i ≤ k) × (k ≤ j)
test_within p q i j k h = (
  grind (arith, nat_tests),
  grind (arith, nat_tests),
  grind
      (arith, nat_tests),
)

within_test : (p q i j k : ℕ) → p ≡ q → i ≤ k → k ≤ j
    → ((p == q) && (nat_le i k && nat_le k j)) ≡ true
within_test p q i j k same low high = grind (arith, nat_tests)

-- a range has exactly the usages that count on from its first id to its last
exact_range : (r : RangeRecord) (us : List Usage) (page low : ℕ) → r.first ≡ make_usage page low
    → low + length us ≡ r.last.usage_id + 1
    → ((k : ℕ) (d : Usage) → k < length us → get_or us k d ≡ make_usage page (low + k))
    → (u : Usage) → IsSome (usage_within r u) ↔ Contains us u
exact_range r us page low first counts each u =
    let first_page = ap (λ (v : Usage). v.usage_page) first in
    let first_id = ap (λ (v : Usage). v.usage_id) first in (
      λ found.
          let t = test_within u.usage_page r.first.usage_page r.first.usage_id r.last.usage_id
          u.usage_id (is_some-test _ u found) in
          let within : u.usage_id - low < length us = omega (arith, t.1, t.2, first_id) in
          let here : low + (u.usage_id - low) ≡ u.usage_id = omega (arith, t.1, first_id) in (
            u.usage_id - low,
            within,
            each (u.usage_id - low) u within ∙ ap (make_usage page) here
                ∙ ap (λ p. make_usage p u.usage_id) (sym (t.0 ∙ first_page)),
          ),
      λ listed.
          let same = sym (each listed.0 u listed.1) ∙ listed.2 in
          let id = ap (λ (v : Usage). v.usage_id) same in
          let page_is = ap (λ (v : Usage). v.usage_page) same in
          test-is_some _ u (within_test u.usage_page r.first.usage_page r.first.usage_id
          r.last.usage_id u.usage_id
          (sym (first_page ∙ page_is)) (omega (arith, first_id, id))
          (omega (arith, listed.1, id, counts))),
    )

-- so has the range of a list of usages
pub range_of-exact : (b : Bool) (us : List Usage) (r : RangeRecord) → Some r ≡ range_of b us
    → IsRangeOf us → HasExactly r us
range_of-exact false us r h g = cc
range_of-exact true [] r h g = cc
range_of-exact true (x ∷ us) r h g = λ counts.
    let page = g.page in let low = g.low in let count = g.count in let made = g.is in
    let is : r ≡ record { first = x; last = last_usage x us } = cc in
    let size : length (x ∷ us) ≡ count = ap (λ (l : List Usage). length l) made
    ∙ length-range_from page low count in
    let each : (k : ℕ) (d : Usage) → k < length (x ∷ us)
    → get_or (x ∷ us) k d ≡ make_usage page ((low + k) % 65536) =
    λ k d below. ap (λ (l : List Usage). get_or l k d) made
    ∙ range_from-at page low count k d (omega (arith, size, below)) in
    let none : low + 0 ≡ low = omega arith in
    let first : r.first ≡ make_usage page (low % 65536) = ap (λ (v : RangeRecord). v.first) is
    ∙ each 0 x (omega arith) ∙ ap (λ n. make_usage page (n % 65536)) none in
    let last : r.last ≡ make_usage page ((low + length us) % 65536) =
    ap (λ (v : RangeRecord). v.last) is ∙ last_usage-at x us x ∙ each (length us) x (omega arith) in
    let first_id = ap (λ (v : Usage). v.usage_id) first in
    let last_id = ap (λ (v : Usage). v.usage_id) last in
    exact_range r (x ∷ us) page (low % 65536) first
    (sym (ap (λ n. n + length (x ∷ us)) first_id) ∙ counts)
    (λ k d below. each k d below
    ∙ ap (make_usage page) (id_counts low k (omega (arith, first_id, last_id, counts, below))))

-- the usages of an array of a range
pub has-range : (b : Bool) (place : FieldPlace) (us : List Usage) (count : ℕ) (shared : Attributes)
    → b ≡ true → HasRange (ArrayRecord place us b count shared) → IsRangeOf us
has-range true place us count shared e h = h
has-range false place us count shared e h = cc
