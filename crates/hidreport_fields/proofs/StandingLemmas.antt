-- The number that stands for a usage.
use Rattle.std.proofs.Common.{◌≡◌, ◌≢◌, ℕ, ◌<◌, ◌≤◌, Bool, true, false, cond, ◌||◌}
use Rattle.std.proofs.Common.{nat_lt, int_lt, ℤ, pos, ◌+ℤ◌, ◌-ℤ◌, ◌≤ℤ◌, ◌<ℤ◌, nat_abs, refl}
use Rattle.std.proofs.Common.{ap, ◌∙◌, arith, Option, Some, None, List, slice_get, subst}
use Rattle.std.proofs.Common.{IfSome, IsNone}
use Rattle.std.proofs.lemmas.Bool.Decides.{nat_tests}
use Rattle.std.proofs.lemmas.Int.{ints}
use Rattle.hidreport_fields.specs.Choosing.{usage_chosen}
use Rattle.hidreport_fields.specs.Standing.{IsLeastFor}

-- a chosen usage has its index, and the number lies within the bounds
record Chosen {A : Type 0} (us : List A) (low high : ℤ) (u : A) (n : ℤ) : Type 0 where
  index : slice_get us (nat_abs (n -ℤ low)) ≡ Some u
  from : low ≤ℤ n
  upto : n ≤ℤ high

chosen-by : {A : Type 0} (b : Bool) (us : List A) (k : ℕ) (u : A) → cond b None (slice_get us k) ≡ Some u
    → (b ≡ false) × (slice_get us k ≡ Some u)
chosen-by true us k u h = cc
chosen-by false us k u h = (refl, h)

chosen : {A : Type 0} (us : List A) (low high : ℤ) (u : A) (n : ℤ) → usage_chosen us low high n ≡ Some u
    → Chosen us low high u n
chosen us low high u n h =
    let t = chosen-by (int_lt n low || int_lt high n) us (nat_abs (n -ℤ low)) u h in record {
      index = t.1;
      from = grind (arith, nat_tests, ints, t.0);
      upto = grind (arith, nat_tests, ints, t.0);
    }

-- no index below this one has the usage
abbrev pub NotBefore : {A : Type 0} → List A → A → ℕ → Type 0
NotBefore us u i = (k : ℕ) → k < i → slice_get us k ≢ Some u

-- so each number that stands for it is as large as this one
at-least : {A : Type 0} (us : List A) (low high : ℤ) (u : A) (i : ℕ) (n : ℤ) → NotBefore us u i
    → Chosen us low high u n → (low +ℤ pos i) ≤ℤ n
at-least us low high u i n first ch = by (nat_lt (nat_abs (n -ℤ low)) i) refl where
  by : (t : Bool) → nat_lt (nat_abs (n -ℤ low)) i ≡ t → (low +ℤ pos i) ≤ℤ n
  by true e = absurd (first (nat_abs (n -ℤ low)) (grind (arith, nat_tests)) ch.index)
  by false e =
      let le : i ≤ nat_abs (n -ℤ low) = grind (arith, nat_tests) in
      let from = ch.from in omega (arith, ints)

-- a number within the bounds stands for the usage at its index
stands : {A : Type 0} (us : List A) (low high : ℤ) (u : A) (i : ℕ) (v : ℤ) → v ≡ low +ℤ pos i
    → slice_get us i ≡ Some u → v ≤ℤ high → usage_chosen us low high v ≡ Some u
stands us low high u i v e found upto =
    let below : int_lt v low ≡ false = grind (arith, ints) in
    let above : int_lt high v ≡ false = grind (arith, ints) in
    let index : nat_abs (v -ℤ low) ≡ i = omega (arith, ints) in
    ap (λ b. cond (b || int_lt high v) None (slice_get us (nat_abs (v -ℤ low)))) below
    ∙ ap (λ b. cond b None (slice_get us (nat_abs (v -ℤ low)))) above ∙ ap (slice_get us) index
    ∙ found

pub least-for : {A : Type 0} (us : List A) (low high : ℤ) (u : A) (i : ℕ) (v : ℤ)
    → v ≡ low +ℤ pos i → slice_get us i ≡ Some u → NotBefore us u i → v ≤ℤ high
    → IsLeastFor us low high u (Some v)
least-for us low high u i v e found first upto = (
  stands us low high u i v e found upto,
  λ other h. let a = at-least us low high u i other first (chosen us low high u other h) in
      omega (arith, ints, a, e),
)

pub none-past : {A : Type 0} (us : List A) (low high : ℤ) (u : A) (i : ℕ) → NotBefore us u i
    → high <ℤ (low +ℤ pos i) → IsLeastFor us low high u None
none-past us low high u i first past = λ other h.
    let ch = chosen us low high u other h in
    let a = at-least us low high u i other first ch in
    let b = ch.upto in
    absurd (omega (arith, ints, a, b, past))

-- so does what the code answers, by its own bounds
pub least-choosing : {A : Type 0} (us : List A) (low high least most : ℤ) (u : A) (i : ℕ)
    (number : Option ℤ) → least ≡ low → most ≡ high → slice_get us i ≡ Some u → NotBefore us u i
    → IfSome number (λ n. (n ≡ least +ℤ pos i) × (n ≤ℤ most))
    → (IsNone number → most <ℤ (least +ℤ pos i)) → IsLeastFor us low high u number
least-choosing us low high least most u i (Some n) is-low is-high found first some none =
    let at : n ≡ low +ℤ pos i = some.0 ∙ ap (λ z. z +ℤ pos i) is-low in
    least-for us low high u i n at found first (subst (λ z. n ≤ℤ z) is-high some.1)
least-choosing us low high least most u i None is-low is-high found first some none =
    let past : high <ℤ (low +ℤ pos i) = omega (arith, ints, none refl, is-low, is-high) in
    none-past us low high u i first past
