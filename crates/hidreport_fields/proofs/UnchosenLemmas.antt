-- The least number within the bounds that stands for no usage.
use Rattle.std.proofs.Common.{◌≡◌, ℕ, ◌≤◌, Bool, true, false, cond, ◌&&◌, ◌||◌}
use Rattle.std.proofs.Common.{nat_lt, nat_le, int_lt, ℤ, pos, ◌+ℤ◌, ◌-ℤ◌, ◌≤ℤ◌, ◌<ℤ◌, nat_abs, negsuc, refl, sym}
use Rattle.std.proofs.Common.{ap, ◌∙◌, arith, Option, Some, None, List, length, slice_get, is_none, subst}
use Rattle.std.proofs.Common.{◌⊎◌, inl, inr}
use Rattle.std.proofs.lemmas.Bool.Decides.{nat_tests}
use Rattle.std.proofs.lemmas.Int.{ints}
use Rattle.std.proofs.lemmas.Option.{slice_get_cases, slice_get_past}
use Rattle.std.specs.Int.{int_max}
use Rattle.hidreport_fields.specs.Choosing.{usage_chosen}
use Rattle.hidreport_fields.specs.Standing.{IsLeastUnchosen, is_null, is_unchosen}
use Rattle.hidreport_fields.specs.WritingValues.{fits}

all-three : (a b c : Bool) → (a && (b && c)) ≡ true → (a ≡ true) × (b ≡ true) × (c ≡ true)
all-three true true true e = (refl, refl, refl)
all-three true true false e = cc
all-three true false c e = cc
all-three false b c e = cc

of-three : (a b c : Bool) → a ≡ true → b ≡ true → c ≡ true → (a && (b && c)) ≡ true
of-three true true true p q r = refl
of-three true true false p q r = cc
of-three true false c p q r = cc
of-three false b c p q r = cc

not-true : (a : Bool) → (a ≡ true → a ≡ false) → a ≡ false
not-true true h = h refl
not-true false h = refl

past-usages : {A : Type 0} (us : List A) (k : ℕ) → is_none (slice_get us k) ≡ true → length us ≤ k
past-usages us k e = elim (slice_get_cases us k).1 [
  | inl found ↦ let is : slice_get us k ≡ Some found.0 = found.2 in cc
  | inr past ↦ past.0
]

-- a number that stands for none, where none outside does, lies within, behind all usages
pub record Behind {A : Type 0} (us : List A) (w : ℕ) (s : Bool) (low high n : ℤ) : Type 0 where
  pub wide : (nat_lt 0 w && nat_le w 32) ≡ true
  pub from : (low +ℤ pos (length us)) ≤ℤ n
  pub upto : n ≤ℤ high
  pub held : fits w s n ≡ true

pub behind : {A : Type 0} (us : List A) (w : ℕ) (s : Bool) (low high n : ℤ)
    → is_null w s low high n ≡ false → is_unchosen us w s low high n ≡ true
    → Behind us w s low high n
behind us w s low high n null un = by (int_lt n low || int_lt high n) refl where
  by : (out : Bool) → (int_lt n low || int_lt high n) ≡ out → Behind us w s low high n
  by true e =
      let parts = all-three (nat_lt 0 w && nat_le w 32)
      (is_none (usage_chosen us low high n)) (fits w s n) un in
      let bad : is_null w s low high n ≡ true = of-three (nat_lt 0 w && nat_le w 32)
      (int_lt n low || int_lt high n) (fits w s n) parts.0 e parts.2 in
      cc
  by false e =
      let parts = all-three (nat_lt 0 w && nat_le w 32)
      (is_none (usage_chosen us low high n)) (fits w s n) un in
      let got : is_none (slice_get us (nat_abs (n -ℤ low))) ≡ true =
      sym (ap (λ b. is_none (cond b None (slice_get us (nat_abs (n -ℤ low))))) e) ∙ parts.1 in
      let past : length us ≤ nat_abs (n -ℤ low) = past-usages us (nat_abs (n -ℤ low)) got in
      record {
        wide = parts.0;
        from = grind (arith, nat_tests, ints, e, past);
        upto = grind (arith, nat_tests, ints, e);
        held = parts.2;
      }

-- and such a number stands for none
pub stands-for-none : {A : Type 0} (us : List A) (w : ℕ) (s : Bool) (low high n : ℤ)
    → Behind us w s low high n → is_unchosen us w s low high n ≡ true
stands-for-none {A = A} us w s low high n b =
    let within : (int_lt n low || int_lt high n) ≡ false =
    grind (arith, nat_tests, ints, b.from, b.upto) in
    let past : length us ≤ nat_abs (n -ℤ low) = omega (arith, ints, b.from) in
    let none : is_none (usage_chosen us low high n) ≡ true =
    ap (λ t. is_none (cond t None (slice_get us (nat_abs (n -ℤ low))))) within
    ∙ ap (λ (o : Option A). is_none o) (slice_get_past us (nat_abs (n -ℤ low)) past) in
    of-three (nat_lt 0 w && nat_le w 32) (is_none (usage_chosen us low high n)) (fits w s n)
    b.wide none b.held

-- a number between two that so many bits hold
fits-between : (w : ℕ) (s : Bool) (a b n : ℤ) → fits w s a ≡ true → fits w s b ≡ true → a ≤ℤ n
    → n ≤ℤ b → fits w s n ≡ true
fits-between w false (pos a) (pos b) (pos n) p q from upto = grind (arith, nat_tests, ints)
fits-between w false (pos a) (pos b) (negsuc n) p q from upto = absurd (omega (arith, ints, from))
fits-between w false (negsuc a) b n p q from upto = cc
fits-between w false (pos a) (negsuc b) n p q from upto = cc
fits-between w true (pos a) (pos b) (pos n) p q from upto = grind (arith, nat_tests, ints)
fits-between w true (negsuc a) (pos b) (pos n) p q from upto = grind (arith, nat_tests, ints)
fits-between w true (negsuc a) (pos b) (negsuc n) p q from upto = grind (arith, nat_tests, ints)
fits-between w true (negsuc a) (negsuc b) (negsuc n) p q from upto =
    grind (arith, nat_tests, ints)
fits-between w true (pos a) b (negsuc n) p q from upto = absurd (omega (arith, ints, from))
fits-between w true (pos a) (negsuc b) (pos n) p q from upto = absurd (omega (arith, ints, upto))
fits-between w true (negsuc a) (negsuc b) (pos n) p q from upto = absurd (omega (arith, ints, upto))

-- where the usages go past the upper bound, no number stands for none
pub none-behind : {A : Type 0} (us : List A) (w : ℕ) (s : Bool) (low high : ℤ)
    → ((n : ℤ) → is_null w s low high n ≡ false) → high <ℤ (low +ℤ pos (length us))
    → (other : ℤ) → is_unchosen us w s low high other ≡ false
none-behind us w s low high outer past other =
    not-true (is_unchosen us w s low high other) (λ un.
    let b = behind us w s low high other (outer other) un in
    absurd (omega (arith, ints, past, b.from, b.upto)))

-- the greater of the number behind the usages and the least that bits hold
pub record Candidate {A : Type 0} (us : List A) (w : ℕ) (s : Bool) (low m : ℤ) : Type 0 where
  pub least : ℤ
  pub held : fits w s least ≡ true
  pub lowest : (n : ℤ) → fits w s n ≡ true → least ≤ℤ n
  pub above : least ≤ℤ m
  pub from : (low +ℤ pos (length us)) ≤ℤ m
  pub greater : (n : ℤ) → least ≤ℤ n → (low +ℤ pos (length us)) ≤ℤ n → m ≤ℤ n

pub none-held : {A : Type 0} (us : List A) (w : ℕ) (s : Bool) (low high m : ℤ) → Candidate us w s low m
    → ((n : ℤ) → is_null w s low high n ≡ false)
    → (high <ℤ m) ⊎ (fits w s m ≡ false)
    → (other : ℤ) → is_unchosen us w s low high other ≡ false
none-held us w s low high m can outer bad other =
    not-true (is_unchosen us w s low high other) (λ un.
    let b = behind us w s low high other (outer other) un in
    let below : m ≤ℤ other = can.greater other (can.lowest other b.held) b.from in
    by b.upto b.held below bad)
  where
    by : other ≤ℤ high → fits w s other ≡ true → m ≤ℤ other
        → (high <ℤ m) ⊎ (fits w s m ≡ false)
        → is_unchosen us w s low high other ≡ false
    by upto held below (inl past) = absurd (omega (arith, ints, past, upto, below))
    by upto held below (inr wide) =
        let holds : fits w s m ≡ true =
        fits-between w s can.least other m can.held held can.above below in cc

pub least-behind : {A : Type 0} (us : List A) (w : ℕ) (s : Bool) (low high m : ℤ) → Candidate us w s low m
    → ((n : ℤ) → is_null w s low high n ≡ false) → (nat_lt 0 w && nat_le w 32) ≡ true
    → m ≤ℤ high → fits w s m ≡ true → IsLeastUnchosen us w s low high (Some m)
least-behind us w s low high m can outer wide upto held = (
  stands-for-none us w s low high m (record {
    wide = wide;
    from = can.from;
    upto = upto;
    held = held;
  }),
  λ other un.
      let b = behind us w s low high other (outer other) un in
      can.greater other (can.lowest other b.held) b.from,
)

max-least : (a b n : ℤ) → a ≤ℤ n → b ≤ℤ n → int_max a b ≤ℤ n
max-least a b n p q = grind (arith, nat_tests, ints)

max-left : (a b : ℤ) → a ≤ℤ int_max a b
max-left a b = grind (arith, nat_tests, ints)

max-right : (a b : ℤ) → b ≤ℤ int_max a b
max-right a b = grind (arith, nat_tests, ints)

pub candidate : {A : Type 0} (us : List A) (w : ℕ) (s t : Bool) (low all x least m n : ℤ)
    → t ≡ s → fits w t x ≡ true → ((k : ℤ) → fits w t k ≡ true → x ≤ℤ k) → least ≡ x
    → all ≡ low +ℤ pos (length us) → m ≡ int_max all least → n ≡ m → Candidate us w s low n
candidate us w s t low all x least m n same-sign held lowest is-x sum is-m is-n =
    let is : n ≡ int_max all x = is-n ∙ is-m ∙ ap (int_max all) is-x in
    record {
      least = x;
      held = sym (ap (λ y. fits w y x) same-sign) ∙ held;
      lowest = λ k fit. lowest k (ap (λ y. fits w y k) same-sign ∙ fit);
      above = subst (λ y. x ≤ℤ y) (sym is) (max-right all x);
      from = subst (λ y. y ≤ℤ n) sum (subst (λ y. all ≤ℤ y) (sym is) (max-left all x));
      greater = λ k p q. subst (λ y. y ≤ℤ k) (sym is)
          (max-least all x k (subst (λ y. y ≤ℤ k) (sym sum) q) p);
    }

-- the test of the code, with the same sign
pub fits-same : (w : ℕ) (s t r b : Bool) (n : ℤ) → t ≡ s → r ≡ fits w t n → r ≡ b
    → fits w s n ≡ b
fits-same w s t r b n same-sign is e = sym (ap (λ y. fits w y n) same-sign) ∙ sym is ∙ e
