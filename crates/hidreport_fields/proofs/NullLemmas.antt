-- Numbers outside the logical bounds that some bits hold.
use Rattle.std.proofs.Common.{◌≡◌, ℕ, ◌-◌, ◌^◌, ◌<◌, Bool, true, false, cond}
use Rattle.std.proofs.Common.{int_lt, ℤ, pos, negsuc, ◌+ℤ◌, ◌-ℤ◌, refl, sym, ap, ◌∙◌, arith}
use Rattle.std.proofs.Common.{Some, None}
use Rattle.std.proofs.lemmas.Bool.Decides.{nat_tests}
use Rattle.std.proofs.lemmas.Int.{ints}
use Rattle.std.proofs.lemmas.Nat.{pow_pos}
use Rattle.hidreport_fields.specs.Standing.{is_null, null_number}

-- where 0, the number below and the one above aren't null, none is
pub null-complete : (w : ℕ) (low high n : ℤ)
    → is_null w (int_lt low (pos 0)) low high (pos 0) ≡ false
    → is_null w (int_lt low (pos 0)) low high (low -ℤ pos 1) ≡ false
    → is_null w (int_lt low (pos 0)) low high (high +ℤ pos 1) ≡ false
    → is_null w (int_lt low (pos 0)) low high n ≡ false
null-complete w (pos i) (pos m) (pos k) zero-not below above =
    let p : 0 < 2 ^ w = pow_pos w in grind (arith, nat_tests, ints)
null-complete w (pos i) (pos m) (negsuc k) zero-not below above = grind (arith, nat_tests, ints)
null-complete w (pos i) (negsuc m) (pos k) zero-not below above =
    let p : 0 < 2 ^ w = pow_pos w in grind (arith, nat_tests, ints)
null-complete w (pos i) (negsuc m) (negsuc k) zero-not below above = grind (arith, nat_tests, ints)
null-complete w (negsuc i) (pos m) (pos k) zero-not below above =
    let p : 0 < 2 ^ (w - 1) = pow_pos (w - 1) in grind (arith, nat_tests, ints)
null-complete w (negsuc i) (pos m) (negsuc k) zero-not below above =
    let p : 0 < 2 ^ (w - 1) = pow_pos (w - 1) in grind (arith, nat_tests, ints)
null-complete w (negsuc i) (negsuc m) n zero-not below above =
    let p : 0 < 2 ^ (w - 1) = pow_pos (w - 1) in grind (arith, nat_tests, ints)

-- which of the three is the answer
choose-third : (a b d : Bool) (x y z : ℤ) → a ≡ false → b ≡ false → d ≡ true
    → Some z ≡ cond a (Some x) (cond b (Some y) (cond d (Some z) None))
choose-third true b d x y z p q r = cc
choose-third false true d x y z p q r = cc
choose-third false false true x y z p q r = refl
choose-third false false false x y z p q r = cc

choose-none : (a b d : Bool) (x y z : ℤ) → a ≡ false → b ≡ false → d ≡ false
    → None ≡ cond a (Some x) (cond b (Some y) (cond d (Some z) None))
choose-none true b d x y z p q r = cc
choose-none false true d x y z p q r = cc
choose-none false false true x y z p q r = cc
choose-none false false false x y z p q r = refl

-- 0 and the number below the bounds are not; the numbers beside the bounds
pub record IsBeside (w : ℕ) (s : Bool) (low high x y : ℤ) : Type 0 where
  pub below : x ≡ low -ℤ pos 1
  pub above : y ≡ high +ℤ pos 1
  pub zero_not : is_null w s low high (pos 0) ≡ false
  pub below_not : is_null w s low high x ≡ false

pub null-third : {w : ℕ} {s : Bool} {low high x y : ℤ} → IsBeside w s low high x y
    → is_null w s low high y ≡ true → Some y ≡ null_number w s low high
null-third {w = w} {s = s} {low = low} {high = high} b above =
    ap (λ (z : ℤ). Some z) b.above
    ∙ choose-third _ _ _ (pos 0) (low -ℤ pos 1) (high +ℤ pos 1) b.zero_not
    (sym (ap (is_null w s low high) b.below) ∙ b.below_not)
    (sym (ap (is_null w s low high) b.above) ∙ above)

pub null-none : {w : ℕ} {s : Bool} {low high x y : ℤ} → IsBeside w s low high x y
    → is_null w s low high y ≡ false → None ≡ null_number w s low high
null-none {w = w} {s = s} {low = low} {high = high} b above =
    choose-none _ _ _ (pos 0) (low -ℤ pos 1) (high +ℤ pos 1) b.zero_not
    (sym (ap (is_null w s low high) b.below) ∙ b.below_not)
    (sym (ap (is_null w s low high) b.above) ∙ above)

pub null-all : {w : ℕ} {low high x y : ℤ} → IsBeside w (int_lt low (pos 0)) low high x y
    → is_null w (int_lt low (pos 0)) low high y ≡ false
    → (n : ℤ) → is_null w (int_lt low (pos 0)) low high n ≡ false
null-all {w = w} {low = low} {high = high} b above n =
    null-complete w low high n b.zero_not
    (sym (ap (is_null w (int_lt low (pos 0)) low high) b.below) ∙ b.below_not)
    (sym (ap (is_null w (int_lt low (pos 0)) low high) b.above) ∙ above)
