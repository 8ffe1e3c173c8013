-- Names of families, and the numbers in them.
use Rattle.std.proofs.Common.{◌≡◌, ◌≢◌, ℕ, zero, suc, ◌/◌, ◌%◌, ◌<◌, List, [], ◌++◌, Option, Some, None, Result, Ok}
use Rattle.std.proofs.Common.{Err, slice_index, sym, ap, ◌∙◌, arith}
use Rattle.std.specs.Prelude.{decimal}
use Rattle.std.specs.Option.{unwrap_or}
use Rattle.std.specs.Result.{result_ok}
use Rattle.std.proofs.lemmas.Bool.Decides.{nat_tests}
use Rattle.std.proofs.lemmas.Fmt.{decimal_injective}
use Rattle.std.proofs.lemmas.List.{append_cancel_left}
use Rattle.hidreport_usages.specs.Digits.{digit, four_digits, IsNumberOf}
use Rattle.hidreport_usages.specs.Families.{counted}
use Rattle.hidreport_usages.specs.Naming.{IsOnlyNamed}

pub same_some : (x y : List ℕ) → Some x ≡ Some y → x ≡ y
same_some x y e = ap (λ o. unwrap_or o []) e

pub none_some : (x : List ℕ) → None ≡ Some x → ⊥
none_some x e = grind (arith, e)

-- digits and four of them tell the number
digit_injective : (m n : ℕ) → m < 16 → n < 16 → digit m ≡ digit n → m ≡ n
digit_injective m n lm ln e = grind (arith, nat_tests, e)

pub four_digits_injective : (m n : ℕ) → m < 65536 → n < 65536 → four_digits m ≡ four_digits n → m ≡ n
four_digits_injective m n lm ln e =
    let at = λ (k : ℕ). ap (λ ds. slice_index ds k) e in
    let first = digit_injective (m / 4096) (n / 4096) (omega arith) (omega arith) (at 0) in
    let second = digit_injective (m / 256 % 16) (n / 256 % 16) (omega arith) (omega arith) (at 1) in
    let third = digit_injective (m / 16 % 16) (n / 16 % 16) (omega arith) (omega arith) (at 2) in
    let fourth = digit_injective (m % 16) (n % 16) (omega arith) (omega arith) (at 3) in
    omega (arith, first, second, third, fourth)

-- from 1 on a counted name has the number
counted_more : (zeroth : Option (List ℕ)) (prefix : List ℕ) (n : ℕ) → n ≢ 0
    → counted zeroth prefix n ≡ Some (prefix ++ decimal n)
counted_more zeroth prefix n h = grind (arith, nat_tests, h)

module _ (prefix rest name : List ℕ) (split : prefix ++ rest ≡ name) where
  -- a name with the prefix has these digits
  behind : (digits : List ℕ) → Some (prefix ++ digits) ≡ Some name → digits ≡ rest
  behind digits e = append_cancel_left prefix digits rest (same_some (prefix ++ digits) name e ∙ sym split)

  pub digits_only : (r : Option ℕ) → IsNumberOf four_digits rest r
      → IsOnlyNamed (λ id. Some (prefix ++ four_digits id)) name r
  digits_only None h = λ n inside e. h n inside (behind (four_digits n) e)
  digits_only (Some m) h = (
    h.0,
    ap (λ digits. Some (prefix ++ digits)) h.1 ∙ ap Some split,
    λ n inside e. four_digits_injective n m inside h.0 (behind (four_digits n) e ∙ sym h.1),
  )

  -- a counted name is that of a number from 1 on
  counted_behind : (n : ℕ) → counted None prefix n ≡ Some name → (n ≢ 0) × (decimal n ≡ rest)
  counted_behind zero e = absurd (none_some name e)
  counted_behind (suc k) e =
      let other : suc k ≢ 0 = λ z. omega (arith, z) in
      (other, behind (decimal (suc k)) (sym (counted_more None prefix (suc k) other) ∙ e))

  pub counted_none : IsNumberOf decimal rest None → IsOnlyNamed (counted None prefix) name None
  counted_none h = λ n inside e. h n inside (counted_behind n e).1

  pub counted_zero : decimal 0 ≡ rest → IsOnlyNamed (counted None prefix) name None
  counted_zero h = λ n inside e.
      let number = counted_behind n e in
      number.0 (decimal_injective n 0 (omega arith) (omega arith) (number.1 ∙ sym h))

  pub counted_some : (m : ℕ) → m < 65536 → m ≢ 0 → decimal m ≡ rest → IsOnlyNamed (counted None prefix) name (Some m)
  counted_some m inside other h = (
    inside,
    counted_more None prefix m other ∙ ap (λ digits. Some (prefix ++ digits)) h ∙ ap Some split,
    λ n small e. decimal_injective n m (omega arith) (omega arith) ((counted_behind n e).1 ∙ sym h),
  )

pub not_both : {E : Type 0} (r : Result ℕ E) (n : ℕ) (e : E) → r ≡ Ok n → r ≡ Err e → ⊥
not_both r n e ok err = grind (arith, ok, err)

pub same_ok : {E : Type 0} (r : Result ℕ E) (m n : ℕ) → r ≡ Ok m → r ≡ Ok n → m ≡ n
same_ok r m n x y = ap (λ o. unwrap_or (result_ok o) 0) (sym x ∙ y)
