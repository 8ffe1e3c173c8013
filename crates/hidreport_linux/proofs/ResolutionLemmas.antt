-- Tens one by one.
use Rattle.std.proofs.Common.{◌≡◌, ℕ, ℤ, pos, ◌+◌, ◌-◌, ◌<◌, suc, Some, refl, ap, ◌∙◌, arith}
use Rattle.hidreport_linux.specs.Resolution.{tens, times}

tens_more : (k : ℕ) (n more : ℤ) → times n (pos 10) ≡ Some more → tens (suc k) n ≡ tens k more
tens_more k n more e = rw e refl

-- where one ten more is left, it is taken first
pub tens_step : (count power : ℕ) (n more : ℤ) → power < count → times n (pos 10) ≡ Some more
    → tens (count - power) n ≡ tens (count - (power + 1)) more
tens_step count power n more h e =
    let one : count - power ≡ suc (count - (power + 1)) = omega arith in
    ap (λ k. tens k n) one ∙ tens_more (count - (power + 1)) n more e
