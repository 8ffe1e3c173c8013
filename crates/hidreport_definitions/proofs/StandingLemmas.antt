-- The least number that chooses no usage, where two are chosen by 0 and 1.
use Rattle.std.proofs.Common.{◌≡◌, ◌≤ℤ◌, ℤ, zero, suc, true, false, arith}
use Rattle.std.specs.Prelude.{pos, negsuc}
use Rattle.std.proofs.lemmas.Int.{ints}
use Rattle.hidreport.specs.Standing.{is_unchosen}
use Rattle.hidreport.specs.Usages.{range_from}

pub least : (other : ℤ) → is_unchosen (range_from 9 1 2) 2 false (pos 0) (pos 3) other ≡ true
    → pos 2 ≤ℤ other
least (pos zero) e = cc
least (pos (suc zero)) e = cc
least (pos (suc (suc n))) e = omega (arith, ints)
least (negsuc n) e = cc
