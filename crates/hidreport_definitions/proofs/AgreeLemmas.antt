-- Bytes that agree on a range of bits, by looking at each.
use Rattle.std.proofs.Common.{◌≡◌, ◌<◌, ◌+◌, ◌&&◌, ◌==◌, ℕ, zero, suc, Bool, true, false, List, nat_lt}
use Rattle.std.proofs.Common.{refl, subst, arith}
use Rattle.std.proofs.lemmas.Bool.Decides.{nat_tests}
use Rattle.hidreport.specs.BitValue.{bit}
use Rattle.hidreport.specs.Bits.{AgreeOn}
use Rattle.hidreport_definitions.proofs.RelationLemmas.{both}

-- so many bits from one on are the same
abbrev pub agree : ℕ → ℕ → List ℕ → List ℕ → Bool
agree first zero bytes other = true
agree first (suc n) bytes other =
    agree first n bytes other && (bit bytes (first + n) == bit other (first + n))

pub agrees : (first count : ℕ) (bytes other : List ℕ) → agree first count bytes other ≡ true
    → AgreeOn first count bytes other
agrees first zero bytes other e i lt = absurd (omega (arith, lt))
agrees first (suc n) bytes other e i lt =
    by (nat_lt i n) refl (agrees first n bytes other (both (agree first n bytes other) _ e).0 i)
  where
    by : (b : Bool) → nat_lt i n ≡ b → (i < n → bit bytes (first + i) ≡ bit other (first + i))
        → bit bytes (first + i) ≡ bit other (first + i)
    by true below rest = rest (grind (arith, nat_tests, below))
    by false above rest =
        let last : n ≡ i = grind (arith, nat_tests, above, lt) in
        let same : bit bytes (first + n) ≡ bit other (first + n) =
        grind (arith, nat_tests, (both (agree first n bytes other) _ e).1) in
        subst (λ k. bit bytes (first + k) ≡ bit other (first + k)) last same
