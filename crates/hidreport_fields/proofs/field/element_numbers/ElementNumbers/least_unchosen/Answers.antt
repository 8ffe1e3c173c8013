use Rattle.std.proofs.Common.{◌≡◌, ◌+ℤ◌, ◌≤ℤ◌, ◌<ℤ◌, ℤ, List, pos, to_z, of_z, arith, length, int_lt}
use Rattle.std.proofs.Common.{inl, inr, ◌&&◌, nat_lt, nat_le, true, false}
use Rattle.std.specs.Int.{w64}
use Rattle.std.proofs.lemmas.Int.{ints}
use Rattle.std.proofs.lemmas.Bool.Decides.{nat_tests}
use Rattle.hidreport_fields.specs.declared.field.usage.Usage.{Usage}
use Rattle.hidreport_fields.proofs.UnchosenLemmas.{Candidate, candidate, fits-same, least-behind}
use Rattle.hidreport_fields.proofs.UnchosenLemmas.{none-held}
use Rattle.hidreport_fields.proofs.field.element_numbers.ElementNumbers.least_unchosen.Goals as goal
use Rattle.hidreport_fields.proofs.field.element_numbers.ElementNumbers.least_unchosen.Goals.{After-max-number}

-- the number that the code looks at, as an integer, is the candidate
can : (c : After-max-number) (listed : List Usage) → length listed ≡ c.args.usages
    → Candidate listed c.args.self.now.width (int_lt c.args.self.now.minimum (pos 0))
    c.args.self.now.minimum (to_z w64 (of_z w64 c.max-number.result))
can c listed size =
    let f = c.args.self.now in
    let s = int_lt f.minimum (pos 0) in
    let sum : to_z w64 (of_z w64 c.in_ok-behind.behind) ≡ f.minimum +ℤ pos (length listed) =
    omega (arith, ints, c.in_ok-behind.ensures.some, size) in
    let least : to_z w64 (of_z w64 c.least_held.result) ≡ c.least_held.result =
    omega (arith, ints) in
    let back : to_z w64 (of_z w64 c.max-number.result) ≡ c.max-number.result =
    omega (arith, ints) in
    candidate listed f.width s c.is_signed-is_signed.result f.minimum _ c.least_held.result _
    c.max-number.result _ c.is_signed-is_signed.ensures c.least_held.ensures.held
    c.least_held.ensures.least least sum c.max-number.ensures.value back

pub returns-then-from-number : goal.returns-then-from-number
returns-then-from-number c = λ outer listed size.
    let f = c.args.self.now in
    let m : ℤ = to_z w64 (of_z w64 c.max-number.result) in
    let past : f.maximum <ℤ m = omega (arith, ints, c.if-from-number.true) in
    none-held listed f.width (int_lt f.minimum (pos 0)) f.minimum f.maximum m
    (can (goal.at.returns-then-from-number c).After-max-number listed size) outer (inl past)

pub returns-then-not-fits : goal.returns-then-not-fits
returns-then-not-fits c = λ outer listed size.
    let f = c.args.self.now in
    let s = int_lt f.minimum (pos 0) in
    let m : ℤ = to_z w64 (of_z w64 c.max-number.result) in
    none-held listed f.width s f.minimum f.maximum m
    (can (goal.at.returns-then-not-fits c).After-max-number listed size) outer
    (inr (fits-same f.width s c.is_signed-is_signed.result c.fits.result false m
    c.is_signed-is_signed.ensures c.fits.ensures c.if-not-fits.true))

pub returns : goal.returns
returns c = λ outer listed size.
    let f = c.args.self.now in
    let s = int_lt f.minimum (pos 0) in
    let m : ℤ = to_z w64 (of_z w64 c.max-number.result) in
    let upto : m ≤ℤ f.maximum = omega (arith, ints, c.if-from-number.false) in
    let wide : (nat_lt 0 f.width && nat_le f.width 32) ≡ true =
    grind (arith, nat_tests, c.if-self-eq0.false, c.if-self-gt32.false) in
    least-behind listed f.width s f.minimum f.maximum m
    (can (goal.at.returns c).After-max-number listed size) outer wide upto
    (fits-same f.width s c.is_signed-is_signed.result c.fits.result true m
    c.is_signed-is_signed.ensures c.fits.ensures c.if-not-fits.false)
