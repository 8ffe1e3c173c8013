use Rattle.std.proofs.Common.{◌≡◌, ◌∙◌, ◌-ℤ◌, ℤ, Bool, true, false, cond, Option, None, Some, ap}
use Rattle.std.proofs.Common.{arith, int_lt, of_z, refl, sym, to_z}
use Rattle.std.specs.Int.{w32, w64, w128}
use Rattle.std.proofs.lemmas.Int.{ints}
use Rattle.hidreport.specs.Scaling.{on_line}
use Rattle.hidreport_fields.specs.declared.field.fraction.Fraction.{Fraction}
use Rattle.hidreport_c.specs.Scaling.{fraction_as_c}
use Rattle.hidreport_c.proofs.structs.HidreportFraction.on_line.Goals as goal

by-order : (b : Bool) (n d : ℤ) (f : Fraction)
    → cond b (Some (record { numerator = n; denominator = d })) None ≡ Some f → f.denominator ≡ d
by-order true n d f is = ap below (sym is) where
  below : Option Fraction → ℤ
  below None = d
  below (Some g) = g.denominator
by-order false n d f is = cc

-- the number below the line is the distance of the bounds
distance : (low high first last v : ℤ) (f : Fraction) → on_line low high first last v ≡ Some f
    → f.denominator ≡ high -ℤ low
distance low high first last v f is = by-order (int_lt low high) _ (high -ℤ low) f is

same-line : (low low2 high high2 first first2 last last2 v v2 : ℤ) → low ≡ low2 → high ≡ high2
    → first ≡ first2 → last ≡ last2 → v ≡ v2
    → on_line low high first last v ≡ on_line low2 high2 first2 last2 v2
same-line low low2 high high2 first first2 last last2 v v2 a b c d e = rw (a, b, c, d, e) refl

same-told : (n n2 d d2 : ℤ) → n ≡ n2 → d ≡ d2
    → fraction_as_c (Some (record { numerator = n; denominator = d }))
    ≡ fraction_as_c (Some (record { numerator = n2; denominator = d2 }))
same-told n n2 d d2 a b = rw (a, b) refl

pub returns : goal.returns
returns c =
    let x = c.args in
    let f = c.in-Some.fraction in
    let low : to_z w32 (of_z w32 x.low) ≡ x.low = omega (arith, ints) in
    let high : to_z w32 (of_z w32 x.high) ≡ x.high = omega (arith, ints) in
    let first : to_z w32 (of_z w32 x.first) ≡ x.first = omega (arith, ints) in
    let last : to_z w32 (of_z w32 x.last) ≡ x.last = omega (arith, ints) in
    let value : to_z w64 (of_z w64 x.value) ≡ x.value = omega (arith, ints) in
    let line : on_line x.low x.high x.first x.last x.value ≡ Some f =
    sym (same-line _ x.low _ x.high _ x.first _ x.last _ x.value low high first last value)
    ∙ sym c.on_line.ensures ∙ c.in-Some.is in
    let above : to_z w128 (of_z w128 f.numerator) ≡ f.numerator = omega (arith, ints) in
    let below : to_z w64 (of_z w64 c.denominator.result) ≡ f.denominator =
    omega (arith, ints, c.denominator.ensures, distance x.low x.high x.first x.last x.value f line) in
    c.of.ensures ∙ same-told _ f.numerator _ f.denominator above below
    ∙ ap fraction_as_c (sym line)
