use Rattle.std.proofs.Common.{ℕ, zero, suc, [], ◌∷◌, List, Option, None, Some, refl, ap, arith}
use Rattle.std.specs.Prelude.{pos, negsuc}
use Rattle.std.proofs.lemmas.Int.{ints}
use Rattle.hidreport.specs.Usages.{make_usage, range_from}
use Rattle.hidreport_fields.specs.declared.field.usage.Usage.{Usage}
use Rattle.hidreport_fields.proofs.StandingLemmas.{NotBefore, least-for, none-past}
use Rattle.hidreport_definitions.proofs.standing.a_usage_has_its_least_number.Goals as goal

abbrev id_in : Option Usage → ℕ
id_in None = 0
id_in (Some u) = u.usage_id

abbrev eight : List Usage
eight = range_from 9 1 8

abbrev twice : List Usage
twice = make_usage 9 1 ∷ make_usage 9 2 ∷ make_usage 9 1 ∷ []

buttons : NotBefore eight (make_usage 9 3) 2
buttons zero lt e = omega (arith, ap id_in e)
buttons (suc zero) lt e = omega (arith, ap id_in e)
buttons (suc (suc k)) lt e = omega (arith, lt)

first : NotBefore twice (make_usage 9 1) 0
first k lt e = omega (arith, lt)

nowhere : NotBefore eight (make_usage 9 9) 8
nowhere zero lt e = omega (arith, ap id_in e)
nowhere (suc zero) lt e = omega (arith, ap id_in e)
nowhere (suc (suc zero)) lt e = omega (arith, ap id_in e)
nowhere (suc (suc (suc zero))) lt e = omega (arith, ap id_in e)
nowhere (suc (suc (suc (suc zero)))) lt e = omega (arith, ap id_in e)
nowhere (suc (suc (suc (suc (suc zero))))) lt e = omega (arith, ap id_in e)
nowhere (suc (suc (suc (suc (suc (suc zero)))))) lt e = omega (arith, ap id_in e)
nowhere (suc (suc (suc (suc (suc (suc (suc zero))))))) lt e = omega (arith, ap id_in e)
nowhere (suc (suc (suc (suc (suc (suc (suc (suc k)))))))) lt e = omega (arith, lt)

pub returns : goal.returns
returns c = record {
  third = least-for eight (pos 0) (pos 7) (make_usage 9 3) 2 (pos 2) refl refl buttons
      (omega (arith, ints));
  from_minus_one = least-for eight (negsuc 0) (pos 6) (make_usage 9 3) 2 (pos 1) refl refl buttons
      (omega (arith, ints));
  listed_twice = least-for twice (pos 0) (pos 2) (make_usage 9 1) 0 (pos 0) refl refl first
      (omega (arith, ints));
  not_listed = none-past eight (pos 0) (pos 7) (make_usage 9 9) 8 nowhere (omega (arith, ints));
  behind_the_maximum = none-past eight (pos 0) (pos 1) (make_usage 9 3) 2 buttons
      (omega (arith, ints));
}
