use Rattle.std.proofs.Common.{◌≡◌, arith}
use Rattle.hidreport.specs.UnitTable.{places_of}
use Rattle.hidreport_definitions.proofs.units.other_units_make_up_another_number.Goals as goal

pub returns-clause-left_out : goal.returns-clause-left_out
returns-clause-left_out c = λ law.
    let made : 1 ≡ 0x11 = law (omega arith) (omega arith) (omega arith) in
    omega (arith, made)

pub returns-clause-another : goal.returns-clause-another
unfolding places_of
returns-clause-another c = λ law.
    let made : 0x1001 ≡ 0x11 = law (omega arith) (omega arith) (omega arith) in
    omega (arith, made)

pub returns-clause-exponent : goal.returns-clause-exponent
unfolding places_of
returns-clause-exponent c = λ law.
    let made : 0x21 ≡ 0x11 = law (omega arith) (omega arith) (omega arith) in
    omega (arith, made)

pub returns-clause-highest_place : goal.returns-clause-highest_place
returns-clause-highest_place c = λ law.
    let made : 4 ≡ 0x01000014 = law (omega arith) (omega arith) (omega arith) in
    omega (arith, made)

pub returns-clause-no_system : goal.returns-clause-no_system
returns-clause-no_system c = λ named known low. absurd (omega (arith, named))

pub returns-clause-no_known_system : goal.returns-clause-no_known_system
returns-clause-no_known_system c = λ named known low. absurd (omega (arith, known))

pub returns-clause-highest_nibble : goal.returns-clause-highest_nibble
returns-clause-highest_nibble c = λ named known low. absurd (omega (arith, low))
