use Rattle.std.proofs.Common.{arith}
use Rattle.hidreport_definitions.proofs.untiled.a_descriptor_with_a_number_twice_is_not_tiled.Goals
    as goal

pub returns-clause-one_direction : goal.returns-clause-one_direction
returns-clause-one_direction c = λ tiled. omega (arith, tiled.numbers 0)

pub returns-clause-input_output : goal.returns-clause-input_output
returns-clause-input_output c = λ tiled. omega (arith, tiled.numbers 0)

pub returns-clause-input_feature : goal.returns-clause-input_feature
returns-clause-input_feature c = λ tiled. omega (arith, tiled.numbers 0)

pub returns-clause-output_feature : goal.returns-clause-output_feature
returns-clause-output_feature c = λ tiled. omega (arith, tiled.numbers 0)
