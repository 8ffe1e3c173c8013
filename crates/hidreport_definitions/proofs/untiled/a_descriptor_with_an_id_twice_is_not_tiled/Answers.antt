use Rattle.std.proofs.Common.{Some, arith}
use Rattle.hidreport_definitions.proofs.untiled.a_descriptor_with_an_id_twice_is_not_tiled.Goals as
    goal

pub returns-clause-input : goal.returns-clause-input
returns-clause-input c = λ tiled. omega (arith, tiled.input_ids.once (Some 1))

pub returns-clause-output : goal.returns-clause-output
returns-clause-output c = λ tiled. omega (arith, tiled.output_ids.once (Some 1))

pub returns-clause-feature : goal.returns-clause-feature
returns-clause-feature c = λ tiled. omega (arith, tiled.feature_ids.once (Some 1))
