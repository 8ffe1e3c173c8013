use Rattle.std.proofs.Common.{arith}
use Rattle.hidreport_definitions.proofs.tiling.a_field_has_a_number_of_its_own.Goals as goal

pub returns-clause-two_fields : goal.returns-clause-two_fields
returns-clause-two_fields c = λ own. omega (arith, own 0)
