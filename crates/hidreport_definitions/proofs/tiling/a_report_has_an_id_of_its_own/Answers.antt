use Rattle.std.proofs.Common.{Some, arith}
use Rattle.hidreport_definitions.proofs.tiling.a_report_has_an_id_of_its_own.Goals as goal

pub returns-clause-twice : goal.returns-clause-twice
returns-clause-twice c = λ own. omega (arith, own.once (Some 1))

pub returns-clause-apart : goal.returns-clause-apart
returns-clause-apart c = λ own. omega (arith, own.once (Some 1))
