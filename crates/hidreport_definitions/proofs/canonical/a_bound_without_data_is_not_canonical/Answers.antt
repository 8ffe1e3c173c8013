use Rattle.std.proofs.Common.{refl, arith}
use Rattle.hidreport_definitions.proofs.canonical.a_bound_without_data_is_not_canonical.Goals as goal

pub returns-clause-breaks : goal.returns-clause-breaks
returns-clause-breaks c = λ canonical. omega (arith, canonical.has_data refl)
