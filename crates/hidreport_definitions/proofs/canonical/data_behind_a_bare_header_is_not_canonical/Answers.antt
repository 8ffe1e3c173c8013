use Rattle.std.proofs.Common.{refl, arith}
use Rattle.hidreport_definitions.proofs.canonical.data_behind_a_bare_header_is_not_canonical.Goals as
    goal

pub returns-clause-breaks : goal.returns-clause-breaks
returns-clause-breaks c = λ canonical. omega (arith, canonical.bare refl)
